-- What a decision does to state, slots and packet. Assumes nothing: these are definitions.
use Rattle.std.specs.Prelude.{ℕ, ◌<◌, ◌≤◌, ◌/◌, Bool, true, false, cond, List, eqb, length, get_or}
use Rattle.servers.specs.declared.Server.{Server}
use Rattle.servers.specs.declared.ServerNo.{ServerNo}
use Rattle.servers.specs.Servers.{server_at, count_at}
use Rattle.scheduler.specs.declared.walk.Walk.{Walk}
use Rattle.packet.specs.declared.redirect.Side.{Side}
use Rattle.packet.specs.Redirect.{redirected, Redirectable}
use Rattle.table.specs.declared.slot.Slot.{Slot}
use Rattle.table.specs.Slots.{words_per_slot, slots, words, free_slot, slot_at, IsRow}
use Rattle.table.specs.Changes.{opened, touched, freed}
use Rattle.director.specs.declared.state.Service.{Service}
use Rattle.director.specs.declared.state.Director.{Director}
use Rattle.director.specs.declared.state.Change.{Change}
use Rattle.director.specs.declared.state.Answer.{Answer}
use Rattle.director.specs.declared.segment.Sender.{Sender}
use Rattle.director.specs.declared.segment.Segment.{Segment}
use Rattle.director.specs.declared.decide.Decision.{Decision}
use Rattle.director.specs.State.{with_one_less, with_one_more, Lent, with_table, with_packet, Held, refusal}

-- "An inbound FIN moves 1 to 2 and 3 to 4; outbound moves 1 to 3 and 2 to 4." (SCOPE 8.7)
abbrev pub phase_on_fin : ℕ → Sender → ℕ
phase_on_fin phase Sender.Client = cond (eqb phase 1) 2 (cond (eqb phase 3) 4 phase)
phase_on_fin phase (Sender.Server i) = cond (eqb phase 1) 3 (cond (eqb phase 2) 4 phase)

abbrev pub phase_of : ℕ → Bool → Sender → ℕ
phase_of phase true sender = phase_on_fin phase sender
phase_of phase false sender = phase

-- the phase of a connection after a packet of it
abbrev pub phase_after : Segment → Slot → ℕ
phase_after m s = phase_of s.phase m.flags.fin m.sender

-- the packet sent on: "Inbound rewriting sets destination address and port to the server's. Outbound sets source address and port to the
-- virtual ones." (SCOPE 7.4)
abbrev pub sent_on : Service → Server → List ℕ → Sender → List ℕ
sent_on g v p Sender.Client = redirected g.protocol Side.Destination v.address v.port p
sent_on g v p (Sender.Server i) = redirected g.protocol Side.Source g.address g.port p

-- a packet of server k, sent on
abbrev pub forwarded : Director → ℕ → List ℕ → Sender → List ℕ
forwarded d k p sender = sent_on d.service (server_at d.servers k) p sender

-- an accepted packet of server no: "return the server number and one of: opened .., ended .., kept" (SCOPE 7.9)
abbrev pub passed : Director → Lent (List Slot) → Segment → ServerNo → Change → Held
passed d x m i change =
    record { answer = Answer.Passed i change; director = d; lent = with_packet x (forwarded d i.0 x.packet m.sender) }

-- kept: "Every accepted packet sets last-seen." (SCOPE 8.10)
abbrev pub kept_held : Director → Lent (List Slot) → Segment → ℕ → Held
kept_held d x m k =
    let s = get_or x.table k free_slot in
    passed d (with_table x (touched x.table k (phase_after m s) d.clock)) m s.server Change.Kept

-- ended: "the slot zeroed, the count lowered" (SCOPE 8.8)
abbrev pub ended_held : Director → Lent (List Slot) → Segment → ℕ → Held
ended_held d x m k =
    let s = get_or x.table k free_slot in
    passed (with_one_less d s.server.0) (with_table x (freed x.table k)) m s.server Change.Ended

-- opened: "phase 1, last-seen the clock, server's count plus 1" (SCOPE 8.4)
abbrev pub opened_held : Director → Lent (List Slot) → Segment → ℕ → ServerNo → Walk → Held
opened_held d x m k i walk =
    passed (with_one_more d i.0 walk) (with_table x (opened x.table k m.address m.port i.0 d.clock)) m i Change.Opened

-- renewed: an opening in the state that the ending of the connection in slot old leaves
abbrev pub renewed_held : Director → Lent (List Slot) → Segment → (old k : ℕ) → ServerNo → Walk → Held
renewed_held d x m old k i walk = opened_held (with_one_less d (get_or x.table old free_slot).server.0) (with_table x (freed x.table old)) m k i walk

abbrev pub carried_out : Director → Lent (List Slot) → Segment → Decision → Held
carried_out d x m (Decision.Refuse why) = refusal why d x
carried_out d x m (Decision.Keep k) = kept_held d x m k.0
carried_out d x m (Decision.End k) = ended_held d x m k.0
carried_out d x m (Decision.Open k i walk) = opened_held d x m k.0 i walk
carried_out d x m (Decision.Renew old k i walk) = renewed_held d x m old.0 k.0 i walk

-- what a function that writes slot k and the packet asks for: a whole row that has the slot, and a packet that can be redirected
pub record Ready (d : Director) (row p : List ℕ) (k : ℕ) : Type 0 where
  pub whole : IsRow row
  pub within : k < length row / words_per_slot
  pub packet : Redirectable d.service.protocol p

-- the same where the connection in slot k is ended, and where one is opened there: the counts can fall and rise by one
abbrev pub EndReady : Director → List ℕ → List ℕ → (k : ℕ) → Type 0
EndReady d row p k = Ready d row p k × (1 ≤ count_at d.servers (slot_at row k).server.0)

abbrev pub OpenReady : Director → List ℕ → List ℕ → (k i : ℕ) → Type 0
OpenReady d row p k i = Ready d row p k × (count_at d.servers i < 4294967295)

-- what is asked for where a decision is carried out
abbrev pub Feasible : Director → List ℕ → List ℕ → Decision → Type 0
Feasible d row p (Decision.Refuse why) = IsRow row
Feasible d row p (Decision.Keep k) = Ready d row p k.0
Feasible d row p (Decision.End k) = EndReady d row p k.0
Feasible d row p (Decision.Open k i walk) = OpenReady d row p k.0 i.0
Feasible d row p (Decision.Renew old k i walk) =
    EndReady d row p old.0
    × OpenReady (with_one_less d (slot_at row old.0).server.0) (words (freed (slots row) old.0)) p k.0 i.0
