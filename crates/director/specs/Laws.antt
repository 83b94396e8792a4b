-- What opens and what renews, the phases, the refusals' numbers and, at three places, their order, with SCOPE's values written out, what a state holds of the
-- weights, and who is picked: where one of these is wrong in code and definition alike, a statement here fails. Assumes nothing: these are statements; proofs/Laws.antt proves them (`laws`).
use Rattle.std.specs.Prelude.{ℕ, Bool, true, false, List, [], ◌∷◌, map, ◌↔◌, ◌≡◌, get_or, Err, Some, None, Option}
use Rattle.lists.specs.Tests.{keep}
use Rattle.packet.specs.declared.read.Fault.{Fault}
use Rattle.packet.specs.declared.read.Flags.{Flags}
use Rattle.servers.specs.declared.ServerNo.{ServerNo}
use Rattle.scheduler.specs.declared.weights.Weights.{Weights}
use Rattle.scheduler.specs.Weights.{weights_of, none_weighs}
use Rattle.scheduler.specs.ByNumber.{pick_of}
use Rattle.scheduler.specs.Laws.{EachZero, SomeWeight, IsPick}
use Rattle.table.specs.declared.slot.Slot.{Slot}
use Rattle.table.specs.declared.slot.SlotNo.{SlotNo}
use Rattle.table.specs.Slots.{free_slot, is_unused}
use Rattle.table.specs.Find.{of_client, first_from}
use Rattle.director.specs.declared.state.Director.{Director}
use Rattle.director.specs.declared.state.Refusal.{Refusal}
use Rattle.director.specs.declared.state.Way.{Way}
use Rattle.director.specs.declared.segment.Sender.{Sender}
use Rattle.director.specs.declared.segment.Segment.{Segment}
use Rattle.director.specs.declared.decide.Decision.{Decision}
use Rattle.director.specs.State.{refusal_number, keeps_clock, Lent, refusal}
use Rattle.director.specs.Judge.{sound_of}
use Rattle.director.specs.Control.{number_judged}
use Rattle.director.specs.Segment.{segment_read}
use Rattle.director.specs.Tick.{tick_of}
use Rattle.director.specs.Decide.{opens, belongs, next_pick, renews, decided}
use Rattle.director.specs.Carry.{phase_of}
use Rattle.director.specs.Packets.{packet_held, packet_of}

-- "SYN set and ACK, RST, FIN clear" (SCOPE 8.3)
abbrev pub syn_alone : Flags
syn_alone = record { syn = true; ack = false; rst = false; fin = false }

-- what phases 1 to 4 become by a packet
abbrev pub phases_by : Bool → Sender → List ℕ
phases_by fin sender = map (λ (phase : ℕ). phase_of phase fin sender) (1 ∷ 2 ∷ 3 ∷ 4 ∷ [])

-- the refusals in the order of SCOPE section 4
abbrev pub refusals : List Refusal
refusals =
    Refusal.Size
    ∷ Refusal.Service
    ∷ Refusal.ServerUnset
    ∷ Refusal.ServerRepeated
    ∷ Refusal.NoServer
    ∷ Refusal.Packet Fault.MalformedHeader
    ∷ Refusal.Packet Fault.Fragment
    ∷ Refusal.Packet Fault.OtherProtocol
    ∷ Refusal.Packet Fault.MalformedTransport
    ∷ Refusal.OtherEndpoint
    ∷ Refusal.EarlierClock
    ∷ Refusal.NoConnection
    ∷ Refusal.TableFull
    ∷ Refusal.NoWeight
    ∷ Refusal.Unsound
    ∷ Refusal.Packet Fault.BadChecksum
    ∷ []

-- the state with other numbers in the place of the largest weight and the divisor
abbrev pub with_weights : Director → Weights → Director
with_weights d held = record { service = d.service; servers = d.servers; weights = held; walk = d.walk; clock = d.clock }

-- given the lowest slot of a packet's client: is it one of a connection that the packet belongs to (SCOPE 4.12)?
abbrev pub is_its : List Slot → Segment → Option SlotNo → Bool
is_its l m None = false
is_its l m (Some k) = belongs m.sender (get_or l k.0 free_slot).server

-- the order of SCOPE 5.1: "The lowest-placed failing test in that order answers." (SCOPE 5.2)

-- 15 before 5: a weight or count call of a state that is not sound, whatever the number
abbrev pub UnsoundFirst : Type 0
UnsoundFirst = (d : Director) (row : List ℕ) (k : ℕ) → sound_of d row ≡ false → number_judged d row k ≡ Err Refusal.Unsound

-- 6 to 10 and 20 before 11: a packet that can't be taken, whatever the clock
abbrev pub UnreadFirst : Type 0
UnreadFirst =
    (way : Way) (d : Director) (x : Lent (List Slot)) (now : ℕ) (why : Refusal)
    → segment_read way d.service d.servers x.packet ≡ Err why → packet_held way d x now ≡ refusal why d x

-- 13 before 14: a packet that would open where no slot is free, whatever the weights
abbrev pub FullFirst : Type 0
FullFirst =
    (d : Director) (l : List Slot) (m : Segment) → first_from (of_client m.address m.port) 0 l ≡ None
    → opens d.service.protocol m ≡ true → first_from is_unused 0 l ≡ None → decided d l m ≡ Decision.Refuse Refusal.TableFull

-- "13 can't arise here." (SCOPE 8.17): a packet that renews its client's connection, in slot k
abbrev pub NeverFull : Type 0
NeverFull =
    (d : Director) (l : List Slot) (m : Segment) (k : SlotNo) → first_from (of_client m.address m.port) 0 l ≡ Some k
    → renews m (get_or l k.0 free_slot).phase ≡ true → decided d l m ≡ Decision.Refuse Refusal.TableFull → ⊥

-- the largest weight and the divisor that a state holds

-- a sound state's are those that its weights give, so the pick is the one with both worked out
abbrev pub WeightsTrue : Type 0
WeightsTrue =
    (d : Director) (row : List ℕ) → sound_of d row ≡ true
    → let given = weights_of d.servers d.service.servers in
    (d.weights ≡ given) × (next_pick d ≡ pick_of d.service.scheduler d.servers d.service.servers given d.walk)

-- with other numbers in their place it is not sound, whatever the scheduler
abbrev pub WeightsJudged : Type 0
WeightsJudged = (d : Director) (row : List ℕ) (held : Weights) → sound_of d row ≡ true → (sound_of (with_weights d held) row ≡ true) ↔ (held ≡ d.weights)

-- a tick and a packet call leave them as they are, refused or accepted
abbrev pub WeightsLeft : Type 0
WeightsLeft =
    (d : Director) (row : List ℕ) (now : ℕ)
    → ((tick_of d row now).director.weights ≡ d.weights) × ((way : Way) (p : List ℕ) → (packet_of way d row p now).director.weights ≡ d.weights)

-- 14 and the pick

-- in a sound state the test for 14 passes exactly where "every weight is 0" (SCOPE 4.14)
abbrev pub NoWeightExactly : Type 0
NoWeightExactly = (d : Director) (row : List ℕ) → sound_of d row ≡ true → (none_weighs d.weights ≡ true) ↔ EachZero d.servers d.service.servers

-- "In any sound state with a weight above 0 the pick of schedulers 1 to 4 always answers a server" (SCOPE 10.13)
abbrev pub SomebodyLaw : Type 0
SomebodyLaw =
    (d : Director) (row : List ℕ) → sound_of d row ≡ true → SomeWeight d.servers d.service.servers
    → IsPick d.service.scheduler d.servers d.service.servers d.walk (next_pick d)

pub record Laws : Type 0 where
  -- a client's packet of TCP (6) opens with these flags and no others; "any UDP inbound" (SCOPE 8.3), which is 17
  pub opens_tcp : (m : Segment) → m.sender ≡ Sender.Client → (opens 6 m ≡ true) ↔ (m.flags ≡ syn_alone)
  pub opens_udp : (m : Segment) → m.sender ≡ Sender.Client → opens 17 m ≡ true
  -- "Outbound packets open nothing." (SCOPE 8.5)
  pub opens_none : (protocol : ℕ) (m : Segment) (i : ServerNo) → m.sender ≡ Sender.Server i → opens protocol m ≡ false
  -- with these flags and no others it renews, a connection in phase 4 (SCOPE 8.16)
  pub renews_finished : (m : Segment) (phase : ℕ) → m.sender ≡ Sender.Client → (renews m phase ≡ true) ↔ ((phase ≡ 4) × (m.flags ≡ syn_alone))
  pub renews_none : (m : Segment) (phase : ℕ) (i : ServerNo) → m.sender ≡ Sender.Server i → renews m phase ≡ false
  -- "An inbound FIN moves 1 to 2 and 3 to 4; outbound moves 1 to 3 and 2 to 4." (SCOPE 8.7) Without FIN a phase stays.
  pub fin_inbound : phases_by true Sender.Client ≡ 2 ∷ 2 ∷ 4 ∷ 4 ∷ []
  pub fin_outbound : (i : ServerNo) → phases_by true (Sender.Server i) ≡ 3 ∷ 4 ∷ 3 ∷ 4 ∷ []
  pub fin_clear : (sender : Sender) → phases_by false sender ≡ 1 ∷ 2 ∷ 3 ∷ 4 ∷ []
  -- the list names every refusal; 16 to 19 are no refusal's number
  pub all_named : (why : Refusal) → (k : ℕ) × (get_or refusals k Refusal.Size ≡ why)
  pub numbers : map refusal_number refusals ≡ 1 ∷ 2 ∷ 3 ∷ 4 ∷ 5 ∷ 6 ∷ 7 ∷ 8 ∷ 9 ∷ 10 ∷ 11 ∷ 12 ∷ 13 ∷ 14 ∷ 15 ∷ 20 ∷ []
  -- "12, 13 and 14 keep that" (SCOPE 5.4): the clock and the idle removal
  pub clock_kept : map refusal_number (keep keeps_clock refusals) ≡ 12 ∷ 13 ∷ 14 ∷ []
  -- the order of refusals
  pub unsound_first : UnsoundFirst
  pub unread_first : UnreadFirst
  pub full_first : FullFirst
  pub never_full : NeverFull
  -- what the state holds of the weights
  pub weights_true : WeightsTrue
  pub weights_judged : WeightsJudged
  pub weights_left : WeightsLeft
  -- 14 and the pick
  pub no_weight_exactly : NoWeightExactly
  pub somebody : SomebodyLaw
