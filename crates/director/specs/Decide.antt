-- What is to become of a packet that got past 11. Assumes nothing: these are definitions.
use Rattle.std.specs.Prelude.{ℕ, Bool, true, false, cond, not, ◌&&◌, List, eqb, get_or, Some, None, Option}
use Rattle.packet.specs.declared.read.Flags.{Flags}
use Rattle.servers.specs.declared.ServerNo.{ServerNo}
use Rattle.scheduler.specs.declared.walk.Pick.{Pick}
use Rattle.scheduler.specs.declared.walk.Walk.{Walk}
use Rattle.scheduler.specs.Weights.{none_weighs}
use Rattle.scheduler.specs.ByNumber.{pick_of}
use Rattle.table.specs.declared.slot.Slot.{Slot}
use Rattle.table.specs.declared.slot.SlotNo.{SlotNo}
use Rattle.table.specs.Slots.{free_slot, is_unused}
use Rattle.table.specs.Find.{of_client, first_from}
use Rattle.table.specs.Changes.{freed}
use Rattle.director.specs.declared.state.Director.{Director}
use Rattle.director.specs.declared.state.Refusal.{Refusal}
use Rattle.director.specs.declared.segment.Sender.{Sender}
use Rattle.director.specs.declared.segment.Segment.{Segment}
use Rattle.director.specs.declared.decide.Decision.{Decision}
use Rattle.director.specs.State.{with_one_less}

-- "SYN set and ACK, RST, FIN clear" (SCOPE 8.3)
abbrev pub is_syn : Flags → Bool
is_syn f = not f.ack && (not f.rst && (not f.fin && f.syn))

-- "TCP inbound with SYN set and ACK, RST, FIN clear; any UDP inbound" (SCOPE 8.3); "Outbound packets open nothing." (SCOPE 8.5)
abbrev pub opens_by : ℕ → Flags → Sender → Bool
opens_by protocol f Sender.Client = cond (eqb protocol 6) (is_syn f) true
opens_by protocol f (Sender.Server i) = false

abbrev pub opens : ℕ → Segment → Bool
opens protocol m = opens_by protocol m.flags m.sender

-- "An outbound packet belongs to it only if the source is its server; otherwise 12." (SCOPE 8.2)
abbrev pub belongs : Sender → ServerNo → Bool
belongs Sender.Client i = true
belongs (Sender.Server source) i = eqb source.0 i.0

-- the server that is next, by the scheduler, which "takes the largest weight and the divisor from the state (2.12)" (SCOPE 10.12)
abbrev pub next_pick : Director → Pick
next_pick d = pick_of d.service.scheduler d.servers d.service.servers d.weights d.walk

-- 14 "is a test of its own, before the pick: the largest weight in the state (2.12) is 0" (SCOPE 10.14); else what is made of the pick
abbrev pub on_weights : Director → (ServerNo → Walk → Decision) → Decision
on_weights d make = cond (none_weighs d.weights) (Decision.Refuse Refusal.NoWeight) (make (next_pick d).server (next_pick d).walk)

-- an opening: 13 where no slot is free; "The lowest free slot is taken" (SCOPE 8.4)
abbrev pub on_room : Director → (SlotNo → ServerNo → Walk → Decision) → Option SlotNo → Decision
on_room d make None = Decision.Refuse Refusal.TableFull
on_room d make (Some k) = on_weights d (make k)

-- a packet whose client has no connection: 12 where it opens none
abbrev pub on_absent : Director → List Slot → Segment → Decision
on_absent d l m = cond (opens d.service.protocol m) (on_room d Decision.Open (first_from is_unused 0 l)) (Decision.Refuse Refusal.NoConnection)

-- "An inbound packet with SYN set and ACK, RST, FIN clear that meets a connection in phase 4" (SCOPE 8.16). (6 is TCP: UDP is never in phase 4.)
abbrev pub renews : Segment → (phase : ℕ) → Bool
renews m phase = eqb phase 4 && opens 6 m

-- it "ends it and opens a new one in the same call" (SCOPE 8.16): an opening in the state that the ending of the connection in slot k leaves
abbrev pub on_renewal : Director → List Slot → SlotNo → Decision
on_renewal d l k = on_room (with_one_less d (get_or l k.0 free_slot).server.0) (Decision.Renew k) (first_from is_unused 0 (freed l k.0))

-- a packet of the connection in slot k: "RST is looked at first" (SCOPE 8.8)
abbrev pub on_rst : SlotNo → Bool → Decision
on_rst k true = Decision.End k
on_rst k false = Decision.Keep k

-- a packet whose client has a connection, s in slot k: does it belong to it, and if so, does it renew it?
abbrev pub on_present : Director → List Slot → Segment → SlotNo → Slot → Decision
on_present d l m k s =
    cond (belongs m.sender s.server) (cond (renews m s.phase) (on_renewal d l k) (on_rst k m.flags.rst)) (Decision.Refuse Refusal.NoConnection)

-- has the packet's client a connection?
abbrev pub on_client : Director → List Slot → Segment → Option SlotNo → Decision
on_client d l m (Some k) = on_present d l m k (get_or l k.0 free_slot)
on_client d l m None = on_absent d l m

-- "A connection is known by client address and port" (SCOPE 8.1): 12, 13 and 14 in their order, or what becomes of it
unfoldable pub decided : Director → List Slot → Segment → Decision
decided d l m = on_client d l m (first_from (of_client m.address m.port) 0 l)
