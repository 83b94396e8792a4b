-- Nothing idle, nothing to do: where no connection is idle at a clock, storing it changes nothing else; and none is idle once a clock is
-- accepted, nor after what becomes of a packet at that clock. Assumes nothing.
use Prim.Native.Nat.{ℕ}
use mathlib.Core.List.{List}
use mathlib.Core.Path.{◌≡◌}
use lib.ListN.{get_or}
use Rattle.table.specs.declared.slot.Slot.{Slot}
use Rattle.table.specs.Slots.{free_slot}
use Rattle.table.specs.Expire.{NoneIdle}
use Rattle.table.specs.Changes.{freed}
use Rattle.table.proofs.Idle.{none_removed, none_counted, removed_none_idle, opened_none_idle, touched_none_idle, freed_none_idle}
use Rattle.director.specs.declared.state.Director.{Director}
use Rattle.director.specs.declared.segment.Segment.{Segment}
use Rattle.director.specs.declared.decide.Decision.{Decision}
use Rattle.director.specs.State.{Lent}
use Rattle.director.specs.Tick.{settled, settled_slots}
use Rattle.director.specs.Carry.{phase_after, carried_out}
use Rattle.director.proofs.Decisions.{Grounded}

-- the state at another clock
abbrev pub with_clock : Director → ℕ → Director
with_clock d now = record { service = d.service; servers = d.servers; weights = d.weights; walk = d.walk; clock = now }

module _ (d : Director) (l : List Slot) (now : ℕ) where
  pub settled_same : NoneIdle d.service.protocol now l → (settled d l now ≡ with_clock d now) × (settled_slots d l now ≡ l)
  settled_same none = (rw (none_counted d.service.protocol now l d.servers none), none_removed d.service.protocol now l none)

  pub settled_none_idle : NoneIdle d.service.protocol now (settled_slots d l now)
  settled_none_idle = removed_none_idle d.service.protocol now l

pub carried_none_idle : (d : Director) (x : Lent (List Slot)) (m : Segment) → NoneIdle d.service.protocol d.clock x.table
    → (a : Decision) → Grounded d x.table m a → NoneIdle d.service.protocol d.clock (carried_out d x m a).lent.table
carried_none_idle d x m none (Decision.Refuse why) grounds = none
carried_none_idle d x m none (Decision.Keep k) its =
    touched_none_idle d.service.protocol d.clock x.table k.0 its.lowest.within none (phase_after m (get_or x.table k.0 free_slot))
carried_none_idle d x m none (Decision.End k) its = freed_none_idle d.service.protocol d.clock x.table k.0 its.lowest.within none
carried_none_idle d x m none (Decision.Open k i walk) new =
    opened_none_idle d.service.protocol d.clock x.table k.0 new.opening.lowest.within none m.address m.port i.0
carried_none_idle d x m none (Decision.Renew old k i walk) new =
    opened_none_idle d.service.protocol d.clock (freed x.table old.0) k.0 new.opening.lowest.within
    (freed_none_idle d.service.protocol d.clock x.table old.0 new.its.lowest.within none) m.address m.port i.0
