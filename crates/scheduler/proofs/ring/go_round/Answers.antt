-- `ring::go_round` meets its contract. The loop's invariant: the walk from here on, with what is left of the ring, picks what the whole walk picks.
use mathlib.Core.Path.{sym, ◌∙◌}
use native.Mathlib.Omega.{arith}
use Rattle.scheduler.proofs.Rings.{ring_here, ring_end, ring_on}
use Rattle.scheduler.proofs.ring.go_round.Goals as goal

pub returns-then-takes : goal.returns-then-takes
returns-then-takes g c = rw c.picked_at.ensures (ring_here c.loop.invariant c.level_at-level.ensures (sym c.takes.ensures ∙ c.if-takes.true))

pub loop-preserved : goal.loop-preserved
loop-preserved g c =
    ring_on c.loop.invariant (omega arith) c.level_at-level.ensures (sym c.takes.ensures ∙ c.if-takes.false) c.after-no.ensures

pub returns : goal.returns
returns g c = rw c.picked_at-2.ensures (ring_end c.loop.invariant (omega arith) c.level_at.ensures)
