-- `ring::go_round` meets its contract. The loop's invariant: the walk from here on, with what is left of the ring, picks what the whole walk picks.
use Prim.Native.Nat.{◌-◌}
use Rattle.scheduler.specs.Ring.{most_passed, ring_of}
use Rattle.scheduler.proofs.Rings.{Picks}
use Rattle.scheduler.proofs.ring.go_round.Given as goal

abbrev pub invariant-loop : goal.invariant-loop
invariant-loop g l =
    let levels = g.R.Round.levels l.by in
    let picks = g.R.Round.picks l.by in
    Picks levels picks l.n (most_passed l.n - l.counter) l.no.0 l.level (ring_of levels picks l.n l.fn.walk)
