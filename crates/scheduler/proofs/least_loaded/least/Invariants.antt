-- `least_loaded::least` meets its contract. The loop's invariant: `best` is the least loaded of the servers passed.
use Prim.Native.Nat.{◌-◌, ◌≤◌}
use mathlib.Core.Path.{◌≡◌}
use Rattle.scheduler.specs.LeastLoaded.{least_of}
use Rattle.scheduler.proofs.least_loaded.least.Given as goal

abbrev pub invariant-loop-i : goal.invariant-loop-i
invariant-loop-i l = (l.i - 1 ≤ l.n - 1) × (l.best ≡ least_of l.by l.servers l.i)
