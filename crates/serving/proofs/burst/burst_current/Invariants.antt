-- `burst::burst_current` meets its contract. The loop's invariant: the packets so far are done.
use Rattle.std.proofs.Common.{◌≡◌}
use Rattle.director.specs.Current.{Current}
use Rattle.serving.specs.Burst.{bursting, burst_of}
use Rattle.serving.proofs.burst.burst_current.Given as goal

abbrev pub invariant-loop-k : goal.invariant-loop-k
invariant-loop-k l = Current l.director l.row
    × (bursting l.director l.row l.packets l.records ≡ burst_of (bursting l.initial.director l.initial.row l.initial.packets l.initial.records) l.k)
