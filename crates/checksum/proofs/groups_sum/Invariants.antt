-- `checksum::groups_sum` meets its contract. The invariant: the groups that are left, added to `sum`, give the whole sum.
use mathlib.Core.Path.{◌≡◌}
use Prim.Native.Nat.{◌+◌}
use lib.ListN.{drop}
use Rattle.checksum.specs.Ones.{groups_of, total}
use Rattle.checksum.proofs.Grouping.{groups_in}
use Rattle.checksum.proofs.groups_sum.Given as goal

abbrev pub invariant-loop-group : goal.invariant-loop-group
invariant-loop-group l = l.sum + total (groups_in (drop l.group-index l.groups)) ≡ total (groups_of l.b)
