-- `find::find_client` meets its contract. The invariant: the slots of the pairs before i do not answer (`Passed`).
use Prim.Native.Nat.{◌*◌, ◌≤◌}
use Rattle.table.specs.Find.{of_client}
use Rattle.table.proofs.Search.{Passed}
use Rattle.table.proofs.find.find_client.Given as goal

abbrev pub invariant-loop-i : goal.invariant-loop-i
invariant-loop-i l = (l.i ≤ l.pairs) × Passed (of_client l.address l.port) l.row (2 * l.i)
