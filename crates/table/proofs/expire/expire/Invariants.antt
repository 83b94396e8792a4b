-- `expire::expire` meets its contract. The invariant: what is done, with what is still to do, is the whole, and the table is sound (`Expiring`).
use Prim.Native.Nat.{◌≤◌}
use Rattle.table.proofs.Expiry.{Expiring}
use Rattle.table.proofs.expire.expire.Given as goal

abbrev pub invariant-loop-k : goal.invariant-loop-k
invariant-loop-k l = (l.k ≤ l.k-end) × Expiring l.protocol l.n l.clock l.initial.row l.initial.servers l.row l.servers l.removed l.k
