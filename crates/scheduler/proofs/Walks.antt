-- A walk that holds its level at 0; and a scheduler that holds its walk keeps it in its range. Assumes nothing.
use mathlib.Core.Bool.{true, false≢true}
use mathlib.Core.List.{List}
use mathlib.Core.Path.{◌≡◌, refl}
use Prim.Native.Nat.{ℕ, ◌<◌}
use native.Mathlib.Omega.{arith}
use lib.Dec.{eqb}
use borrow.Author.Tests.{ltb-true}
use Rattle.std.specs.Prelude.{Option, Some, None}
use Rattle.lists.proofs.Cases.{both}
use Rattle.servers.specs.declared.ServerNo.{ServerNo}
use Rattle.servers.specs.declared.Server.{Server}
use Rattle.scheduler.specs.Walk.{at_server, rests_at}
use Rattle.scheduler.specs.Scheduler.{holding}
use Rattle.scheduler.specs.Laws.{Within, Ranged}
use Rattle.scheduler.specs.declared.walk.Walk.{Walk}
use Rattle.scheduler.specs.declared.walk.Pick.{Pick}

-- there is a server where the walk is at one
pub at_some : (n : ℕ) (p : Option ServerNo) → at_server n p ≡ true → 0 < n
at_some n None h = absurd (false≢true h)
at_some n (Some i) h = omega (arith, ltb-true i.0 n h)

-- a place at one of the first n servers is within them
at-within : (n : ℕ) (p : Option ServerNo) → at_server n p ≡ true → Within n p
at-within n None h = absurd (false≢true h)
at-within n (Some i) h = ltb-true i.0 n h

pub rests_within : (n : ℕ) (w : Walk) → rests_at n w ≡ true → Within n w.place
rests_within n w h = at-within n w.place (both (eqb w.level 0) (at_server n w.place) h).1

-- what is within the first server is within n
widened : (n : ℕ) (p : Option ServerNo) → 0 < n → Within 1 p → Within n p
widened n None h p = p
widened n (Some i) h p = omega arith

pub holding_ranged : (pick : List Server → ℕ → Walk → Pick) → Ranged (holding pick)
holding_ranged pick = record {
  started = λ top n h. refl;
  weighed = λ s n i x w h. h;
  placed = λ top n w h r. widened n w.place h (rests_within 1 w r);
}
