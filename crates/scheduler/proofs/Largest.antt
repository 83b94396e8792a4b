-- The largest weight: no weight is above it, and some server has it; it is 0 exactly where each weight is. Assumes nothing.
use mathlib.Core.Bool.{true, false}
use mathlib.Core.List.{List}
use mathlib.Core.Logic.{⊎_elim}
use mathlib.Core.Path.{◌≡◌}
use Prim.Native.Nat.{ℕ, ◌≤◌, ◌<◌, max}
use native.Mathlib.Omega.{arith}
use native.Mathlib.Nat.{le-max_left, le-max_right, le_trans, eq-or-lt_of_le, eq-zero-or-pos}
use borrow.Author.Tests.{eq-eqb, ne_eqb, eqb-true, eqb-false}
use borrow.Author.Count.{below_none, below_more}
use Rattle.servers.specs.Servers.{weight_at}
use Rattle.scheduler.specs.Weights.{largest_of, no_weight}
use Rattle.servers.specs.declared.Server.{Server}
use Rattle.scheduler.specs.Laws.{LargestLaw, EachZero, SomeWeight, NoWeightLaw}
use Rattle.lists.proofs.Folds.{fold_holds}

module _ (s : List Server) where
  pub weight_le_largest : (n j : ℕ) → j < n → weight_at s j ≤ largest_of s n
  weight_le_largest =
      fold_holds (λ m k. max m (weight_at s k)) 0 (λ k m. (j : ℕ) → j < k → weight_at s j ≤ m) (below_none _)
      (λ k m p. below_more _ k (λ j h. le_trans (p j h) (le-max_left m (weight_at s k))) (le-max_right m (weight_at s k)))

  -- a largest weight above 0 is the weight of some server
  pub largest_met : (n : ℕ) → 0 < largest_of s n → (j : ℕ) × (j < n) × (weight_at s j ≡ largest_of s n)
  largest_met =
      fold_holds (λ m k. max m (weight_at s k)) 0 (λ k m. 0 < m → (j : ℕ) × (j < k) × (weight_at s j ≡ m)) (λ h. absurd (omega arith))
      (λ k m p h. ⊎_elim
      (λ e. let r = p (omega arith) in (r.0, omega (arith, r.1), omega (arith, r.2)))
      (λ g. (k, omega arith, omega arith))
      (eq-or-lt_of_le (le-max_left m (weight_at s k))))

-- where the largest weight is 0 the first server has it
pub weights_largest : LargestLaw
weights_largest s n =
    record {
      above = weight_le_largest s n;
      met = λ h. ⊎_elim (λ z. (0, h, omega (arith, weight_le_largest s n 0 h))) (largest_met s n) (eq-zero-or-pos (largest_of s n));
    }

-- where some weight is above 0, the largest is
pub some_largest : (s : List Server) (n : ℕ) → SomeWeight s n → 0 < largest_of s n
some_largest s n some = omega (arith, weight_le_largest s n some.0 some.1, some.2)

module _ (s : List Server) (n : ℕ) where
  none : no_weight s n ≡ true → EachZero s n
  none e j h = omega (arith, weight_le_largest s n j h, eqb-true (largest_of s n) 0 e)

  all : EachZero s n → no_weight s n ≡ true
  all p =
      ⊎_elim (eq-eqb (largest_of s n) 0) (λ h. let m = largest_met s n h in absurd (omega (arith, m.2, p m.0 m.1))) (eq-zero-or-pos (largest_of s n))

  some : no_weight s n ≡ false → SomeWeight s n
  some e =
      let above : 0 < largest_of s n = omega (arith, eqb-false (largest_of s n) 0 e) in
      let m = largest_met s n above in (m.0, m.1, omega (arith, m.2, above))

  weighed : SomeWeight s n → no_weight s n ≡ false
  weighed p = ne_eqb (largest_of s n) 0 (omega (arith, some_largest s n p))

pub no_weight_lem : NoWeightLaw
no_weight_lem held s n e = rw e ((none s n, all s n), (some s n, weighed s n))
