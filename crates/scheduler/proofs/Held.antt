-- The largest weight and the divisor together: both are 0 where each weight is, a count does not matter to them, and the test of what is held
-- is passed by them alone. Assumes nothing.
use mathlib.Core.Bool.{true}
use mathlib.Core.List.{List, [], ◌∷◌}
use mathlib.Core.Path.{◌≡◌, refl, ap, fun_ext}
use Prim.Native.Nat.{ℕ, zero, suc, max}
use native.Mathlib.Nat.{eq-zero_of_zero-dvd}
use native.Mathlib.Omega.{arith}
use lib.Dec.{eqb}
use lib.ListN.{set}
use borrow.Author.Tests.{eq-eqb, eqb-true}
use Rattle.lists.specs.Fold.{fold_below}
use Rattle.lists.proofs.Cases.{both}
use Rattle.servers.specs.Servers.{weight_at}
use Rattle.servers.specs.declared.Server.{Server}
use Rattle.scheduler.specs.declared.weights.Weights.{Weights}
use Rattle.scheduler.specs.declared.walk.Walk.{Walk}
use Rattle.scheduler.specs.ByNumber.{in_range_to, in_range}
use Rattle.scheduler.specs.Weights.{gcd_of, weights_gcd, largest_of, weights_of, weights_agree}
use Rattle.scheduler.specs.Laws.{ZeroLaw, AgreeLaw, SameWeightsLaw}
use Rattle.scheduler.proofs.Gcd.{weights-gcd}
use Rattle.scheduler.proofs.Largest.{no_weight_lem}

-- 0 divides the divisor of zeros, so it is 0
pub weights-zero : ZeroLaw
weights-zero s n z =
    simp (eqb-true (largest_of s n) 0 ((no_weight_lem (weights_of s n) s n refl).0.1 z), eq-zero_of_zero-dvd ((weights-gcd s n).greatest 0 (λ j h p. absurd (omega (arith, z j h)))))

pub weights_agree_lem : AgreeLaw
weights_agree_lem held s n = (agreed, given)
  where
    agreed : weights_agree held s n ≡ true → held ≡ weights_of s n
    agreed e =
        let (a, b) = both (eqb held.largest (largest_of s n)) (eqb held.divisor (weights_gcd s n)) e in
        rw (← (eqb-true held.largest (largest_of s n) a), ← (eqb-true held.divisor (weights_gcd s n) b)) refl

    given : held ≡ weights_of s n → weights_agree held s n ≡ true
    given e = rw (e, eq-eqb (largest_of s n) (largest_of s n) refl, eq-eqb (weights_gcd s n) (weights_gcd s n) refl) refl

-- where the numbers held are true, the range up to the largest that is held is the range
pub range_held : (k : ℕ) (held : Weights) (s : List Server) (n : ℕ) (w : Walk) → held ≡ weights_of s n → in_range_to k held.largest n w ≡ in_range k s n w
range_held k held s n w e = ap (λ (g : Weights). in_range_to k g.largest n w) e

-- a server that weighs what the old one did changes no weight
same_weights : (s : List Server) (i : ℕ) (v : Server) → v.weight ≡ weight_at s i → (j : ℕ) → weight_at (set s i v) j ≡ weight_at s j
same_weights [] i v e j = refl
same_weights (x ∷ s) zero v e zero = e
same_weights (x ∷ s) zero v e (suc j) = refl
same_weights (x ∷ s) (suc i) v e zero = refl
same_weights (x ∷ s) (suc i) v e (suc j) = same_weights s i v e j

pub weights_same : SameWeightsLaw
weights_same s n i c =
    ap
    (λ (at : ℕ → ℕ). record { largest = fold_below (λ m k. max m (at k)) 0 n; divisor = fold_below (λ g k. gcd_of (at k) g) 0 n })
    (fun_ext (same_weights s i _ refl))
