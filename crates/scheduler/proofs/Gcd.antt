-- Euclid's algorithm: one step of it, as the code takes it, and that it finds the greatest common divisor. Assumes nothing.
use mathlib.Core.List.{List}
use mathlib.Core.Path.{◌≡◌, refl, ◌∙◌}
use Prim.Native.Nat.{ℕ, zero, suc, ◌%◌, ◌≤◌, ◌<◌, ◌∣◌}
use native.Mathlib.Nat.{le_refl, le_of_suc-le-suc, le_trans, mod-lt, zero-mod, not-suc-le-zero, dvd_refl, dvd-zero, dvd_trans, dvd-mod_iff}
use native.Mathlib.Omega.{arith}
use borrow.Author.Count.{below_none, below_more}
use Rattle.servers.specs.Servers.{weight_at}
use Rattle.scheduler.specs.Weights.{euclid, gcd_of, weights_gcd}
use Rattle.servers.specs.declared.Server.{Server}
use Rattle.scheduler.specs.Laws.{GcdLaw}
use Rattle.lists.proofs.Folds.{fold_holds}

-- the remainder by b + 1 is at most b
rest_le : (a b : ℕ) → a % suc b ≤ b
rest_le a b = le_of_suc-le-suc (mod-lt a (omega arith))

-- as many steps as the second number are enough
enough : (k j a b : ℕ) → b ≤ k → b ≤ j → euclid k a b ≡ euclid j a b
unfolding euclid
enough zero zero a zero h g = refl
enough zero (suc j) a zero h g = refl
enough zero j a (suc b) h g = absurd (not-suc-le-zero h)
enough (suc k) zero a zero h g = refl
enough (suc k) (suc j) a zero h g = refl
enough (suc k) zero a (suc b) h g = absurd (not-suc-le-zero g)
enough (suc k) (suc j) a (suc b) h g =
    enough k j (suc b) (a % suc b)
    (le_trans (rest_le a b) (le_of_suc-le-suc h)) (le_trans (rest_le a b) (le_of_suc-le-suc g))

pub gcd-zero : (a : ℕ) → gcd_of a 0 ≡ a
unfolding gcd_of euclid
gcd-zero a = refl

pub gcd-step : (a b : ℕ) → (b ≡ 0 → ⊥) → gcd_of a b ≡ gcd_of b (a % b)
unfolding gcd_of euclid
gcd-step a zero h = absurd (h refl)
gcd-step a (suc b) h = enough b (a % suc b) (suc b) (a % suc b) (rest_le a b) (le_refl _)

-- 0 changes no divisor
pub gcd_past : (b : ℕ) → gcd_of 0 b ≡ b
gcd_past zero = gcd-zero 0
gcd_past (suc b) = gcd-step 0 (suc b) (λ e. omega arith) ∙ rw zero-mod (gcd-zero (suc b))

euclid_divides : (k a b : ℕ) → b ≤ k → (euclid k a b ∣ a) × (euclid k a b ∣ b)
unfolding euclid
euclid_divides zero a zero h = (dvd_refl a, dvd-zero a)
euclid_divides zero a (suc b) h = absurd (not-suc-le-zero h)
euclid_divides (suc k) a zero h = (dvd_refl a, dvd-zero a)
euclid_divides (suc k) a (suc b) h =
    let r = euclid_divides k (suc b) (a % suc b) (le_trans (rest_le a b) (le_of_suc-le-suc h)) in
    ((dvd-mod_iff _ r.0).0 r.1, r.0)

euclid_greatest : (k d a b : ℕ) → d ∣ a → d ∣ b → d ∣ euclid k a b
unfolding euclid
euclid_greatest zero d a b p q = p
euclid_greatest (suc k) d a zero p q = p
euclid_greatest (suc k) d a (suc b) p q = euclid_greatest k d (suc b) (a % suc b) q ((dvd-mod_iff d q).1 p)

gcd_divides : (a b : ℕ) → (gcd_of a b ∣ a) × (gcd_of a b ∣ b)
unfolding gcd_of
gcd_divides a b = euclid_divides b a b (le_refl b)

gcd_greatest : (d a b : ℕ) → d ∣ a → d ∣ b → d ∣ gcd_of a b
unfolding gcd_of
gcd_greatest d a b = euclid_greatest b d a b

-- what divides a weight above 0 divides any weight, for it divides 0
divides_any : (d w : ℕ) → (0 < w → d ∣ w) → d ∣ w
divides_any d zero h = dvd-zero d
divides_any d (suc w) h = h (omega arith)

module _ (s : List Server) where
  each_divided : (n j : ℕ) → j < n → weights_gcd s n ∣ weight_at s j
  each_divided =
      fold_holds (λ g k. gcd_of (weight_at s k) g) 0 (λ k g. (j : ℕ) → j < k → g ∣ weight_at s j) (below_none _)
      (λ k g p. below_more _ k (λ j h. dvd_trans _ (gcd_divides (weight_at s k) g).1 (p j h)) (gcd_divides (weight_at s k) g).0)

  greatest_divided : (n d : ℕ) → ((j : ℕ) → j < n → 0 < weight_at s j → d ∣ weight_at s j) → d ∣ weights_gcd s n
  greatest_divided n d p =
      fold_holds (λ g k. gcd_of (weight_at s k) g) 0 (λ k g. ((j : ℕ) → j < k → 0 < weight_at s j → d ∣ weight_at s j) → d ∣ g) (λ q. dvd-zero d)
      (λ k g ih q. gcd_greatest d (weight_at s k) g (divides_any d (weight_at s k) (q k (omega arith))) (ih (λ j h. q j (omega arith)))) n p

pub weights-gcd : GcdLaw
weights-gcd s n = record { divides = each_divided s n; greatest = greatest_divided s n }
