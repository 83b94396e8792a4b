-- The one's complement sum as arithmetic modulo 65535: 0 for no sum at all, else a number of 1 to 65535.
use mathlib.Core.Path.{◌≡◌, refl, sym, ap, ◌∙◌}
use mathlib.Core.List.{List, [], ◌∷◌}
use mathlib.Core.Logic.{◌↔◌, ◌≢◌}
use Prim.Native.Nat.{ℕ, zero, suc, ◌+◌, ◌*◌, ◌/◌, ◌%◌, ◌≤◌, ◌<◌}
use native.Mathlib.Nat.{not-suc-le-zero, zero-add, add-zero, add_assoc, suc-add, mod-add-mod}
use native.Mathlib.Omega.{arith}
use lib.Dec.{lit<}
use Rattle.lists.proofs.Below.{below_tail}
use Rattle.checksum.specs.Ones.{carried, ones_add, inverted, sum_from, ones_sum, total, Words}

-- what adding back each carry leaves of a number
abbrev pub reduced : ℕ → ℕ
reduced zero = 0
reduced (suc n) = suc (n % 65535)

-- a sum with its carry added back differs from the plain sum by 65535 times the carry
pub carried-plain : (s : ℕ) → carried s + 65535 * (s / 65536) ≡ s
carried-plain s = omega arith

pub carried-fits : (s : ℕ) → s ≤ 131070 → carried s < 65536
carried-fits s h = omega arith

pub reduced_small : (s : ℕ) → s < 65536 → s ≡ reduced s
reduced_small zero h = refl
reduced_small (suc n) h = omega arith

-- a multiple of 65535 more leaves the same, but of 0
pub reduced_more : (n m : ℕ) → (n ≡ 0 → m ≡ 0) → reduced (n + 65535 * m) ≡ reduced n
reduced_more zero m none = rw (none refl) refl
reduced_more (suc n) m none = rw suc-add (omega arith)

-- a carry added back leaves the same
pub reduced_carried : (s : ℕ) → reduced (carried s) ≡ reduced s
reduced_carried s = sym (reduced_more (carried s) (s / 65536) (λ e. omega arith)) ∙ ap reduced (carried-plain s)

carried_reduced : (s : ℕ) → s ≤ 131070 → carried s ≡ reduced s
carried_reduced s h = reduced_small (carried s) (carried-fits s h) ∙ reduced_carried s

reduced_add : (a b : ℕ) → reduced (reduced a + b) ≡ reduced (a + b)
reduced_add zero b = refl
reduced_add (suc a) b = simp (suc-add, mod-add-mod)

sum_reduced : (s : ℕ) (ws : List ℕ) → s < 65536 → Words ws → sum_from s ws ≡ reduced (s + total ws)
sum_reduced s [] h all = rw add-zero (reduced_small s h)
sum_reduced s (w ∷ ws) h all =
    let hw : w < 65536 = all.at 0 in
    let fits : s + w ≤ 131070 = omega arith in
    sum_reduced (ones_add s w) ws (carried-fits (s + w) fits) (below_tail all)
    ∙ ap (λ (x : ℕ). reduced (x + total ws)) (carried_reduced (s + w) fits)
    ∙ reduced_add (s + w) (total ws)
    ∙ ap reduced (add_assoc s w (total ws))

pub ones_sum_reduced : (ws : List ℕ) → Words ws → ones_sum ws ≡ reduced (total ws)
ones_sum_reduced ws all = sum_reduced 0 ws (lit< tt) all ∙ ap reduced (zero-add (total ws))

-- all ones exactly where the number is a multiple of 65535 and not 0
pub reduced_ones : (n : ℕ) → (reduced n ≡ 65535) ↔ ((n % 65535 ≡ 0) × (0 < n))
reduced_ones zero = omega arith
reduced_ones (suc n) = omega arith

-- what makes a number a multiple of 65535 is its complement, unless it is FFFF, which a complement never is
pub complement : (n e : ℕ) → (n + e) % 65535 ≡ 0 → 0 < n → e < 65536 → e ≢ 65535 → e ≡ inverted (reduced n)
complement zero e h p l ne = absurd (not-suc-le-zero p)
complement (suc n) e h p l ne = omega arith

pub complement_small : (n : ℕ) → 0 < n → inverted (reduced n) < 65535
complement_small zero p = absurd (not-suc-le-zero p)
complement_small (suc n) p = omega arith
