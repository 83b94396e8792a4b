-- Laws of the plain sum of words, which is passed on with them: what a word written does to it.
use mathlib.Core.Path.{◌≡◌, sym}
use mathlib.Core.List.{List, [], ◌∷◌, ◌++◌}
use mathlib.Core.Logic.{◌≢◌}
use Prim.Native.Nat.{ℕ, zero, suc, ◌+◌, ◌≤◌, zero-le, ◌<◌}
use native.Mathlib.Nat.{not-suc-le-zero, le_of_suc-le-suc, zero-add}
use native.Mathlib.Omega.{arith}
use lib.ListN.{length, get_or, set, length-set}
use lib.Seq.{get_or-set_other}
pub use Rattle.checksum.specs.Ones.{total}

pub total-append : (vs ws : List ℕ) → total (vs ++ ws) ≡ total vs + total ws
total-append [] ws = sym (zero-add (total ws))
total-append (v ∷ vs) ws = omega (arith, total-append vs ws)

pub total-set : (ws : List ℕ) (i v : ℕ) → i < length ws → total (set ws i v) + get_or ws i 0 ≡ total ws + v
total-set [] i v h = absurd (not-suc-le-zero h)
total-set (w ∷ ws) zero v h = omega arith
total-set (w ∷ ws) (suc i) v h = omega (arith, total-set ws i v (le_of_suc-le-suc h))

pub at_most_total : (ws : List ℕ) (i : ℕ) → get_or ws i 0 ≤ total ws
at_most_total [] i = zero-le
at_most_total (w ∷ ws) zero = omega arith
at_most_total (w ∷ ws) (suc i) = omega (arith, at_most_total ws i)

-- a third word that is not 0 makes the total more than two of its words
pub other_word : (ws : List ℕ) (i j k : ℕ) → i < length ws → j < length ws → i ≢ j → k ≢ i → k ≢ j → 0 < get_or ws k 0
    → get_or ws i 0 + get_or ws j 0 < total ws
other_word ws i j k hi hj ij ki kj p =
    let without_i = total-set ws i 0 hi in
    let hj' : j < length (set ws i 0) = rw length-set hj in
    let without_j = rw (get_or-set_other ws i j 0 0 (λ e. ij (sym e))) at (total-set (set ws i 0) j 0 hj') in
    let third = rw (get_or-set_other (set ws i 0) j k 0 0 kj, get_or-set_other ws i k 0 0 ki) at (at_most_total (set (set ws i 0) j 0) k) in
    omega arith
