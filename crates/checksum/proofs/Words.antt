-- How the words of a list of bytes are read off its front.
use mathlib.Core.Path.{◌≡◌, refl, ap}
use mathlib.Core.List.{List, [], ◌∷◌}
use Prim.Native.Nat.{ℕ, zero, suc, ◌+◌, ◌*◌, ◌/◌, ◌≤◌, ◌<◌}
use native.Mathlib.Nat.{suc-add, add-suc, not-suc-le-zero, lt_irrefl}
use native.Mathlib.Omega.{arith}
use lib.ListN.{length, get_or, set, drop}
use lib.Dec.{lit<}
use Rattle.std.proofs.Common.{map}
use Rattle.std.specs.Simd.{first_chunks}
use Rattle.checksum.specs.Ones.{words_of, word_at, ones_add, sum_from, Bytes, Words}
use Rattle.lists.proofs.Below.{below_nil, below_cons, below_tail}

-- the words of pairs of bytes
abbrev pub words_in : List (List ℕ) → List ℕ
words_in pairs = map (λ (x : List ℕ). word_at x 0) pairs

-- words added to a sum: those of the pairs, and then that of an odd last byte
pub pairs_sum : (k s : ℕ) (r : List ℕ) → k ≡ length r / 2 → sum_from s (words_of r) ≡ sum_from (sum_from s (words_in (first_chunks 2 k r))) (words_of (drop (k * 2) r))
pairs_sum zero s r h = refl
pairs_sum (suc k) s [] h = absurd (omega arith)
pairs_sum (suc k) s (a ∷ []) h = absurd (omega arith)
pairs_sum (suc k) s (a ∷ b ∷ r) h =
    let past : suc k * 2 ≡ suc (suc (k * 2)) = omega arith in
    rw past (pairs_sum k (ones_add s (a * 256 + b)) r (omega arith))

-- of fewer than two bytes one is the high byte of a word
pub words_odd : (r : List ℕ) → length r < 2 → 1 ≤ length r → words_of r ≡ (get_or r 0 0 * 256) ∷ []
words_odd [] few some = absurd (omega arith)
words_odd (a ∷ []) few some = refl
words_odd (a ∷ b ∷ r) few some = absurd (omega arith)

pub words_none : (r : List ℕ) → length r < 1 → words_of r ≡ []
words_none [] none = refl
words_none (a ∷ r) none = absurd (omega arith)

-- the words of bytes fit sixteen bits
pub words_fit : (b : List ℕ) → Bytes b → Words (words_of b)
words_fit [] all = below_nil (lit< tt)
words_fit (h ∷ []) all = below_cons (omega (arith, all.at 0)) (below_nil (lit< tt))
words_fit (h ∷ l ∷ bs) all = below_cons (omega (arith, all.at 0, all.at 1)) (words_fit bs (below_tail (below_tail all)))

-- two bytes set from an even place on are a word set
pub words-set : (b : List ℕ) (k h l : ℕ) → k + k + 1 < length b → words_of (set (set b (k + k) h) (k + k + 1) l) ≡ set (words_of b) k (h * 256 + l)
words-set [] k h l lt = absurd (not-suc-le-zero lt)
words-set (x ∷ []) k h l lt = let no : 1 < 1 = omega arith in absurd (lt_irrefl 1 no)
words-set (x ∷ y ∷ bs) zero h l lt = refl
words-set (x ∷ y ∷ bs) (suc k) h l lt =
    simp (suc-add, add-suc) (ap (λ (ws : List ℕ). (x * 256 + y) ∷ ws) (words-set bs k h l (omega arith)))

-- a word of bytes, at its place among the words
pub words-at : (b : List ℕ) (k : ℕ) → k + k + 1 < length b → get_or (words_of b) k 0 ≡ word_at b (k + k)
words-at [] k lt = absurd (not-suc-le-zero lt)
words-at (x ∷ []) k lt = let no : 1 < 1 = omega arith in absurd (lt_irrefl 1 no)
words-at (x ∷ y ∷ bs) zero lt = refl
words-at (x ∷ y ∷ bs) (suc k) lt = simp (suc-add, add-suc) (words-at bs k (omega arith))

-- as many words as half the bytes, rounded up
pub words-length : (b : List ℕ) (k : ℕ) → k + k < length b → k < length (words_of b)
words-length [] k lt = absurd (not-suc-le-zero lt)
words-length (x ∷ []) zero lt = omega arith
words-length (x ∷ []) (suc k) lt = let no : 1 < 1 = omega arith in absurd (lt_irrefl 1 no)
words-length (x ∷ y ∷ bs) zero lt = omega arith
words-length (x ∷ y ∷ bs) (suc k) lt = omega (arith, words-length bs k (omega arith))
