-- A list of bytes after a word was written: the bytes, the words and their total.
use mathlib.Core.Path.{◌≡◌, ◌∙◌}
use mathlib.Core.Logic.{◌≢◌}
use mathlib.Core.List.{List}
use Prim.Native.Nat.{ℕ, ◌+◌, ◌*◌, ◌/◌, ◌%◌, ◌<◌}
use native.Mathlib.Omega.{arith}
use lib.ListN.{length, get_or, take, drop, set, length-set}
use lib.Seq.{get_or-take, get_or-set_same, get_or-set_other, take-set-lt, drop-set-lt}
use Rattle.checksum.specs.Ones.{word_at, words_of, Bytes}
use Rattle.lists.proofs.Below.{below_set}
use Rattle.checksum.proofs.Words.{words-set, words-at, words-length}
use Rattle.checksum.proofs.Totals.{total, total-set}
use Rattle.packet.specs.Bytes.{address_at, set_word}

pub word_below : (b : List ℕ) (i : ℕ) → Bytes b → word_at b i < 65536
word_below b i all = omega (arith, all.at i, all.at (i + 1))

-- the two words of an address
pub address_high : (b : List ℕ) (i : ℕ) → Bytes b → address_at b i / 65536 ≡ word_at b i
address_high b i all = omega (arith, word_below b (i + 2) all)

pub address_low : (b : List ℕ) (i : ℕ) → Bytes b → address_at b i % 65536 ≡ word_at b (i + 2)
address_low b i all = omega (arith, word_below b (i + 2) all)

pub address_below : (b : List ℕ) (i : ℕ) → Bytes b → address_at b i < 4294967296
address_below b i all = omega (arith, word_below b i all, word_below b (i + 2) all)

pub set_word-length : (b : List ℕ) (i w : ℕ) → length (set_word b i w) ≡ length b
set_word-length b i w = simp length-set

pub set_word_other : (b : List ℕ) (i w j : ℕ) → j ≢ i → j ≢ i + 1 → get_or (set_word b i w) j 0 ≡ get_or b j 0
set_word_other b i w j h l = get_or-set_other (set b i (w / 256)) (i + 1) j (w % 256) 0 l ∙ get_or-set_other b i j (w / 256) 0 h

pub set_word_same : (b : List ℕ) (i w : ℕ) → i + 1 < length b → word_at (set_word b i w) i ≡ w
set_word_same b i w h =
    let here : i < length b = omega arith in
    let next : i + 1 < length (set b i (w / 256)) = rw length-set h in
    let apart : i ≢ i + 1 = omega arith in
    rw (get_or-set_other (set b i (w / 256)) (i + 1) i (w % 256) 0 apart, get_or-set_same b i (w / 256) 0 here, get_or-set_same (set b i (w / 256)) (i + 1) (w % 256) 0 next)
    (omega arith)

pub set_word_apart : (b : List ℕ) (i w j : ℕ) → j ≢ i → j ≢ i + 1 → j + 1 ≢ i → word_at (set_word b i w) j ≡ word_at b j
set_word_apart b i w j h l m =
    let n : j + 1 ≢ i + 1 = omega arith in
    rw (set_word_other b i w j h l, set_word_other b i w (j + 1) m n)

pub set_word-take : (n : ℕ) (b : List ℕ) (i w : ℕ) → i + 1 < n → take n (set_word b i w) ≡ set_word (take n b) i w
set_word-take n b i w h =
    let here : i < n = omega arith in
    rw (take-set-lt n (set b i (w / 256)) (i + 1) (w % 256) h, take-set-lt n b i (w / 256) here)

pub set_word-drop : (n : ℕ) (b : List ℕ) (i w : ℕ) → i + 1 < n → drop n (set_word b i w) ≡ drop n b
set_word-drop n b i w h =
    let here : i < n = omega arith in
    rw (drop-set-lt n (set b i (w / 256)) (i + 1) (w % 256) h, drop-set-lt n b i (w / 256) here)

pub set_word-bytes : {b : List ℕ} (i : ℕ) {w : ℕ} → w < 65536 → Bytes b → Bytes (set_word b i w)
set_word-bytes i h all = below_set (i + 1) (omega arith) (below_set i (omega arith) all)

pub take-word : (n : ℕ) (b : List ℕ) (i : ℕ) → i + 1 < n → word_at (take n b) i ≡ word_at b i
take-word n b i h =
    let here : i < n = omega arith in
    rw (get_or-take n b i 0 here, get_or-take n b (i + 1) 0 h)

-- a word written at an even place, in the total of the words
pub total-set_word : (b : List ℕ) (k i w : ℕ) → i ≡ k + k → i + 1 < length b → total (words_of (set_word b i w)) + word_at b i ≡ total (words_of b) + w
total-set_word b k i w e h =
    let h' = rw e at h in
    let within : k < length (words_of b) = words-length b k (omega arith) in
    let whole : w / 256 * 256 + w % 256 ≡ w = omega arith in
    rw e (rw (words-set b k (w / 256) (w % 256) h', whole, ← words-at b k h') (total-set (words_of b) k w within))
