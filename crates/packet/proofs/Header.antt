-- What setting an address does to a header: its checksum stays congruent, and every other byte is as it was.
use mathlib.Core.Path.{◌≡◌, refl, ap, ◌∙◌}
use mathlib.Core.List.{List}
use Prim.Native.Nat.{ℕ, ◌+◌, ◌/◌, ◌%◌, ◌≤◌, ◌<◌}
use native.Mathlib.Omega.{arith}
use lib.Dec.{lit<}
use lib.ListN.{length, get_or, take, drop, length-set}
use lib.Seq.{length-take-le}
use Rattle.checksum.specs.Ones.{word_at, words_of, edited, Bytes}
use Rattle.checksum.proofs.Totals.{total}
use Rattle.checksum.proofs.Edits.{Congruent, edited_congruent, edited-fits}
use Rattle.packet.specs.Bytes.{address_at, set_word, set_address}
use Rattle.packet.specs.Redirect.{edited_address, header_edited}
use Rattle.packet.specs.Laws.{Outside}
use Rattle.packet.proofs.Places.{Even}
use Rattle.packet.proofs.Written.{word_below, address_high, address_low, address_below, set_word-length, set_word_other, set_word_same, set_word_apart, set_word-take, set_word-drop, set_word-bytes, take-word, total-set_word}

-- an edit for an address keeps the sum of the checksum and the address's two words
pub address_congruent : (sum a a' : ℕ) → sum < 65536 → a < 4294967296 → a' < 4294967296
    → Congruent (edited_address sum a a' + (a' / 65536 + a' % 65536)) (sum + (a / 65536 + a % 65536))
address_congruent sum a a' hs ha ha' =
    let first = edited sum (a / 65536) (a' / 65536) in
    let e₁ = edited_congruent sum (a / 65536) (a' / 65536) hs (omega arith) (omega arith) in
    let e₂ = edited_congruent first (a % 65536) (a' % 65536) (edited-fits _ _ _) (omega arith) (omega arith) in
    record { x = e₁.x + e₂.x; y = e₁.y + e₂.y; balanced = omega arith }

-- ---- a header h whose checksum becomes s and whose address at an even place becomes a'

module _ (h : List ℕ) (at s a' : ℕ) (place : Even 12 16 at) where
  -- a byte that is none of those written
  written_other : (i : ℕ) → Outside 10 2 i → Outside at 4 i → get_or (set_address (set_word h 10 s) at a') i 0 ≡ get_or h i 0
  written_other i sum address =
      let h₁ = set_word h 10 s in
      let last = address 3 (lit< tt) in
      set_word_other (set_word h₁ at (a' / 65536)) (at + 2) (a' % 65536) i (address 2 (lit< tt)) (omega arith)
      ∙ set_word_other h₁ at (a' / 65536) i (omega (arith, address 0 (lit< tt))) (address 1 (lit< tt))
      ∙ set_word_other h 10 s i (sum 0 (lit< tt)) (sum 1 (lit< tt))

  module _ (fits : at + 3 < length h) where
    written_sum : word_at (set_address (set_word h 10 s) at a') 10 ≡ s
    written_sum =
        let h₁ = set_word h 10 s in
        set_word_apart (set_word h₁ at (a' / 65536)) (at + 2) (a' % 65536) 10 (omega (arith, place)) (omega (arith, place)) (omega (arith, place))
        ∙ set_word_apart h₁ at (a' / 65536) 10 (omega (arith, place)) (omega (arith, place)) (omega (arith, place))
        ∙ set_word_same h 10 s (omega (arith, place))

    written_high : word_at (set_address (set_word h 10 s) at a') at ≡ a' / 65536
    written_high =
        let h₁ = set_word h 10 s in
        let within : at + 1 < length h₁ = rw set_word-length (omega arith) in
        set_word_apart (set_word h₁ at (a' / 65536)) (at + 2) (a' % 65536) at (omega arith) (omega arith) (omega arith) ∙ set_word_same h₁ at (a' / 65536) within

    written_low : word_at (set_address (set_word h 10 s) at a') (at + 2) ≡ a' % 65536
    written_low =
        let h₂ = set_word (set_word h 10 s) at (a' / 65536) in
        let within : at + 2 + 1 < length h₂ = rw (set_word-length (set_word h 10 s) at (a' / 65536), set_word-length h 10 s) (omega arith) in
        set_word_same h₂ (at + 2) (a' % 65536) within

    -- the total of its words
    written_total : total (words_of (set_address (set_word h 10 s) at a')) + (word_at h 10 + (word_at h at + word_at h (at + 2)))
        ≡ total (words_of h) + (s + (a' / 65536 + a' % 65536))
    written_total =
        let h₁ = set_word h 10 s in
        let h₂ = set_word h₁ at (a' / 65536) in
        let fits₁ : at + 1 < length h₁ = rw set_word-length (omega arith) in
        let fits₂ : at + 2 + 1 < length h₂ = rw (set_word-length h₁ at (a' / 65536), set_word-length h 10 s) (omega arith) in
        let low = place.least in
        let even = place.even in
        let t₁ = total-set_word h 5 10 s refl (omega arith) in
        let t₂ = rw (set_word_apart h 10 s at (omega arith) (omega arith) (omega arith)) at (total-set_word h₁ place.half at (a' / 65536) even fits₁) in
        let t₃ = rw (set_word_apart h₁ at (a' / 65536) (at + 2) (omega arith) (omega arith) (omega arith), set_word_apart h 10 s (at + 2) (omega arith) (omega arith) (omega arith))
        at (total-set_word h₂ (place.half + 1) (at + 2) (a' % 65536) (omega arith) fits₂) in
        omega arith

-- ---- a packet whose address at an even place becomes a'

module _ (at a' : ℕ) (p : List ℕ) (place : Even 12 16 at) where
  abbrev sum : ℕ
  sum = edited_address (word_at p 10) (address_at p at) a'

  pub header_edited-length : length (header_edited at a' p) ≡ length p
  unfolding header_edited
  header_edited-length = simp length-set

  pub header_edited-bytes : a' < 4294967296 → Bytes p → Bytes (header_edited at a' p)
  unfolding header_edited
  header_edited-bytes new bytes = set_word-bytes (at + 2) (omega arith) (set_word-bytes at (omega arith) (set_word-bytes 10 (edited-fits _ _ _) bytes))

  pub header_edited_other : (i : ℕ) → Outside 10 2 i → Outside at 4 i → get_or (header_edited at a' p) i 0 ≡ get_or p i 0
  unfolding header_edited
  header_edited_other = written_other p at sum a' place

  module _ (fits : at + 3 < length p) where
    pub header_edited-sum : word_at (header_edited at a' p) 10 ≡ edited_address (word_at p 10) (address_at p at) a'
    unfolding header_edited
    header_edited-sum = written_sum p at sum a' place fits

    pub header_edited_high : word_at (header_edited at a' p) at ≡ a' / 65536
    unfolding header_edited
    header_edited_high = written_high p at sum a' place fits

    pub header_edited_low : word_at (header_edited at a' p) (at + 2) ≡ a' % 65536
    unfolding header_edited
    header_edited_low = written_low p at sum a' place fits

  -- bytes from place n on, past the address
  pub header_edited-drop : (n : ℕ) → at + 3 < n → drop n (header_edited at a' p) ≡ drop n p
  unfolding header_edited
  header_edited-drop n h =
      set_word-drop n _ (at + 2) (a' % 65536) (omega arith) ∙ set_word-drop n _ at (a' / 65536) (omega arith) ∙ set_word-drop n p 10 _ (omega (arith, place))

  -- the header of n bytes stays congruent
  module _ (n : ℕ) (fits : at + 3 < n) (within : n ≤ length p) where
    pub header-set : take n (header_edited at a' p) ≡ set_address (set_word (take n p) 10 sum) at a'
    unfolding header_edited
    header-set =
        let p₁ = set_word p 10 sum in
        set_word-take n (set_word p₁ at (a' / 65536)) (at + 2) (a' % 65536) (omega arith)
        ∙ ap (λ (h : List ℕ). set_word h (at + 2) (a' % 65536)) (set_word-take n p₁ at (a' / 65536) (omega arith)
        ∙ ap (λ (h : List ℕ). set_word h at (a' / 65536)) (set_word-take n p 10 sum (omega (arith, place))))

    pub header_congruent : Bytes p → a' < 4294967296 → Congruent (total (words_of (take n (header_edited at a' p)))) (total (words_of (take n p)))
    header_congruent bytes new =
        let edit = address_congruent (word_at p 10) (address_at p at) a' (word_below p 10 bytes) (address_below p at bytes) new in
        let high = address_high p at bytes in
        let low = address_low p at bytes in
        let fits' : at + 3 < length (take n p) = rw (length-take-le n p within) fits in
        let t = rw (← header-set, take-word n p 10 (omega (arith, place)), take-word n p at (omega arith), take-word n p (at + 2) (omega arith))
        at (written_total (take n p) at sum a' place fits') in
        record { x = edit.x; y = edit.y; balanced = omega arith }
