-- A valid checksum among words of bytes is what a fresh calculation gives, if it is not FFFF; with RFC 768's rule also if it is.
use mathlib.Core.Path.{◌≡◌, refl, sym, ap, ◌∙◌}
use mathlib.Core.Logic.{◌≢◌, ⊎_elim}
use mathlib.Core.List.{List, ◌++◌}
use mathlib.Core.Bool.{true}
use Prim.Native.Nat.{ℕ, ◌+◌, ◌-◌, ◌/◌, ◌%◌, ◌<◌}
use native.Mathlib.Omega.{arith}
use lib.ListN.{length, get_or, set, length-append}
use lib.Seq.{get_or-append-add}
use lib.Dec.{eqb}
use borrow.Author.Tests.{eqb-true, eqb-false, ne_eqb}
use Rattle.std.proofs.lemmas.List.{set-append_right}
use Rattle.lists.proofs.Cases.{truth}
use Rattle.checksum.specs.Ones.{word_at, words_of, verifies, edited, fresh, Words}
use Rattle.checksum.specs.Laws.{Checked}
use Rattle.checksum.proofs.Words.{words-set, words-at, words-length}
use Rattle.checksum.proofs.Edits.{edited-fits}
use Rattle.checksum.proofs.Laws.{laws}
use Rattle.packet.specs.Bytes.{set_word}
use Rattle.packet.specs.Redirect.{edited_address, transmitted}

-- words of which those of the bytes b come last, with the checksum at an even place of b
module _ (front b : List ℕ) (k at : ℕ) (even : at ≡ k + k) (fits : at + 1 < length b) (all : Words (front ++ words_of b)) where
  fits' : k + k + 1 < length b
  fits' = omega arith

  found : get_or (front ++ words_of b) (length front + k) 0 ≡ word_at b at
  found = get_or-append-add front (words_of b) k 0 ∙ words-at b k fits' ∙ ap (word_at b) (sym even)

  bare : set (front ++ words_of b) (length front + k) 0 ≡ front ++ words_of (set_word b at 0)
  bare =
      let here : length front + k - length front ≡ k = omega arith in
      rw here at (set-append_right front (words_of b) (length front) (length front + k) 0 refl (omega arith)) ∙ ap (λ (ws : List ℕ). front ++ ws) (sym (rw even (words-set b k 0 0 fits')))

  checked : Checked (front ++ words_of b) (length front + k)
  checked = record { words = all; place = rw length-append (omega (arith, words-length b k (omega arith))) }

  pub valid_fresh : verifies (front ++ words_of b) ≡ true → word_at b at ≢ 65535 → word_at b at ≡ fresh (front ++ words_of (set_word b at 0))
  valid_fresh v ne = rw (found, bare) at (laws.valid_fresh _ _ checked v (rw found ne))

  -- RFC 768's rule takes in FFFF, if another word is not 0
  pub valid_transmitted : (j : ℕ) → j < length front → 0 < get_or (front ++ words_of b) j 0 → verifies (front ++ words_of b) ≡ true → word_at b at ≢ 0
      → word_at b at ≡ transmitted (fresh (front ++ words_of (set_word b at 0)))
  valid_transmitted j h some v ne =
      ⊎_elim
      (λ e. let ones = eqb-true (word_at b at) 65535 e in
      let zero : fresh (front ++ words_of (set_word b at 0)) ≡ 0 = rw bare at (laws.ones_fresh _ _ checked j (omega arith) some v (found ∙ ones)) in
      ones ∙ sym (ap transmitted zero))
      (λ e. let same = valid_fresh v (eqb-false (word_at b at) 65535 e) in
      rw (ne_eqb (fresh (front ++ words_of (set_word b at 0))) 0 (rw same at ne)) same)
      (truth (eqb (word_at b at) 65535))

-- ---- an edit that sets something other than 0 never gives FFFF

pub word_not_ones : (hc m m' : ℕ) → hc < 65536 → m < 65536 → 0 < m' → edited hc m m' ≢ 65535
word_not_ones hc m m' h l some e = omega (arith, (laws.ones_exactly hc m m' h l).0 e)

pub address_not_ones : (sum a a' : ℕ) → sum < 65536 → a < 4294967296 → 0 < a' → edited_address sum a a' ≢ 65535
address_not_ones sum a a' h l some e =
    let last = (laws.ones_exactly (edited sum (a / 65536) (a' / 65536)) (a % 65536) (a' % 65536) (edited-fits _ _ _) (omega arith)).0 e in
    let first = (laws.ones_exactly sum (a / 65536) (a' / 65536) h (omega arith)).0 last.0 in
    omega arith
