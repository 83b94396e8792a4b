-- The editing laws of specs/Laws.antt. Edits in a row keep checksum and words modulo 65535, and congruent words are equal unless just one of them is FFFF.
use mathlib.Core.Path.{◌≡◌, sym, ◌∙◌}
use mathlib.Core.Logic.{◌↔◌, ◌≢◌, ⊎_elim}
use mathlib.Core.Bool.{true, false, cond}
use Prim.Native.Nat.{ℕ, ◌+◌, ◌<◌}
use native.Mathlib.Omega.{arith}
use lib.Dec.{eqb}
use borrow.Author.Tests.{eqb-true, eqb-false}
use Rattle.lists.proofs.Cases.{truth}
use Rattle.checksum.specs.Ones.{edited}
use Rattle.checksum.specs.Laws.{Exception, EditingLaws}
use Rattle.checksum.proofs.Edits.{Congruent, edited_congruent, edited-fits}
use Rattle.checksum.proofs.Laws.{laws}

-- congruent words are equal where one is FFFF exactly if the other is
same_word : (x y : ℕ) → x < 65536 → y < 65536 → (x ≡ 65535) ↔ (y ≡ 65535) → Congruent x y → x ≡ y
same_word x y lx ly ones c =
    ⊎_elim
    (λ (e : eqb x 65535 ≡ true). let q = eqb-true x 65535 e in q ∙ sym (ones.0 q))
    (λ (e : eqb x 65535 ≡ false). let n = eqb-false x 65535 e in
    let n' : y ≢ 65535 = λ q. n (ones.1 q) in
    omega arith)
    (truth (eqb x 65535))

-- two edits, of one word or of two
module _ (hc a a' b b' : ℕ) (l : hc < 65536) (la : a < 65536) (la' : a' < 65536) (lb : b < 65536) (lb' : b' < 65536) where
  two_congruent : Congruent (edited (edited hc a a') b b' + a' + b') (hc + a + b)
  two_congruent =
      let first = edited_congruent hc a a' l la la' in
      let second = edited_congruent (edited hc a a') b b' (edited-fits hc a a') lb lb' in
      record { x = first.x + second.x; y = first.y + second.y; balanced = omega arith }

  -- they give FFFF exactly where each by itself would
  two_ones : (edited (edited hc a a') b b' ≡ 65535) ↔ (Exception hc a a' × Exception hc b b')
  two_ones =
      let first = laws.ones_exactly hc a a' l la in
      let second = laws.ones_exactly (edited hc a a') b b' (edited-fits hc a a') lb in (
        (λ e. let w = second.0 e in
            let v = first.0 w.0 in
            (v, (v.0, w.1, w.2))),
        (λ w. second.1 (first.1 w.0, w.1.1, w.1.2)),
      )

module _ (hc a b c : ℕ) (l : hc < 65536) (la : a < 65536) (lb : b < 65536) (lc : c < 65536) where
  -- a second edit of a word never gives FFFF: the first would make it 0, and the second find it FFFF
  never_ones : edited (edited hc a b) b c ≢ 65535
  never_ones e = let w = (two_ones hc a b b c l la lb lb lc).0 e in omega (arith, w.0.2, w.1.1)

  chained : (Exception hc a c → ⊥) → edited (edited hc a b) b c ≡ edited hc a c
  chained n =
      let two = two_congruent hc a b b c l la lb lb lc in
      let one = edited_congruent hc a c l la lc in
      same_word _ _ (edited-fits (edited hc a b) b c) (edited-fits hc a c)
      ((λ e. absurd (never_ones e)), (λ e. absurd (n ((laws.ones_exactly hc a c l la).0 e))))
      (record { x = two.x + one.y; y = two.y + one.x; balanced = omega arith })

pub editing : EditingLaws
editing = record {
  chained = λ (hc a b c : ℕ) l la lb lc. ((λ e w. never_ones hc a b c l la lb lc (e ∙ (laws.ones_exactly hc a c l la).1 w)), chained hc a b c l la lb lc);
  there_and_back = λ (hc a b : ℕ) l la lb.
      let fits = edited-fits (edited hc a b) b a in
      let never = never_ones hc a b a l la lb la in
      let two = two_congruent hc a b b a l la lb lb la in
      ⊎_elim
      (λ (e : eqb hc 65535 ≡ true). let zero : cond (eqb hc 65535) 0 hc ≡ 0 = rw e in omega (arith, eqb-true hc 65535 e))
      (λ (e : eqb hc 65535 ≡ false). let same : cond (eqb hc 65535) 0 hc ≡ hc = rw e in omega (arith, eqb-false hc 65535 e))
      (truth (eqb hc 65535));
  either_order = λ (hc a a' b b' : ℕ) l la la' lb lb'.
      let first = two_congruent hc a a' b b' l la la' lb lb' in
      let second = two_congruent hc b b' a a' l lb lb' la la' in
      let ones = two_ones hc a a' b b' l la la' lb lb' in
      let ones' = two_ones hc b b' a a' l lb lb' la la' in
      same_word _ _ (edited-fits (edited hc a a') b b') (edited-fits (edited hc b b') a a')
      ((λ e. let w = ones.0 e in ones'.1 (w.1, w.0)), (λ e. let w = ones'.0 e in ones.1 (w.1, w.0)))
      (record { x = first.x + second.y; y = first.y + second.x; balanced = omega arith });
}
