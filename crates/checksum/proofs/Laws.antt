-- The laws of specs/Laws.antt: words verify exactly where their total is a multiple of 65535 and not 0, and an edit keeps the total modulo 65535.
use mathlib.Core.Path.{◌≡◌, refl, sym, ap, ◌∙◌}
use mathlib.Core.Logic.{◌↔◌, ◌≢◌}
use mathlib.Core.Bool.{Bool, true, false}
use mathlib.Core.List.{List}
use Prim.Native.Nat.{ℕ, ◌+◌, ◌%◌, ◌<◌}
use native.Mathlib.Omega.{arith}
use lib.ListN.{length, get_or, set, length-set}
use lib.Seq.{get_or-set_same, get_or-set_other, set-set}
use lib.Dec.{eqb, lit<}
use borrow.Author.Tests.{eq-eqb, ne_eqb, eqb-true, eqb-false}
use Rattle.lists.proofs.Below.{below_set}
use Rattle.checksum.specs.Ones.{inverted, ones_sum, total, verifies, edited, fresh, edited_at, with_word, Words}
use Rattle.checksum.specs.Laws.{Checked, Edit, Exception, Laws}
use Rattle.checksum.proofs.Totals.{total-set, at_most_total, other_word}
use Rattle.checksum.proofs.Reduced.{reduced, ones_sum_reduced, reduced_ones, complement, complement_small}
use Rattle.checksum.proofs.Edits.{Congruent, congruent_mod, edited_congruent, edited-fits, edited-ones}

-- two tests against one number agree where the equations do
same_test : (a b n : ℕ) → (a ≡ n) ↔ (b ≡ n) → eqb a n ≡ eqb b n
same_test a b n h = by_cases (eqb b n) refl
  where
    by_cases : (t : Bool) → eqb b n ≡ t → eqb a n ≡ t
    by_cases true e = eq-eqb a n (h.1 (eqb-true b n e))
    by_cases false e = ne_eqb a n (λ q. eqb-false b n e (h.0 q))

-- words verify exactly where their total is a multiple of 65535 and not 0
sum_ones : (ws : List ℕ) → Words ws → (ones_sum ws ≡ 65535) ↔ ((total ws % 65535 ≡ 0) × (0 < total ws))
sum_ones ws all = rw (ones_sum_reduced ws all) (reduced_ones (total ws))

-- two lists of words whose totals are not 0 and congruent verify alike
pub verify_alike : (vs ws : List ℕ) → Words vs → Words ws → 0 < total vs → 0 < total ws → Congruent (total vs) (total ws) → verifies vs ≡ verifies ws
verify_alike vs ws all_v all_w hv hw c =
    let same = congruent_mod (total vs) (total ws) c in
    same_test (ones_sum vs) (ones_sum ws) 65535
    ((λ e. (sum_ones ws all_w).1 (sym same ∙ ((sum_ones vs all_v).0 e).0, hw)), (λ e. (sum_ones vs all_v).1 (same ∙ ((sum_ones ws all_w).0 e).0, hv)))

-- ---- a checksum beside a fresh calculation

fresh_reduced : (ws : List ℕ) → Words ws → fresh ws ≡ inverted (reduced (total ws))
fresh_reduced ws all = ap inverted (ones_sum_reduced ws all)

module _ (ws : List ℕ) (i : ℕ) (c : Checked ws i) where
  -- the words with a 0 for the checksum, as a fresh calculation reads them
  bare : fresh (set ws i 0) ≡ inverted (reduced (total (set ws i 0)))
  bare = fresh_reduced (set ws i 0) (below_set i (lit< tt) c.words)

  without : total (set ws i 0) + get_or ws i 0 ≡ total ws
  without = omega (arith, total-set ws i 0 c.place)

  valid_fresh : verifies ws ≡ true → get_or ws i 0 ≢ 65535 → get_or ws i 0 ≡ fresh (set ws i 0)
  valid_fresh v ne =
      let valid = (sum_ones ws c.words).0 (eqb-true _ _ v) in
      let fits = c.words.at i in
      let t = without in
      complement (total (set ws i 0)) (get_or ws i 0) (rw t valid.0) (omega arith) fits ne ∙ sym bare

  ones_fresh : (k : ℕ) → k ≢ i → 0 < get_or ws k 0 → verifies ws ≡ true → get_or ws i 0 ≡ 65535 → fresh (set ws i 0) ≡ 0
  ones_fresh k apart some v ones =
      let valid = (sum_ones ws c.words).0 (eqb-true _ _ v) in
      let t = without in
      let positive = rw (get_or-set_other ws i k 0 0 apart) at (at_most_total (set ws i 0) k) in
      bare ∙ ap inverted ((reduced_ones (total (set ws i 0))).1 (omega arith, omega arith))

-- ---- an edit

-- it gives FFFF in its exception
exception_ones : (hc m m' : ℕ) → Exception hc m m' → edited hc m m' ≡ 65535
unfolding edited
exception_ones hc m m' w = rw (w.0, w.1, w.2) refl

module _ (ws : List ℕ) (i j m' : ℕ) (c : Checked ws i) (d : Edit ws i j m') where
  within : i < length (set ws j m')
  within = rw length-set c.place

  others : get_or ws i 0 + get_or ws j 0 < total ws
  others = other_word ws i j d.k c.place d.old d.apart d.third.0 d.third.1 d.third.2

  -- the total after the edit, beside the total before
  total-edited : total (with_word ws i j m') + (get_or ws i 0 + get_or ws j 0) ≡ total ws + (edited_at ws i j m' + m')
  total-edited =
      let inner = total-set ws j m' d.old in
      let outer = rw (get_or-set_other ws j i m' 0 d.apart) at (total-set (set ws j m') i (edited_at ws i j m') within) in
      omega arith

  congruent : Congruent (total (with_word ws i j m')) (total ws)
  congruent =
      let e = edited_congruent (get_or ws i 0) (get_or ws j 0) m' (c.words.at i) (c.words.at j) d.new in
      let t = total-edited in
      record { x = e.x; y = e.y; balanced = omega arith }

  words : Words (with_word ws i j m')
  words = below_set i (edited-fits _ _ _) (below_set j d.new c.words)

  verifies_exactly : verifies (with_word ws i j m') ≡ verifies ws
  verifies_exactly =
      let t = total-edited in
      let o = others in
      verify_alike (with_word ws i j m') ws words c.words (omega arith) (omega arith) congruent

  -- a fresh calculation never gives FFFF
  fresh_small : fresh (set (set ws j m') i 0) < 65535
  fresh_small =
      let t = total-edited in
      let o = others in
      let with_edit = total-set (set ws j m') i (edited_at ws i j m') within in
      let with_zero = total-set (set ws j m') i 0 within in
      rw (fresh_reduced (set (set ws j m') i 0) (below_set i (lit< tt) (below_set j d.new c.words)))
      (complement_small (total (set (set ws j m') i 0)) (omega arith))

  -- an edited checksum that is not FFFF is what a fresh calculation gives
  edited-fresh : verifies ws ≡ true → edited_at ws i j m' ≢ 65535 → edited_at ws i j m' ≡ fresh (set (set ws j m') i 0)
  edited-fresh v ne =
      let at_i = get_or-set_same (set ws j m') i (edited_at ws i j m') 0 within in
      let checked : Checked (with_word ws i j m') i = record { words = words; place = rw length-set within } in
      rw (at_i, set-set (set ws j m') i (edited_at ws i j m') 0) at (valid_fresh (with_word ws i j m') i checked (verifies_exactly ∙ v) (rw at_i ne))

  fresh_exactly : verifies ws ≡ true → (edited_at ws i j m' ≡ fresh (set (set ws j m') i 0)) ↔ (Exception (get_or ws i 0) (get_or ws j 0) m' → ⊥)
  fresh_exactly v = (
    (λ e w. let ones = exception_ones (get_or ws i 0) (get_or ws j 0) m' w in
        let small = fresh_small in
        omega arith),
    (λ n. edited-fresh v (λ e. n (edited-ones (get_or ws i 0) (get_or ws j 0) m' (c.words.at i) (c.words.at j) e))),
  )

pub laws : Laws
laws = record {
  verifies_exactly = verifies_exactly;
  fresh_exactly = fresh_exactly;
  ones_exactly = λ (hc m m' : ℕ) h l. (edited-ones hc m m' h l, exception_ones hc m m');
  valid_fresh = valid_fresh;
  ones_fresh = ones_fresh;
}
