-- What std says of a chain over the first elements of a list, against a test and a fold of the numbers below n. Assumes nothing.
use Prim.Native.Nat.{ℕ, zero, suc, ◌+◌, ◌≤◌, ◌<◌}
use mathlib.Core.Bool.{Bool, true, false, ◌&&◌, ◌||◌, and-true}
use mathlib.Core.List.{List, [], ◌∷◌}
use mathlib.Core.Logic.{⊎_elim}
use mathlib.Core.Path.{◌≡◌, refl, sym, ap, subst, ◌∙◌}
use native.Mathlib.Nat.{eq-or-lt_of_le}
use native.Mathlib.Numerals.{add-one}
use denote.Param.Members.{Mut}
use native.Mathlib.Omega.{arith}
use borrow.Author.Tests.{lt-ltb, le-ltb, leb-true, leb-false}
use lib.Dec.{ltb, leb}
use lib.ListN.{length, get_or, take, drop}
use Rattle.std.specs.Array.{IsFromFnResult, IsFromFnResultFrom}
use Rattle.std.specs.Fn.{Called}
use Rattle.std.specs.List.{fold, list_all, position_or_len, zip}
use Rattle.std.proofs.lemmas.List.{take_all, get_or_past, length-drop, get_or-drop}
use Rattle.std.proofs.lemmas.List.Folds.{list_all_more}
use Rattle.std.proofs.lemmas.List.Sums.{fold_more}
use Rattle.lists.specs.Fold.{fold_below, all_below}
use Rattle.lists.proofs.Cases.{truth}
use Rattle.lists.proofs.Numbers.{all_from}

module _ {A : Type 0} (p : A → Bool) (l : List A) (d : A) where
  one_more : (n : ℕ) → n < length l → list_all p (take (suc n) l) ≡ (list_all p (take n l) && p (get_or l n d))
  one_more n h = rw add-one at (list_all_more p l n d h)

  -- the first n elements pass: the places below n do
  pub all_first : (n : ℕ) → n ≤ length l → list_all p (take n l) ≡ all_below (λ k. p (get_or l k d)) n
  unfolding all_below
  all_first zero h = refl
  all_first (suc n) h = one_more n h ∙ ap (λ b. b && p (get_or l n d)) (all_first n (omega arith))

  -- each element passes
  pub all_places_pass : list_all p l ≡ all_below (λ k. p (get_or l k d)) (length l)
  all_places_pass = ap (list_all p) (sym (take_all (length l) l (omega arith))) ∙ all_first (length l) (omega arith)

  -- the same of any n, where what stands for a place past the end passes
  pub all_up_to : p d ≡ true → (n : ℕ) → list_all p (take n l) ≡ all_below (λ k. p (get_or l k d)) n
  unfolding all_below
  all_up_to e zero = refl
  all_up_to e (suc n) =
      ⊎_elim
      (λ (h : leb (length l) n ≡ true).
      let past : length l ≤ n = leb-true (length l) n h in
      let same : take (suc n) l ≡ take n l = take_all (suc n) l (omega arith) ∙ sym (take_all n l past) in
      rw (get_or_past l n d past, e, and-true) (ap (list_all p) same ∙ all_up_to e n))
      (λ (h : leb (length l) n ≡ false). one_more n (leb-false (length l) n h) ∙ ap (λ b. b && p (get_or l n d)) (all_up_to e n))
      (truth (leb (length l) n))

-- a fold over the first n elements, where what stands for a place past the end changes nothing
pub fold_up_to : {A B : Type 0} (f : B → A → B) (z : B) (l : List A) (d : A) → ((b : B) → f b d ≡ b) → (n : ℕ)
    → fold f z (take n l) ≡ fold_below (λ b k. f b (get_or l k d)) z n
unfolding fold_below
fold_up_to f z l d stays zero = refl
fold_up_to f z l d stays (suc n) =
    ⊎_elim
    (λ (h : leb (length l) n ≡ true).
    let past : length l ≤ n = leb-true (length l) n h in
    let same : take (suc n) l ≡ take n l = take_all (suc n) l (omega arith) ∙ sym (take_all n l past) in
    rw (get_or_past l n d past, stays) (ap (fold f z) same ∙ fold_up_to f z l d stays n))
    (λ (h : leb (length l) n ≡ false).
    let more : fold f z (take (suc n) l) ≡ f (fold f z (take n l)) (get_or l n d) = rw add-one at (fold_more f z l n d (leb-false (length l) n h)) in
    more ∙ ap (λ b. f b (get_or l n d)) (fold_up_to f z l d stays n))
    (truth (leb (length l) n))

-- the elements from place a on, m of them
pub all_between : {A : Type 0} (p : A → Bool) (l : List A) (d : A) (a m : ℕ) → a + m ≤ length l
    → list_all p (take m (drop a l)) ≡ all_below (λ k. ltb k a || p (get_or l k d)) (a + m)
unfolding all_below
all_between p l d a zero h = sym (all_from _ (a + 0) (λ j g. rw (lt-ltb j a (omega arith))))
all_between p l d a (suc m) h =
    let next : a + suc m ≡ suc (a + m) = omega arith in
    one_more p (drop a l) d m (omega (arith, length-drop a l))
    ∙ rw (next, all_between p l d a m (omega arith), get_or-drop a l m d, le-ltb (a + m) a (omega arith))

-- no element passes before the first, and none at all where the first is past the end
pub none_before : {A : Type 0} (p : A → Bool) (l : List A) (d : A) (k : ℕ) → k < position_or_len p l → k < length l → p (get_or l k d) ≡ false
none_before p [] d k h g = absurd (omega arith)
none_before p (x ∷ l) d zero h g = ⊎_elim (λ (e : p x ≡ true). absurd (omega (arith, rw e at h))) (λ (e : p x ≡ false). e) (truth (p x))
none_before p (x ∷ l) d (suc k) h g =
    ⊎_elim
    (λ (e : p x ≡ true). absurd (omega (arith, rw e at h)))
    (λ (e : p x ≡ false). none_before p l d k (omega (arith, rw e at h)) (omega arith))
    (truth (p x))

-- a place of two lists side by side
pub get_or-beside : {A B : Type 0} (l : List A) (m : List B) (d : A) (e : B) (i : ℕ) → length l ≡ length m → get_or (zip l m) i (d, e) ≡ (get_or l i d, get_or m i e)
get_or-beside [] [] d e i h = refl
get_or-beside [] (y ∷ m) d e i h = absurd (omega arith)
get_or-beside (x ∷ l) [] d e i h = absurd (omega arith)
get_or-beside (x ∷ l) (y ∷ m) d e zero h = refl
get_or-beside (x ∷ l) (y ∷ m) d e (suc i) h = get_or-beside l m d e i (omega arith)

-- an array made from its places by a closure that changes nothing
module _ {F B : Type 0} (g : Mut F (ℕ × Unit {0}) B) (h : ℕ → B) (f : F)
    (pure : (i : ℕ) (y : B) (q : F) → Called g f (i, tt) y q → (q ≡ f) × (y ≡ h i)) where
  each_made : (ys : List B) (i n k : ℕ) (d : B) → IsFromFnResultFrom g f ys i n → i ≤ k → k < i + n → get_or ys k d ≡ h k
  each_made ys i zero k d made low high = absurd (omega arith)
  each_made ys i (suc n) k d (q, y, at, called, rest) low high =
      let (same, is) = pure i y q called in
      ⊎_elim
      (λ (e : i ≡ k). rw (← e) (at.1 d ∙ is))
      (λ (l : i < k). each_made ys (i + 1) n k d (subst (λ p. IsFromFnResultFrom g p ys (i + 1) n) same rest) (omega arith) (omega arith))
      (eq-or-lt_of_le low)

  pub all_made : (ys : List B) (n k : ℕ) (d : B) → IsFromFnResult g f ys n → k < n → get_or ys k d ≡ h k
  all_made ys n k d made l = each_made ys 0 n k d made.each (omega arith) (omega arith)
