-- What is said of every refusal, by the list of them; and the book's list of numbers that keep the clock says what the director's refusals do.
-- Assumes nothing.
use Prim.Native.Nat.{ℕ, zero, suc}
use mathlib.Core.Bool.{true, false, true≢false}
use mathlib.Core.List.{List, [], ◌∷◌, map}
use mathlib.Core.Logic.{⊎_elim}
use mathlib.Core.Path.{◌≡◌, refl, sym, ap, subst, ◌∙◌}
use borrow.Author.Tests.{eqb-true}
use lib.Dec.{eqb}
use lib.ListN.{get_or}
use Rattle.lists.proofs.Cases.{truth}
use Rattle.director.specs.declared.state.Refusal.{Refusal}
use Rattle.director.specs.State.{refusal_number, keeps_clock}
use Rattle.director.specs.Laws.{refusals}
use Rattle.director.proofs.Laws.{laws}
use Rattle.audit.specs.Book.{clock_kept, has, keeps_clock as number_keeps_clock}

-- an element of a mapped list
get_d_map : {A B : Type 0} (f : A → B) (l : List A) (k : ℕ) (d : A) → get_or (map f l) k (f d) ≡ f (get_or l k d)
get_d_map f [] k d = refl
get_d_map f (x ∷ l) zero d = refl
get_d_map f (x ∷ l) (suc k) d = get_d_map f l k d

-- what two functions say alike of the listed refusals they say alike of each: the list names every one
pub each-refusal : {A : Type 0} (f g : Refusal → A) → map f refusals ≡ map g refusals → (why : Refusal) → f why ≡ g why
each-refusal f g same why =
    let (k, named) = laws.all_named why in
    let first : f Refusal.Size ≡ g Refusal.Size = ap (λ (l : List _). get_or l 0 (f Refusal.Size)) same in
    let listed : f (get_or refusals k Refusal.Size) ≡ g (get_or refusals k Refusal.Size) =
    sym (get_d_map f refusals k Refusal.Size) ∙ ap (λ (l : List _). get_or l k (f Refusal.Size)) same ∙ ap (get_or (map g refusals) k) first ∙ get_d_map g refusals k Refusal.Size in
    subst (λ (x : Refusal). f x ≡ g x) named listed

pub numbers_agree : (why : Refusal) → number_keeps_clock (refusal_number why) ≡ keeps_clock why
numbers_agree = each-refusal (λ why. number_keeps_clock (refusal_number why)) keeps_clock refl

-- a number of a list is none that the list has not
other_number : (n k : ℕ) (l : List ℕ) → has n l ≡ true → has k l ≡ false → eqb n k ≡ false
other_number n k l here away =
    ⊎_elim
    (λ (e : eqb n k ≡ true). absurd (true≢false (sym (rw (eqb-true n k e) at here) ∙ away)))
    (λ (e : eqb n k ≡ false). e)
    (truth (eqb n k))

-- a refusal that keeps the clock is no number that does not
pub kept_other : (why : Refusal) (k : ℕ) → keeps_clock why ≡ true → number_keeps_clock k ≡ false → eqb (refusal_number why) k ≡ false
kept_other why k keeps away = other_number (refusal_number why) k clock_kept (numbers_agree why ∙ keeps) away
