-- What a call leaves: exactly what it was handed where its refusal changes nothing, and else a sound state. Assumes nothing.
use Prim.Native.Nat.{ℕ}
use mathlib.Core.Bool.{true, false, true≢false, false≢true}
use mathlib.Core.List.{List}
use mathlib.Core.Logic.{⊎_elim}
use mathlib.Core.Path.{◌≡◌, refl, sym, ◌∙◌}
use Rattle.lists.proofs.Cases.{truth}
use Rattle.director.specs.declared.state.Director.{Director}
use Rattle.director.specs.declared.state.Refusal.{Refusal}
use Rattle.director.specs.State.{keeps_clock, changes_nothing, Lent, Result, refusal}
use Rattle.director.specs.Judge.{sound_of}

-- the state and the row that a call leaves are sound
abbrev pub LeavesSound : Result → Type 0
LeavesSound r = sound_of r.director r.lent.table ≡ true

pub record Leaves (d : Director) (x : Lent (List ℕ)) (r : Result) : Type 0 where
  pub back : changes_nothing r.answer ≡ true → (r.director ≡ d) × (r.lent ≡ x)
  pub sound : changes_nothing r.answer ≡ false → LeavesSound r

-- refused before the clock is accepted
pub leaves_all : (d : Director) (x : Lent (List ℕ)) (why : Refusal) → keeps_clock why ≡ false → Leaves d x (refusal why d x)
leaves_all d x why early = record { back = λ e. (refl, refl); sound = λ e. absurd (true≢false (rw early at e)) }

-- accepted, or refused past 11
pub leaves_changed : (d : Director) (x : Lent (List ℕ)) (r : Result) → changes_nothing r.answer ≡ false → LeavesSound r → Leaves d x r
leaves_changed d x r late sound = record { back = λ e. absurd (false≢true (sym late ∙ e)); sound = λ e. sound }

-- a call of a sound state leaves one, whatever it answers
pub leaves_sound : (d : Director) (x : Lent (List ℕ)) (r : Result) → Leaves d x r → sound_of d x.table ≡ true → LeavesSound r
leaves_sound d x r left sound =
    ⊎_elim
    (λ (e : changes_nothing r.answer ≡ true). let (same, lent) = left.back e in rw (same, lent) sound)
    (λ (e : changes_nothing r.answer ≡ false). left.sound e)
    (truth (changes_nothing r.answer))

-- every call but setup: of a sound state it is known what it leaves, and one that is not sound gets 15
pub leaves_judged : (d : Director) (x : Lent (List ℕ)) (r : Result) → (sound_of d x.table ≡ true → Leaves d x r)
    → (sound_of d x.table ≡ false → r ≡ refusal Refusal.Unsound d x) → Leaves d x r
leaves_judged d x r sound unsound =
    ⊎_elim sound (λ (e : sound_of d x.table ≡ false). rw (unsound e) (leaves_all d x Refusal.Unsound refl)) (truth (sound_of d x.table))
