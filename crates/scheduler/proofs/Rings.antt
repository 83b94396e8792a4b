-- The ring: the number after another, the walk a number at a time as the loops take it, and that it picks the first number
-- that is taken. Assumes nothing.
use mathlib.Core.Bool.{Bool, true, false, true≢false}
use mathlib.Core.Logic.{⊎_elim}
use mathlib.Core.Path.{◌≡◌, ◌∙◌, refl, sym, ap, subst}
use Prim.Native.Nat.{ℕ, zero, suc, ◌+◌, ◌-◌, ◌%◌, ◌≤◌, ◌<◌}
use native.Mathlib.Nat.{add-zero, mod-eq_of_lt, mod_self, mod-add-mod, add-mod_left}
use native.Mathlib.Omega.{arith}
use lib.Dec.{ltb, leb}
use borrow.Author.Tests.{ltb-true, ltb-false, leb-true, leb-false}
use Rattle.std.specs.Prelude.{Option, Some, None}
use Rattle.lists.proofs.Cases.{by_test, truth}
use Rattle.scheduler.specs.Laws.{AfterLaw, level_after, IsFirst, SomeTaken, RingLaw}
use Rattle.scheduler.specs.Ring.{most_passed, after_in, next_of, picked_at, ring_from}
use Rattle.scheduler.specs.declared.walk.Walk.{Walk}
use Rattle.scheduler.specs.declared.walk.Pick.{Pick}
use Rattle.servers.specs.declared.ServerNo.{ServerNo}

pub after-mod : AfterLaw
after-mod n i h =
    by_test (λ j. j ≡ (i + 1) % n) (ltb (i + 1) n) _ _
    (λ e. sym (mod-eq_of_lt (ltb-true (i + 1) n e)))
    (λ e. let same : i + 1 ≡ n = omega (arith, ltb-false (i + 1) n e) in rw (same, mod_self))

pub after_below : (n i : ℕ) → 0 < n → after_in n i < n
after_below n i h = by_test (λ j. j < n) (ltb (i + 1) n) _ _ (ltb-true (i + 1) n) (λ e. h)

pub next_below : (n : ℕ) (p : Option ServerNo) → 0 < n → next_of n p < n
next_below n None h = h
next_below n (Some i) h = after_below n i.0 h

-- no step after i, and e + 1 steps after i
step_none : (n i : ℕ) → i < n → (i + 0) % n ≡ i
step_none n i h = rw add-zero (mod-eq_of_lt h)

pub step_more : (n i e : ℕ) → i < n → (after_in n i + e) % n ≡ (i + suc e) % n
step_more n i e h = rw (after-mod n i h, mod-add-mod) (ap (λ (j : ℕ). j % n) (omega arith))

-- each number is fewer than n steps after any other
pub distance : (n i j : ℕ) → i < n → j < n → (d : ℕ) × (d < n) × ((i + d) % n ≡ j)
distance n i j p q =
    ⊎_elim
    (λ e. let h : i ≤ j = leb-true i j e in (j - i, omega arith, ap (λ (k : ℕ). k % n) (omega arith) ∙ mod-eq_of_lt q))
    (λ e. let h : j < i = leb-false i j e in (n - i + j, omega arith, ap (λ (k : ℕ). k % n) (omega arith) ∙ add-mod_left n j ∙ mod-eq_of_lt q))
    (truth (leb i j))

-- the walk that comes to i at the level cw, and may pass k numbers, picks x
pub record Picks (level : ℕ → ℕ → ℕ) (picks : ℕ → ℕ → Bool) (n k i cw : ℕ) (x : Pick) : Type 0 where
  pub whole : ring_from level picks n k i cw ≡ x

module _ {level : ℕ → ℕ → ℕ} {picks : ℕ → ℕ → Bool} {n i cw : ℕ} {x : Pick} where
  -- a number that is taken at its level l ends the walk
  pub ring_here : {k l : ℕ} → Picks level picks n k i cw x → l ≡ level i cw → picks i l ≡ true → picked_at i l ≡ x
  unfolding ring_from
  ring_here {k = zero} w e t = rw e w.whole
  ring_here {k = suc k} w e t = simp (← e, t) at w.whole

  -- a number that is not taken at its level l is passed, and the walk comes to j
  pub ring_on : {k m j l : ℕ} → Picks level picks n k i cw x → k ≡ suc m → l ≡ level i cw → picks i l ≡ false → j ≡ after_in n i
      → Picks level picks n m j l x
  unfolding ring_from
  ring_on {k = zero} w h e f a = absurd (omega arith)
  ring_on {k = suc k} {m} w h e f a = let rest : m ≡ k = omega arith in record { whole = rw (a, rest) (simp (← e, f) at w.whole) }

  -- where none may be passed, the walk ends at the number, at its level l
  pub ring_end : {k l : ℕ} → Picks level picks n k i cw x → k ≤ 0 → l ≡ level i cw → picked_at i l ≡ x
  unfolding ring_from
  ring_end {k = zero} w h e = rw e w.whole
  ring_end {k = suc k} w h e = absurd (omega arith)

module _ (level : ℕ → ℕ → ℕ) (picks : ℕ → ℕ → Bool) (n : ℕ) where
  -- the numbers passed: i, and k more from the number after i on
  passed_on : (k i cw : ℕ) → i < n → picks i (level i cw) ≡ false
      → ((e : ℕ) → e < k → picks ((after_in n i + e) % n) (level_after level n e (after_in n i) (level i cw)) ≡ false)
      → (e : ℕ) → e < suc k → picks ((i + e) % n) (level_after level n e i cw) ≡ false
  unfolding level_after
  passed_on k i cw h g f zero l = rw (step_none n i h) g
  passed_on k i cw h g f (suc e) l = rw (← (step_more n i e h)) (f e (omega arith))

  -- what is first from the number after i on is first from i on, where i is passed
  first_on : (k i cw : ℕ) (r : ServerNo) (w : Walk) → i < n → picks i (level i cw) ≡ false
      → IsFirst level picks n k (after_in n i) (level i cw) r w → IsFirst level picks n (suc k) i cw r w
  unfolding level_after
  first_on k i cw r w h g f =
      record {
        steps = suc f.steps;
        within = omega (arith, f.within);
        number = f.number ∙ step_more n i f.steps h;
        moved = f.moved;
        taken = f.taken;
        passed = passed_on f.steps i cw h g f.passed;
      }

  -- i is first where it is taken
  first_here : (k i cw : ℕ) → i < n → picks i (level i cw) ≡ true
      → let p = picked_at i (level i cw) in IsFirst level picks n (suc k) i cw p.server p.walk
  unfolding level_after
  first_here k i cw h t =
      record { steps = 0; within = omega arith; number = sym (step_none n i h); moved = refl; taken = t; passed = λ e g. absurd (omega arith) }

  -- where i is not taken, a number that is comes later
  taken_on : (k i cw e : ℕ) → i < n → picks i (level i cw) ≡ false → e < suc k → picks ((i + e) % n) (level_after level n e i cw) ≡ true
      → SomeTaken level picks n k (after_in n i) (level i cw)
  unfolding level_after
  taken_on k i cw zero h g l t = absurd (true≢false (sym (rw (step_none n i h) at t) ∙ g))
  taken_on k i cw (suc e) h g l t = (e, omega arith, rw (step_more n i e h) t)

  -- the last number that the walk comes to is taken, where one of all is
  ring_from_lem : (k i cw : ℕ) → i < n → SomeTaken level picks n (suc k) i cw
      → let p = ring_from level picks n k i cw in IsFirst level picks n (suc k) i cw p.server p.walk
  unfolding ring_from
  ring_from_lem zero i cw h some =
      first_here 0 i cw h
      (⊎_elim (λ t. t)
      (λ f. let none = taken_on 0 i cw some.0 h f some.1 some.2 in absurd (omega (arith, none.1)))
      (truth (picks i (level i cw))))
  ring_from_lem (suc k) i cw h some =
      by_test (λ (p : Pick). IsFirst level picks n (suc (suc k)) i cw p.server p.walk) (picks i (level i cw)) _ _
      (first_here (suc k) i cw h)
      (λ f. first_on (suc k) i cw _ _ h f
      (ring_from_lem k (after_in n i) (level i cw) (after_below n i (omega arith)) (taken_on (suc k) i cw some.0 h f some.1 some.2)))

pub ring_first : RingLaw
ring_first level picks n w h some =
    let i = next_of n w.place in
    let all : suc (most_passed n) ≡ n = omega arith in
    let p = ring_from level picks n (most_passed n) i w.level in
    subst (λ k. IsFirst level picks n k i w.level p.server p.walk) all
    (ring_from_lem level picks n (most_passed n) i w.level (next_below n w.place h) (subst (λ k. SomeTaken level picks n k i w.level) (sym all) some))
