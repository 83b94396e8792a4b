-- The records of a burst tell the answer to each of its packets. Assumes nothing.
use Rattle.std.proofs.Common.{◌≡◌, ℕ, zero, suc, ◌+◌, ◌*◌, ◌<◌, ◌≤◌, true, false, ltb, List, length, refl, ◌∙◌, ⊎_elim, arith, length-set, ltb-false, ltb-true}
use Rattle.lists.specs.Fold.{fold_below}
use Rattle.lists.proofs.Cases.{truth}
use Rattle.director.specs.declared.state.Answer.{Answer}
use Rattle.serving.specs.declared.told.Told.{Told}
use Rattle.serving.specs.Told.{told_by}
use Rattle.serving.specs.Way.{taken_of}
use Rattle.serving.specs.Burst.{Burst, packets_in, packet_at, recorded, told_at, burst_step, burst_of}
use Rattle.serving.proofs.Tells.{told_here, told_before}
use Rattle.serving.proofs.Turns.{met}

-- an answer stays as later ones are written
told_later : (records : List ℕ) (j : ℕ) (t : Told) (k : ℕ) → k < j → told_at (recorded records j t) k ≡ told_at records k
told_later records j t k h =
    rw (
      told_before records (4 * j) t (4 * k + 1) (omega (arith, h)),
      told_before records (4 * j) t (4 * k + 2) (omega (arith, h)),
      told_before records (4 * j) t (4 * k + 3) (omega (arith, h)),
    )

module _ (b : Burst) where
  long_records : (m : ℕ) → length (burst_of b m).records ≡ length b.records
  unfolding fold_below burst_step
  long_records zero = refl
  long_records (suc m) = simp length-set (long_records m)

  -- what packet k is answered
  abbrev answer_to : ℕ → Answer
  answer_to k = (taken_of (burst_of b k).director (burst_of b k).row (packet_at b.packets b.records k)).answer

  step-told : (k : ℕ) → k < packets_in b.packets b.records → told_at (burst_step (burst_of b k) k).records k ≡ told_by (answer_to k)
  unfolding burst_step
  step-told k h = rw (met b k (omega (arith, h))) (told_here (burst_of b k).records (4 * k) (told_by (answer_to k)) (rw (long_records k) (omega (arith, h))))

  step_later : (m k : ℕ) → k < m → told_at (burst_step (burst_of b m) m).records k ≡ told_at (burst_of b m).records k
  unfolding burst_step
  step_later m k less = told_later (burst_of b m).records m _ k less

  -- the records tell every packet's answer
  pub burst-told : (k m : ℕ) → k < m → m ≤ packets_in b.packets b.records → told_at (burst_of b m).records k ≡ told_by (answer_to k)
  unfolding fold_below
  burst-told k zero h room = absurd (omega arith)
  burst-told k (suc m) h room =
      ⊎_elim
      (λ (e : ltb k m ≡ true). step_later m k (ltb-true k m e) ∙ burst-told k m (ltb-true k m e) (omega (arith, room)))
      (λ (e : ltb k m ≡ false). let same : m ≡ k = omega (arith, h, ltb-false k m e) in rw same (step-told k (omega (arith, h, room))))
      (truth (ltb k m))
