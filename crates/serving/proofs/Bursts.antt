-- One packet of a burst, and the burst after its tick. Assumes nothing.
use Rattle.std.proofs.Common.{◌≡◌, ℕ, ◌+◌, ◌-◌, ◌*◌, true, false, List, [], ◌++◌, take, drop, arith}
use Rattle.lists.proofs.Folds.{fold_none}
use Rattle.director.specs.declared.state.Director.{Director}
use Rattle.director.specs.declared.state.Answer.{Answer}
use Rattle.director.specs.declared.state.Outcome.{Outcome}
use Rattle.director.specs.State.{changes_nothing, is_accepted, left_with, result_of}
use Rattle.director.specs.Tick.{tick_of}
use Rattle.director.proofs.Keeping.{tick-leaves}
use Rattle.serving.specs.declared.told.Told.{Told}
use Rattle.serving.specs.Told.{told_by}
use Rattle.serving.specs.Way.{taken_of}
use Rattle.serving.specs.Burst.{Burst, packets_in, length_of, recorded, bursting, burst_step, burst_of, burst_result, burst_call_of}
use Rattle.serving.proofs.Standings.{nothing_accepted}

less_start : (at n : ℕ) → (at + n) - at ≡ n
less_start at n = omega arith

pub burst-step : (d : Director) (row packets records : List ℕ) (k n : ℕ) (told : Told) (a : Answer) (d' : Director) (row' part records' : List ℕ)
    → n ≡ length_of records k
    → left_with a d' row' part ≡ taken_of d row (take ((2048 * k + n) - 2048 * k) (drop (2048 * k) packets))
    → told ≡ told_by a
    → records' ≡ recorded records k told
    → bursting d' row' (take (2048 * k) packets ++ (part ++ drop ((2048 * k + n) - 2048 * k) (drop (2048 * k) packets))) records'
    ≡ burst_step (bursting d row packets records) k
unfolding burst_step
burst-step d row packets records k n told a d' row' part records' len e numbers wrote =
    rw (wrote, numbers, ← len, ← (rw (less_start (2048 * k) n) at e), less_start (2048 * k) n)

-- the burst call, by its tick
module _ (d : Director) (row packets records : List ℕ) (now : ℕ) (o : Outcome) (row' : List ℕ) (ticked : result_of o row' [] ≡ tick_of d row now) where
  pub burst_accepted : (left : Burst) → is_accepted o.answer ≡ true → left ≡ burst_of (bursting o.director row' packets records) (packets_in packets records)
      → record { answer = o.answer; left = left } ≡ burst_call_of d row packets records now
  unfolding burst_call_of
  burst_accepted left e done = rw (done, ← ticked, e)

  pub burst-refused : is_accepted o.answer ≡ false → burst_result o row' packets records ≡ burst_call_of d row packets records now
  unfolding burst_call_of
  burst-refused e = rw (← ticked, e, fold_none)

-- a burst whose answer changes nothing leaves all as it came
pub burst_back : (d : Director) (row packets records : List ℕ) (now : ℕ) → let r = burst_call_of d row packets records now in
    changes_nothing r.answer ≡ true → r.left ≡ bursting d row packets records
unfolding burst_call_of
burst_back d row packets records now nothing =
    let (same, lent) = (tick-leaves d row now).back nothing in
    rw (nothing_accepted (tick_of d row now).answer nothing, same, lent, fold_none)
