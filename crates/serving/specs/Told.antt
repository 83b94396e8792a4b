-- An answer in numbers (SCOPE section 4). Assumes nothing: these are definitions.
use Rattle.std.specs.Prelude.{ℕ, ◌+◌, List, slice_index, slice_set}
use Rattle.director.specs.declared.state.Answer.{Answer}
use Rattle.director.specs.declared.state.Change.{Change}
use Rattle.director.specs.State.{refusal_number}
use Rattle.serving.specs.declared.told.Told.{Told}

-- "one of: opened .., ended .., kept" (SCOPE 7.9)
abbrev pub change_number : Change → ℕ
change_number Change.Opened = 1
change_number Change.Kept = 2
change_number Change.Ended = 3

-- an answer in numbers: 0 for an accepted call, or the refusal; the number is the count, or how many connections the tick removed, or the
-- packet's server. "A refusal's answer is its number alone" (SCOPE 5.5)
abbrev pub told_by : Answer → Told
told_by Answer.Done = record { refusal = 0; number = 0; change = 0 }
told_by (Answer.Number n) = record { refusal = 0; number = n; change = 0 }
told_by (Answer.Passed i change) = record { refusal = 0; number = i.0; change = change_number change }
told_by (Answer.Refused why) = record { refusal = refusal_number why; number = 0; change = 0 }

-- words with what an answer tells in the three behind a place
abbrev pub told_behind : List ℕ → ℕ → Told → List ℕ
told_behind words at t = slice_set (slice_set (slice_set words (at + 1) t.refusal) (at + 2) t.number) (at + 3) t.change

-- what the words behind a place tell
abbrev pub told_in : List ℕ → ℕ → Told
told_in words at = record { refusal = slice_index words (at + 1); number = slice_index words (at + 2); change = slice_index words (at + 3) }
