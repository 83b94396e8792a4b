-- Counters of answers: 46 numbers, 23 for each way, so that each refusal up to 20 has its place, also a number that no call gives.
-- Assumes nothing: these are definitions.
use Rattle.std.specs.Prelude.{ℕ, ◌+◌, ◌%◌, ◌^◌, List, slice_index, slice_set}
use Rattle.director.specs.declared.state.Way.{Way}
use Rattle.director.specs.declared.state.Change.{Change}
use Rattle.director.specs.declared.state.Answer.{Answer}
use Rattle.director.specs.State.{refusal_number}

-- the first counter of a way
abbrev pub first_of : Way → ℕ
first_of Way.Inbound = 0
first_of Way.Outbound = 23

-- among those of a way, the counter of a change
abbrev pub change_index : Change → ℕ
change_index Change.Opened = 0
change_index Change.Kept = 1
change_index Change.Ended = 2

-- and of an answer: after the changes, refusals by their number (no packet call answers the other two)
abbrev pub answer_index : Answer → ℕ
answer_index (Answer.Passed i change) = change_index change
answer_index (Answer.Refused why) = 2 + refusal_number why
answer_index Answer.Done = 0
answer_index (Answer.Number n) = 0

-- the counters with one answer more: of 64 bits, which wrap
abbrev pub counted : List ℕ → Way → Answer → List ℕ
counted counters way a = let k = first_of way + answer_index a in slice_set counters k ((slice_index counters k + 1) % 2 ^ 64)
