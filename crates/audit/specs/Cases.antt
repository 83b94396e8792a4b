-- How the computed tables are written: cases, and answers in numbers. Assumes nothing: these are definitions.
use Rattle.std.specs.Prelude.{ℕ, List, [], ◌∷◌, map, ◌≡◌}
use Rattle.director.specs.declared.state.Change.{Change}
use Rattle.director.specs.declared.state.Answer.{Answer}
use Rattle.director.specs.State.{refusal_number}
use Rattle.audit.specs.Calls.{Call, State, called}
use Rattle.audit.specs.Demand1.{number_given}

-- a case of a table: what the rules give, and what is printed
pub record Case : Type 0 where
  pub given : List ℕ
  pub printed : List ℕ

-- what the rules give is what is printed, in every case
abbrev pub Hold : List Case → Type 0
Hold table = map (λ (c : Case). c.given) table ≡ map (λ (c : Case). c.printed) table

-- Answers in numbers

-- as the C boundary tells them
abbrev pub change_number : Change → ℕ
change_number Change.Opened = 1
change_number Change.Kept = 2
change_number Change.Ended = 3

-- the refusal, 0 where the call is accepted; then a count or tick call's number, or a packet's server and change
abbrev pub answered : Answer → List ℕ
answered Answer.Done = 0 ∷ []
answered (Answer.Number n) = 0 ∷ n ∷ []
answered (Answer.Passed i change) = 0 ∷ i.0 ∷ change_number change ∷ []
answered (Answer.Refused why) = refusal_number why ∷ []

-- the same as they are printed
abbrev pub done : List ℕ
done = 0 ∷ []

abbrev pub number : ℕ → List ℕ
number n = 0 ∷ n ∷ []

abbrev pub opened : ℕ → List ℕ
opened server = 0 ∷ server ∷ 1 ∷ []

abbrev pub kept : ℕ → List ℕ
kept server = 0 ∷ server ∷ 2 ∷ []

abbrev pub ended : ℕ → List ℕ
ended server = 0 ∷ server ∷ 3 ∷ []

abbrev pub refused : ℕ → List ℕ
refused why = why ∷ []

-- Refusals

-- the number of a call's refusal, 0 where it is accepted
abbrev pub refusal : State → Call → ℕ
refusal s c = number_given (called s c).answer

-- numbers, each beside what is printed for it
abbrev pub beside : List (ℕ × ℕ) → Case
beside rows = record { given = map (λ r. r.0) rows; printed = map (λ r. r.1) rows }

-- calls that differ in one thing: the refusal of a call with it, and each such thing beside what is printed for it
abbrev pub each : {A : Type 0} → (A → ℕ) → List (A × ℕ) → Case
each f rows = beside (map (λ r. (f r.0, r.1)) rows)
