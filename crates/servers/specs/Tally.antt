-- Counts by server: a number for each place. Assumes nothing: these are definitions.
use Rattle.std.specs.Prelude.{Bool, List, ℕ, ◌+◌, eqb, get_or, set}
use Rattle.lists.specs.Fold.{all_below}
use Rattle.servers.specs.declared.Server.{Server}
use Rattle.servers.specs.Servers.{count_at}

-- the number counted for the server at a place
abbrev pub counted : List ℕ → ℕ → ℕ
counted counts i = get_or counts i 0

-- one more is counted for the server at a place
abbrev pub one_more : List ℕ → ℕ → List ℕ
one_more counts i = set counts i (counted counts i + 1)

-- the count of each of the first n servers is the number counted for it
abbrev pub counts_agree : List ℕ → List Server → ℕ → Bool
counts_agree counts servers n = all_below (λ j. eqb (count_at servers j) (counted counts j)) n
