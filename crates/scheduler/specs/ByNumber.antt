-- The schedulers by their numbers. Assumes nothing: these are definitions.
use Rattle.std.specs.Prelude.{Bool, cond, ◌||◌, List, ℕ, eqb}
use Rattle.servers.specs.declared.Server.{Server}
use Rattle.scheduler.specs.Weights.{largest_of}
use Rattle.scheduler.specs.Scheduler.{Scheduler}
use Rattle.scheduler.specs.RoundRobin.{round_robin}
use Rattle.scheduler.specs.WeightedRoundRobin.{weighted_round_robin}
use Rattle.scheduler.specs.LeastConnection.{least_connection}
use Rattle.scheduler.specs.WeightedLeastConnection.{weighted_least_connection}
use Rattle.scheduler.specs.declared.weights.Weights.{Weights}
use Rattle.scheduler.specs.declared.walk.Walk.{Walk}
use Rattle.scheduler.specs.declared.walk.Pick.{Pick}

-- refusal 2 is given for "scheduler not 1..4" (SCOPE 4.2)
abbrev pub is_scheduler : ℕ → Bool
is_scheduler k = eqb k 1 || eqb k 2 || eqb k 3 || eqb k 4

-- the scheduler of the number k, one of these four: no other gets past refusals 2 and 15
abbrev pub scheduler_of : ℕ → Scheduler
scheduler_of k = cond (eqb k 1) round_robin (cond (eqb k 2) weighted_round_robin (cond (eqb k 3) least_connection weighted_least_connection))

-- the start of scheduler k's walk among n servers
abbrev pub start_of : ℕ → ℕ → Walk
start_of k n = (scheduler_of k).start n

-- whether a walk is in the range of scheduler k among n servers, where the largest weight is top
abbrev pub in_range_to : (k top n : ℕ) → Walk → Bool
in_range_to k top n w = (scheduler_of k).in_range top n w

-- whether a walk is in the range of scheduler k
abbrev pub in_range : ℕ → List Server → ℕ → Walk → Bool
in_range k s n w = in_range_to k (largest_of s n) n w

-- the walk of scheduler k after a weight was set
abbrev pub after_weight : ℕ → Walk → ℕ → ℕ → Walk
after_weight k w old new = (scheduler_of k).after_weight w old new

-- the pick of scheduler k among the first n servers, given the numbers held of their weights, with the walk after it
abbrev pub pick_of : ℕ → List Server → ℕ → Weights → Walk → Pick
pick_of k s n held w = (scheduler_of k).pick s n held w
