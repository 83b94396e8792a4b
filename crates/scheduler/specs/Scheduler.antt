-- What a scheduler is. Assumes nothing: these are definitions.
use Rattle.std.specs.Prelude.{Bool, List, ℕ}
use Rattle.servers.specs.declared.Server.{Server}
use Rattle.scheduler.specs.Walk.{rests_at, held_walk}
use Rattle.scheduler.specs.declared.weights.Weights.{Weights}
use Rattle.scheduler.specs.declared.walk.Walk.{Walk}
use Rattle.scheduler.specs.declared.walk.Pick.{Pick}

-- what a scheduler says, of n servers s and its walk w
pub record Scheduler : Type 0 where
  -- the walk that setup starts with, of n
  pub start : ℕ → Walk
  -- whether a walk is in its range, of the largest weight, n and w
  pub in_range : ℕ → ℕ → Walk → Bool
  -- the walk after a weight call, of w and the weight before and after
  pub after_weight : Walk → ℕ → ℕ → Walk
  -- who is picked, with the walk after it, of s, n, the numbers held of their weights, and w
  pub pick : List Server → ℕ → Weights → Walk → Pick

-- "hold both place and cw at 0 always, and that is their range" (SCOPE 10.11): a scheduler with no walk of its own, by its pick
abbrev pub holding : (List Server → ℕ → Walk → Pick) → Scheduler
holding pick = record {
  start = λ n. held_walk;
  in_range = λ top n w. rests_at 1 w;
  after_weight = λ w old new. w;
  pick = λ s n held w. pick s n w;
}
