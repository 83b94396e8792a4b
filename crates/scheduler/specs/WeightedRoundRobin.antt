-- Scheduler 2, weighted round-robin. Assumes nothing: these are definitions.
use Rattle.std.specs.Prelude.{Bool, true, cond, not, ◌&&◌, List, ℕ, ◌-◌, ltb, leb, eqb, Option, Some, None}
use Rattle.servers.specs.declared.ServerNo.{ServerNo}
use Rattle.servers.specs.Servers.{weight_at}
use Rattle.servers.specs.declared.Server.{Server}
use Rattle.scheduler.specs.Ring.{ring_of}
use Rattle.scheduler.specs.Scheduler.{Scheduler}
use Rattle.scheduler.specs.declared.walk.Walk.{Walk}

-- "place i starts at −1, level cw at 0" (SCOPE 10.5)
abbrev pub start_walk : Walk
start_walk = record { place = None; level = 0 }

-- "i −1..n−1, .. cw 0 only with i = −1" (SCOPE 10.6)
abbrev pub level_place : ℕ → ℕ → Option ServerNo → Bool
level_place n cw None = true
level_place n cw (Some i) = not (eqb cw 0) && ltb i.0 n

-- the range, with the largest weight m: "cw 0 to the largest weight" (SCOPE 10.6)
abbrev pub in_levels : ℕ → ℕ → Walk → Bool
in_levels n m w = leb w.level m && level_place n w.level w.place

-- the level at the number i: "if i is 0, cw drops by the greatest common divisor of all weights" (SCOPE 10.5), g, "and if not above 0
-- becomes the largest weight" (SCOPE 10.5), m
abbrev pub level_at : (g m i cw : ℕ) → ℕ
level_at g m i cw = cond (eqb i 0) (cond (ltb 0 (cw - g)) (cw - g) m) cw

-- a server "with weight at least cw" (SCOPE 10.5) is taken
abbrev pub reaches : List Server → ℕ → ℕ → Bool
reaches s i cw = leb cw (weight_at s i)

abbrev pub weighted_round_robin : Scheduler
weighted_round_robin = record {
  start = λ n. start_walk;
  in_range = λ top n w. in_levels n top w;
  -- "a weight set to a different number restarts this walk; an equal one changes nothing" (SCOPE 10.7)
  after_weight = λ w old new. cond (eqb old new) w start_walk;
  -- "the first server with weight at least cw is picked" (SCOPE 10.5)
  pick = λ s n held w. ring_of (level_at held.divisor held.largest) (reaches s) n w;
}
