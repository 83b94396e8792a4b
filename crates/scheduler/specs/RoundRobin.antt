-- Scheduler 1, round-robin. Assumes nothing: these are definitions.
use Rattle.std.specs.Prelude.{Bool, List, ℕ, ◌-◌, ltb, Some}
use Rattle.servers.specs.Servers.{weight_at}
use Rattle.servers.specs.declared.Server.{Server}
use Rattle.scheduler.specs.Walk.{rests_at}
use Rattle.scheduler.specs.Ring.{ring_of}
use Rattle.scheduler.specs.Scheduler.{Scheduler}

-- the level stays as it is
abbrev pub keeps_level : ℕ → ℕ → ℕ
keeps_level i cw = cw

-- a server with weight above 0 is taken, whatever the level
abbrev pub weighs : List Server → ℕ → ℕ → Bool
weighs s i cw = ltb 0 (weight_at s i)

abbrev pub round_robin : Scheduler
round_robin = record {
  -- "last pick starts at n−1" (SCOPE 10.3)
  start = λ n. record { place = Some (record { 0 = n - 1 }); level = 0 };
  -- "Range 0..n−1" (SCOPE 10.4), "1 holds cw at 0" (SCOPE 10.11)
  in_range = λ top n w. rests_at n w;
  -- "Schedulers 1, 3 and 4 keep their walk on a weight change" (SCOPE 10.10)
  after_weight = λ w old new. w;
  -- "the next number in the ring with weight above 0" (SCOPE 10.3)
  pick = λ s n held w. ring_of keeps_level (weighs s) n w;
}
