-- A walk is in its range at its start, and after a weight is set; and where a walk in its range can be. Assumes nothing.
use Prim.Native.Nat.{ℕ}
use Rattle.scheduler.specs.Weights.{largest_of}
use Rattle.scheduler.specs.ByNumber.{scheduler_of}
use Rattle.scheduler.specs.Laws.{Ranged, StartLaw, WeightLaw, PlaceLaw}
use Rattle.scheduler.proofs.Numbers.{by_number}
use Rattle.scheduler.proofs.Walks.{holding_ranged}
use Rattle.scheduler.proofs.RoundRobin.{round_robin_ranged}
use Rattle.scheduler.proofs.WeightedRoundRobin.{weighted_ranged}

ranged : (k : ℕ) → Ranged (scheduler_of k)
ranged k = by_number Ranged k round_robin_ranged weighted_ranged (holding_ranged _) (holding_ranged _)

pub start_in_range : StartLaw
start_in_range k s n = (ranged k).started (largest_of s n) n

pub weight_in_range : WeightLaw
weight_in_range k = (ranged k).weighed

pub place_in_range : PlaceLaw
place_in_range k s n = (ranged k).placed (largest_of s n) n
