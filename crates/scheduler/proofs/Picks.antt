-- Each scheduler answers an existing server whose weight is above 0, whom the published one picks, and leaves the walk in its range, where some
-- weight is above 0 and the walk was in range. Assumes nothing.
use mathlib.Core.Bool.{true}
use mathlib.Core.List.{List}
use mathlib.Core.Path.{◌≡◌, subst}
use Prim.Native.Nat.{ℕ, ◌<◌}
use native.Mathlib.Omega.{arith}
use Rattle.std.specs.Prelude.{Some}
use Rattle.servers.specs.declared.Server.{Server}
use Rattle.servers.specs.declared.ServerNo.{ServerNo}
use Rattle.scheduler.specs.Weights.{weights_gcd, largest_of, weights_of}
use Rattle.scheduler.specs.Ring.{next_of}
use Rattle.scheduler.specs.WeightedRoundRobin.{level_at, reaches}
use Rattle.scheduler.specs.ByNumber.{scheduler_of, in_range, pick_of}
use Rattle.scheduler.specs.Laws.{SomeWeight, IsFirst, IsNext, Within, Picking, Published, PickLaw}
use Rattle.scheduler.specs.declared.least_loaded.Load.{Load}
use Rattle.scheduler.specs.declared.walk.Walk.{Walk}
use Rattle.scheduler.specs.declared.walk.Pick.{Pick}
use Rattle.scheduler.proofs.Numbers.{by_number}
use Rattle.scheduler.proofs.Ranges.{place_in_range}
use Rattle.scheduler.proofs.LeastLoaded.{least_found, least-picking}
use Rattle.scheduler.proofs.RoundRobin.{round_robin_next, round_robin_picking}
use Rattle.scheduler.proofs.WeightedRoundRobin.{weighted_first, weighted_picking}

picking : (k : ℕ) → Picking (scheduler_of k)
picking k = by_number Picking k round_robin_picking weighted_picking (least-picking Load.Count) (least-picking Load.PerWeight)

module _ (k : ℕ) (s : List Server) (n : ℕ) (w : Walk) (some : SomeWeight s n) (range : in_range k s n w ≡ true) where
  abbrev p : Pick
  p = pick_of k s n (weights_of s n) w

  next_picked : k ≡ 1 → (last : ServerNo) → w.place ≡ Some last → IsNext s n last.0 p.server.0
  next_picked e last at =
      let here : last.0 < n = subst (Within n) at (place_in_range k s n w (omega (arith, some.1)) range) in
      rw (e, at) (round_robin_next s n (weights_of s n) last w.level here some)

  first_picked : k ≡ 2 → IsFirst (level_at (weights_gcd s n) (largest_of s n)) (reaches s) n n (next_of n w.place) w.level p.server p.walk
  first_picked e = rw e (weighted_first s n w some (rw e at range))

  published : Published k s n w p.server p.walk
  published = record {
    scheduler1 = next_picked;
    scheduler2 = first_picked;
    scheduler3 = λ e. rw e (least_found Load.Count s n some);
    scheduler4 = λ e. rw e (least_found Load.PerWeight s n some);
  }

pub pick_found : PickLaw
pick_found k s n w some range = record { serves = picking k s n w some range; published = published k s n w some range }
