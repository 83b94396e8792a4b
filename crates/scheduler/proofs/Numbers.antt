-- What holds of every scheduler holds of the scheduler of a number. Assumes nothing.
use Prim.Native.Nat.{ℕ}
use lib.Dec.{eqb}
use Rattle.lists.proofs.Cases.{by_test}
use Rattle.scheduler.specs.Scheduler.{Scheduler}
use Rattle.scheduler.specs.RoundRobin.{round_robin}
use Rattle.scheduler.specs.WeightedRoundRobin.{weighted_round_robin}
use Rattle.scheduler.specs.LeastConnection.{least_connection}
use Rattle.scheduler.specs.WeightedLeastConnection.{weighted_least_connection}
use Rattle.scheduler.specs.ByNumber.{scheduler_of}

pub by_number : (P : Scheduler → Type 0) (k : ℕ)
    → P round_robin → P weighted_round_robin → P least_connection → P weighted_least_connection → P (scheduler_of k)
by_number P k p₁ p₂ p₃ p₄ =
    by_test P (eqb k 1) _ _ (λ e. p₁) (λ n₁. by_test P (eqb k 2) _ _ (λ e. p₂) (λ n₂. by_test P (eqb k 3) _ _ (λ e. p₃) (λ n₃. p₄)))
