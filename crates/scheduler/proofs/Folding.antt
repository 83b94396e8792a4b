-- The chain over the weights comes to the two folds of specs/. Assumes nothing.
use Prim.Native.Nat.{ℕ, zero, suc, max}
use mathlib.Core.List.{List}
use mathlib.Core.Path.{◌≡◌, refl, ◌∙◌}
use native.Mathlib.Nat.{max-zero}
use lib.ListN.{take}
use Rattle.std.specs.List.{fold}
use Rattle.lists.specs.Fold.{fold_below}
use Rattle.lists.proofs.Chains.{fold_up_to}
use Rattle.servers.specs.declared.Server.{Server}
use Rattle.servers.specs.Servers.{unused, server_at}
use Rattle.scheduler.specs.declared.weights.Weights.{Weights}
use Rattle.scheduler.specs.Weights.{gcd_of, weights_of}
use Rattle.scheduler.proofs.Gcd.{gcd_past}

-- both numbers with one server more
abbrev pub with_server : Weights → Server → Weights
with_server held v = record { largest = max held.largest v.weight; divisor = gcd_of v.weight held.divisor }

abbrev pub no_weights : Weights
no_weights = record { largest = 0; divisor = 0 }

-- a weight of 0 changes neither
unweighed : (held : Weights) → with_server held unused ≡ held
unweighed held = rw (max-zero, gcd_past held.divisor) refl

both_folds : (s : List Server) (n : ℕ) → fold_below (λ held k. with_server held (server_at s k)) no_weights n ≡ weights_of s n
unfolding fold_below
both_folds s zero = refl
both_folds s (suc n) = rw (both_folds s n) refl

pub weights_chained : (s : List Server) (n : ℕ) → fold with_server no_weights (take n s) ≡ weights_of s n
weights_chained s n = fold_up_to with_server no_weights s unused unweighed n ∙ both_folds s n
