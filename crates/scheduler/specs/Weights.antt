-- The largest weight, and the greatest common divisor of all weights. Assumes nothing: these are definitions.
use Rattle.std.specs.Prelude.{Bool, ◌&&◌, List, ℕ, zero, suc, ◌%◌, max, eqb}
use Rattle.lists.specs.Fold.{fold_below}
use Rattle.servers.specs.Servers.{weight_at}
use Rattle.servers.specs.declared.Server.{Server}
use Rattle.scheduler.specs.declared.weights.Weights.{Weights}

-- Euclid's algorithm in at most k steps: b, then the remainder of a by b
unfoldable pub euclid : (k a b : ℕ) → ℕ
euclid zero a b = a
euclid (suc k) a zero = a
euclid (suc k) a (suc b) = euclid k (suc b) (a % suc b)

-- the greatest common divisor of two numbers: the remainder falls, so b steps are enough
unfoldable pub gcd_of : ℕ → ℕ → ℕ
unfolding euclid
gcd_of a b = euclid b a b

-- "the greatest common divisor of all weights (zeros don't affect it)" (SCOPE 10.5), of the first n servers
abbrev pub weights_gcd : List Server → ℕ → ℕ
weights_gcd s n = fold_below (λ g k. gcd_of (weight_at s k) g) 0 n

-- "the largest weight" (SCOPE 10.5) of the first n servers
abbrev pub largest_of : List Server → ℕ → ℕ
largest_of s n = fold_below (λ m k. max m (weight_at s k)) 0 n

-- "the largest weight and the greatest common divisor of the weights of the servers in use" (SCOPE 2.12), which are the first n
abbrev pub weights_of : List Server → ℕ → Weights
weights_of s n = record { largest = largest_of s n; divisor = weights_gcd s n }

-- the numbers held "agree with the weights" (SCOPE 6.9)
abbrev pub weights_agree : Weights → List Server → ℕ → Bool
weights_agree held s n = eqb held.largest (largest_of s n) && eqb held.divisor (weights_gcd s n)

-- "every weight is 0" (SCOPE 4.14), by the numbers held (refusal 14)
abbrev pub none_weighs : Weights → Bool
none_weighs held = eqb held.largest 0

-- the same of the first n servers
abbrev pub no_weight : List Server → ℕ → Bool
no_weight s n = none_weighs (weights_of s n)
