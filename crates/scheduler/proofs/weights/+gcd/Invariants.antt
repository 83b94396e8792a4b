-- The remainder, which is the second number of the next call, falls.
use Rattle.scheduler.proofs.weights.+gcd.Given as goal

abbrev pub decreases-gcd : goal.decreases-gcd
decreases-gcd l = l.b
