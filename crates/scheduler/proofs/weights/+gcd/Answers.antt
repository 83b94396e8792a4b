-- `weights::gcd` meets its contract: both cases are those of Euclid's recursion.
use mathlib.Core.Path.{◌∙◌, sym}
use Rattle.scheduler.proofs.Gcd.{gcd-zero, gcd-step}
use Rattle.scheduler.proofs.weights.+gcd.Goals as goal

pub returns-then-b-eq0 : goal.returns-then-b-eq0
returns-then-b-eq0 t c = simp (c.if-b-eq0.true, gcd-zero)

pub returns-else-b-eq0 : goal.returns-else-b-eq0
returns-else-b-eq0 t c = c.gcd.ensures ∙ sym (gcd-step _ _ c.if-b-eq0.false)
