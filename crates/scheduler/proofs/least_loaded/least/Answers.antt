-- `least_loaded::least` meets its contract: it begins with server 1, and the best of one is server 0.
use mathlib.Core.Path.{sym, ◌∙◌}
use native.Mathlib.Omega.{arith}
use Rattle.lists.proofs.Folds.{fold_next}
use Rattle.scheduler.proofs.LeastLoaded.{least_one, least-done}
use Rattle.scheduler.proofs.least_loaded.least.Goals as goal

pub loop-i-init : goal.loop-i-init
loop-i-init c = (omega arith, sym (least_one c.args.by c.args.servers.now))

pub loop-i-preserved : goal.loop-i-preserved
loop-i-preserved c = (omega (arith, c.loop-i.invariant), simp (c.better-best.ensures, c.loop-i.invariant.1, fold_next))

pub returns : goal.returns
returns c =
    let l = c.loop-i in
    l.invariant.1 ∙ least-done c.args.by c.args.servers.now c.args.n l.i (omega arith) l.invariant.0 (omega arith)
