-- `burst::burst_current` meets its contract, by one packet more at each turn.
use Rattle.lists.proofs.Folds.{fold_none, fold_next}
use Rattle.serving.proofs.burst.burst_current.Goals as goal

pub loop-k-init : goal.loop-k-init
loop-k-init c = (c.requires, simp fold_none)

pub loop-k-preserved : goal.loop-k-preserved
loop-k-preserved c = let e = c.burst_one.ensures in (e.current, rw fold_next (rw (← c.loop-k.invariant.1) e.taken))
