-- `burst::burst_one` meets its contract.
use Rattle.serving.proofs.Bursts.{burst-step}
use Rattle.serving.proofs.burst.burst_one.Goals as goal

pub returns-clause-taken : goal.returns-clause-taken
returns-clause-taken c = burst-step _ _ _ _ _ _ _ _ _ _ _ _ c.length_of.ensures c.take_one-answer.ensures.taken c.from.ensures c.write_told.ensures
