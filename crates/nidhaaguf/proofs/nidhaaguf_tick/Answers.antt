-- `nidhaaguf_tick` meets its contract: the director's call does, of the decoded state, and the reply is of its outcome.
use Rattle.director.proofs.Keeping.{tick-leaves}
use Rattle.nidhaaguf.specs.State.{decoded}
use Rattle.nidhaaguf.proofs.Handed.{as_exported}
use Rattle.nidhaaguf.proofs.nidhaaguf_tick.Goals as goal

pub returns : goal.returns
returns c =
    let met = rw c.from.ensures at c.tick.ensures in
    as_exported c.args.state _ _ _ _ _ met (tick-leaves (decoded c.args.state) c.args.row.now c.args.clock) _ c.reply_of.ensures
