-- `nidhaaguf_burst` meets its contract: the burst does, of the decoded state, and the reply is of its outcome.
use Rattle.serving.proofs.Bursts.{burst_back}
use Rattle.nidhaaguf.specs.State.{decoded}
use Rattle.nidhaaguf.proofs.Bursts.{burst-exported}
use Rattle.nidhaaguf.proofs.nidhaaguf_burst.Goals as goal

pub returns : goal.returns
returns c =
    let met = rw c.from.ensures at c.burst.ensures in
    burst-exported c.args.state _ _ _ _ _ _ _ _ met (burst_back (decoded c.args.state) c.args.row.now c.args.packets.now c.args.records.now c.args.clock) _ c.reply_of.ensures
