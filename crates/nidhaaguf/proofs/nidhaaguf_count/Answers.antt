-- `nidhaaguf_count` meets its contract: the director's call does, of the decoded state, and the reply is of its outcome.
use Rattle.director.proofs.Keeping.{count-leaves}
use Rattle.nidhaaguf.specs.State.{decoded}
use Rattle.nidhaaguf.proofs.Handed.{as_exported}
use Rattle.nidhaaguf.proofs.nidhaaguf_count.Goals as goal

pub returns : goal.returns
returns c =
    let met = rw c.from.ensures at c.count.ensures in
    as_exported c.args.state _ _ _ _ _ met (count-leaves (decoded c.args.state) c.args.row.now c.args.number) _ c.reply_of.ensures
