-- `nidhaaguf_set_weight` meets its contract: the director's call does, of the decoded state, and the reply is of its outcome.
use Rattle.director.proofs.Keeping.{weight_leaves}
use Rattle.nidhaaguf.specs.State.{decoded}
use Rattle.nidhaaguf.proofs.Handed.{as_exported}
use Rattle.nidhaaguf.proofs.nidhaaguf_set_weight.Goals as goal

pub returns : goal.returns
returns c =
    let met = rw c.from.ensures at c.set_weight.ensures in
    as_exported c.args.state _ _ _ _ _ met (weight_leaves (decoded c.args.state) c.args.row.now c.args.number c.args.weight) _ c.reply_of.ensures
