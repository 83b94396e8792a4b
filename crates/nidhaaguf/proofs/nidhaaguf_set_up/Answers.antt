-- `nidhaaguf_set_up` meets its contract: the director's call does, of the decoded state, and the reply is of its outcome.
use Rattle.director.proofs.Keeping.{setup_leaves}
use Rattle.nidhaaguf.specs.State.{decoded}
use Rattle.nidhaaguf.proofs.Handed.{as_exported}
use Rattle.nidhaaguf.proofs.nidhaaguf_set_up.Goals as goal

pub returns : goal.returns
returns c =
    let met = rw c.from.ensures at c.set_up.ensures in
    as_exported c.args.state _ _ _ _ _ met (setup_leaves (decoded c.args.state) c.args.service c.args.servers.server c.args.row.now) _ c.reply_of.ensures
