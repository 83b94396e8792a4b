-- `nidhaaguf_serve` meets its contract: serving does, of the decoded state, and the reply is of what it came to.
use Rattle.nidhaaguf_serve.proofs.Replies.{served_from}
use Rattle.nidhaaguf_serve.proofs.nidhaaguf_serve.Goals as goal

pub returns : goal.returns
returns c =
    let met = rw c.from.ensures at c.serve.ensures in
    served_from c.args.state c.args.row.now c.args.buffer.now c.args.records.now c.args.counters.now c.args.clock c.args.most _ _ _ _ c.serve.result.progress.end _ _ _ _ met.answer met.unread met.few met.served _ c.reply_of-reply.ensures
