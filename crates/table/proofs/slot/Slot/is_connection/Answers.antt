-- `Slot::is_connection` meets its contract. Where last-seen alone is left to test, the slot names an existing server.
use Rattle.std.proofs.Common.{◌<◌, arith, rules}
use Rattle.table.proofs.slot.Slot.is_connection.Goals as goal

pub returns-then-self-n : goal.returns-then-self-n
returns-then-self-n c =
    let existing : c.args.self.server.0 < c.args.n = omega arith in
    search rules
