-- `burst::take_one` meets its contract: one packet leaves a current state (`taken_current`).
use Rattle.std.proofs.Common.{ℕ, arith}
use Rattle.checksum.specs.Ones.{Bytes}
use Rattle.serving.proofs.Standings.{taken_current}
use Rattle.serving.proofs.burst.take_one.Goals as goal

pub returns-clause-current : goal.returns-clause-current
returns-clause-current c =
    let bytes : Bytes c.args.packet.now = record { at = λ (i : ℕ). grind arith } in
    let e = rw c.way_of-way.ensures at c.take_current.ensures in
    taken_current c.args.director.now c.args.row.now c.args.packet.now _ _ _ _ bytes c.requires e
