-- `carry::carry_out` meets its contract: a refusal leaves the row, which is the words of its slots, and an opening is carried out by `open`.
use Rattle.table.proofs.Rows.{words-slots}
use Rattle.table.specs.Slots.{IsRow}
use Rattle.director.proofs.carry.carry_out.Goals as goal

pub returns-in-Refuse : goal.returns-in-Refuse
returns-in-Refuse c =
    let kind = c.in-Refuse.is in
    let row : IsRow c.args.row.now = rw kind at c.requires in
    simp (kind, words-slots c.args.row.now row.whole)

pub returns-in-Open : goal.returns-in-Open
returns-in-Open c = rw c.in-Open.is c.open.ensures
