-- `slot::slot_at` meets its contract: the k-th array of words is slot k (`chunk_slot`).
use mathlib.Core.Path.{◌∙◌}
use native.Mathlib.Omega.{arith}
use Rattle.table.proofs.Rows.{chunk_slot, length-chunks}
use Rattle.table.proofs.slot.slot_at.Goals as goal

pub bounds-slots_of-k : goal.bounds-slots_of-k
bounds-slots_of-k c = omega (arith, length-chunks c.args.row.now _ c.slots_of.ensures)

pub returns : goal.returns
returns c =
    let same = c.slots_of.ensures in
    let row = c.args.row.now in
    c.from.ensures ∙ (chunk_slot row _ c.args.k.0 same (omega (arith, length-chunks row _ same))).1
