-- `carry::keep` meets its contract: the row is the words of the slots with the connection's phase and clock written, and the packet is sent on.
use Rattle.std.proofs.Common.{◌≡◌}
use Rattle.table.specs.Slots.{slots, words}
use Rattle.table.specs.Changes.{touched}
use Rattle.director.proofs.carry.keep.Goals as goal

pub returns : goal.returns
returns c =
    let row : c.touch_slot.new.row ≡ words (touched (slots c.args.row.now) c.args.k.0 c.phase_after-phase.result c.args.director.now.clock)
    = c.touch_slot.ensures in
    simp (c.pass.ensures.packet, c.pass.ensures.answer, row, c.phase_after-phase.ensures, c.slot_at-slot.ensures)
