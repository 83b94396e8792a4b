-- `slot::slots_of` meets its contract: the row's arrays of words are its slots (`slots_chunks`).
use mathlib.Core.Path.{ap, ◌∙◌}
use Rattle.std.proofs.Common.{map}
use Rattle.table.specs.Slots.{slot_of_words}
use Rattle.table.proofs.Rows.{slots_chunks}
use Rattle.table.proofs.slot.slots_of.Goals as goal

pub returns : goal.returns
returns c = ap (map slot_of_words) c.as_chunks.ensures.front ∙ slots_chunks c.args.row.now
