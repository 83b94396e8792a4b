-- `find::find_free` meets its contract: the first place whose words are a free slot is the lowest free slot (`first_position`).
use Rattle.std.proofs.lemmas.Grind.{common_steps}
use native.Mathlib.Omega.{arith}
use Rattle.table.specs.Slots.{slots, is_unused}
use Rattle.table.proofs.Finding.{first_position}
use Rattle.table.proofs.find.find_free.Goals as goal

pub returns : goal.returns
returns c =
    let same = first_position is_unused c.slots_of.result.now (slots c.args.row.now) c.slots_of.ensures in
    grind (arith, common_steps, same)
