-- `sound::tally_row` meets its contract. The invariant: the slots before this one are sound, and counted (`Tallying`).
use Prim.Native.Nat.{◌/◌, ◌<◌}
use mathlib.Core.Path.{◌≡◌, refl, sym, ◌∙◌}
use native.Mathlib.Omega.{arith}
use lib.ListN.{length}
use Rattle.table.specs.Slots.{words_per_slot, slot_at}
use Rattle.table.specs.Sound.{slot_sound}
use mathlib.Core.Bool.{true}
use Rattle.table.proofs.Rows.{chunk_slot, length-chunks}
use Rattle.table.proofs.Connections.{server_place}
use Rattle.table.proofs.Tallies.{start, refused, pass, count, done}
use Rattle.table.proofs.sound.tally_row.Goals as goal
use Rattle.table.proofs.sound.tally_row.Goals.{then-not-is_unused, else-not-is_unused}

pub loop-words-init : goal.loop-words-init
loop-words-init c = start

pub returns-then-not-is_sound_slot : goal.returns-then-not-is_sound_slot
returns-then-not-is_sound_slot c =
    let (within, same) = chunk_slot c.args.row.now _ c.loop-words.words-index c.slots_of-words-items.ensures (omega arith) in
    refused c.loop-words.invariant (within, same) (sym c.is_sound_slot.ensures ∙ c.if-not-is_sound_slot.true)

pub count_one-requires : goal.count_one-requires
count_one-requires c =
    let a = c.args in
    let used = sym c.is_unused.ensures ∙ c.if-not-is_unused.true in
    let sound : slot_sound a.protocol a.n a.clock c.from-slot.result ≡ true
    = rw c.from-slot.ensures (sym c.is_sound_slot.ensures ∙ c.if-not-is_sound_slot.false) in
    let below = server_place a.protocol a.n a.clock c.from-slot.result used c.from-slot.result.server refl (omega arith) sound in
    (below, omega (arith, length-chunks a.row.now _ c.slots_of-words-items.ensures, c.loop-words.invariant.most _ below))

pub loop-words-preserved : goal.loop-words-preserved
loop-words-preserved c =
    let a = c.args in
    let (within, same) = chunk_slot a.row.now _ c.loop-words.words-index c.slots_of-words-items.ensures (omega arith) in
    let here : (c.loop-words.words-index < length a.row.now / words_per_slot) × (c.from-slot.result ≡ slot_at a.row.now c.loop-words.words-index)
    = (within, c.from-slot.ensures ∙ same) in
    let sound : slot_sound a.protocol a.n a.clock c.from-slot.result ≡ true
    = rw c.from-slot.ensures (sym c.is_sound_slot.ensures ∙ c.if-not-is_sound_slot.false) in
    let judged = sym c.is_unused.ensures in
    elim c.if-not-is_unused.branch [
      | then-not-is_unused w ↦
          let used = judged ∙ w.if-not-is_unused.true in
          let place = server_place a.protocol a.n a.clock c.from-slot.result used c.from-slot.result.server refl (omega arith) sound in
          rw (w.counts-is ∙ w.count_one.ensures) (count c.loop-words.invariant here sound used place)
      | else-not-is_unused w ↦ rw w.counts-is (pass c.loop-words.invariant here sound (judged ∙ w.if-not-is_unused.false))
    ]

pub returns : goal.returns
returns c = done c.loop-words.invariant (omega (arith, length-chunks c.args.row.now _ c.slots_of-words-items.ensures))
