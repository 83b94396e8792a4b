-- `slot::put_slot` meets its contract: five words stored are one slot stored (`store_words`), in a row of whole slots (`exactly`).
use Prim.Native.Nat.{ℕ, ◌+◌, ◌-◌, ◌*◌, ◌%◌}
use mathlib.Core.Path.{◌≡◌}
use native.Mathlib.Omega.{arith}
use lib.ListN.{length, length-append, length-take, length-drop}
use borrow.Rule.Slice.PartMut.{put_mid}
use Rattle.table.specs.Slots.{words_per_slot, words_of}
use Rattle.table.proofs.Rows.{exactly, store_words}
use Rattle.table.proofs.slot.put_slot.Goals as goal

pub returns : goal.returns
returns c =
    let at : ℕ = words_per_slot * c.args.k.0 in
    let five : at + words_per_slot - at ≡ words_per_slot = omega arith in
    let copied : c.copy_from_slice.new.self ≡ words_of c.args.s = cc in
    let whole : length (put_mid at words_per_slot c.args.row.now (words_of c.args.s)) % words_per_slot ≡ 0
    = simp (length-append, length-take, length-drop) (omega arith) in
    rw (five, copied) (exactly _ _ whole (store_words c.args.row.now c.args.k.0 c.args.s (omega arith)))
