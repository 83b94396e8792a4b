-- `decide::decide_present` meets its contract: a finished connection is used, so its server counts it (`counted`), and an
-- RST ends one that is not renewed.
use Rattle.std.proofs.Common.{◌≡◌, true, false, sym, ap, ◌∙◌, arith}
use lib.Dec.{eqb}
use Rattle.table.specs.Slots.{slot_at, is_unused}
use Rattle.table.proofs.Rows.{length-slots}
use Rattle.director.specs.Decide.{renews}
use Rattle.director.proofs.Sound.{sound_parts}
use Rattle.director.proofs.Ending.{counted}
use Rattle.director.proofs.Decisions.{renewing}
use Rattle.director.proofs.decide.decide_present.Goals as goal

pub decide_renewal-requires-clause-counted : goal.decide_renewal-requires-clause-counted
decide_renewal-requires-clause-counted c =
    let row = c.args.row.now in
    let k = c.args.k.0 in
    let new : renews c.args.segment (slot_at row k).phase ≡ true
    = rw (← c.slot_at-slot.ensures) (sym c.renews_connection.ensures ∙ c.if-renews_connection.true) in
    let phase = (renewing 6 c.args.segment (slot_at row k).phase new).0 in
    let used : is_unused (slot_at row k) ≡ false = ap (λ p. eqb p 0) phase in
    (counted c.args.director.now row (sound_parts c.args.director.now row c.requires.sound) k (omega (arith, length-slots row)) used).1

pub returns-in-true : goal.returns-in-true
returns-in-true c =
    let reset : c.args.segment.flags.rst ≡ true = c.in-true.is in
    simp (
      ← c.slot_at-slot.ensures,
      sym c.belongs_to.ensures ∙ c.if-not-belongs_to.false,
      sym c.renews_connection.ensures ∙ c.if-renews_connection.false,
      reset,
    )
