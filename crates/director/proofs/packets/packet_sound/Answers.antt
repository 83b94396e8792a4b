-- `packets::packet_sound` meets its contract: the clock stored leaves the state sound (`settled_sound`), and a segment is of a packet that can be
-- redirected (`segment_redirectable`).
use Rattle.std.proofs.Common.{sym, ◌∙◌}
use borrow.Author.Tests.{lt-ltb, le-ltb}
use Rattle.table.proofs.Rows.{slots-words}
use Rattle.director.specs.Packets.{packet_held}
use Rattle.director.proofs.Sound.{sound_parts, sound_words}
use Rattle.director.proofs.Settled.{settled_sound}
use Rattle.director.proofs.Segments.{segment_redirectable}
use Rattle.director.proofs.packets.packet_sound.Goals as goal

pub read_segment-requires : goal.read_segment-requires
read_segment-requires c = (sound_parts c.args.director.now c.args.row.now c.requires).settings.most

pub returns-in-Ok : goal.returns-in-Ok
unfolding packet_held
returns-in-Ok c =
    simp (
      ← c.read_segment.ensures,
      c.in-Ok.is,
      lt-ltb _ _ c.if-clock-director.true,
      sound_words c.args.director.now c.args.row.now c.requires,
    )

pub route-requires : goal.route-requires
route-requires c =
    let segment = sym c.read_segment.ensures ∙ c.in-Ok.is in (
      rw (c.settle.ensures.row, c.settle.ensures.director) (settled_sound c.args.director.now c.args.row.now c.args.clock c.requires c.if-clock-director.false),
      rw c.settle.ensures.director (segment_redirectable c.args.director.now c.args.packet.now _ c.args.way segment),
    )

pub returns-in-Err : goal.returns-in-Err
unfolding packet_held
returns-in-Err c = simp (← c.read_segment.ensures, c.in-Err.is, sound_words c.args.director.now c.args.row.now c.requires)

pub returns-in-Ok-2 : goal.returns-in-Ok-2
unfolding packet_held
returns-in-Ok-2 c =
    rw (← c.read_segment.ensures, c.in-Ok.is, le-ltb _ _ c.if-clock-director.false)
    (rw (c.settle.ensures.row, c.settle.ensures.director, slots-words) at c.route.ensures)
