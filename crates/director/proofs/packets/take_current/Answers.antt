-- `packets::take_current` meets its contract: at the clock of a current state nothing is judged and nothing removed (`taken_now`).
use Rattle.std.proofs.Common.{sym, ◌∙◌}
use Rattle.director.proofs.Sound.{sound_parts, sound_words}
use Rattle.director.proofs.Segments.{segment_redirectable}
use Rattle.director.proofs.Staying.{taken_now}
use Rattle.director.proofs.packets.take_current.Goals as goal

pub read_segment-requires : goal.read_segment-requires
read_segment-requires c = (sound_parts c.args.director.now c.args.row.now c.requires.sound).settings.most

pub route-requires : goal.route-requires
route-requires c =
    let segment = sym c.read_segment.ensures ∙ c.in-Ok.is in
    (c.requires.sound, segment_redirectable c.args.director.now c.args.packet.now _ c.args.way segment)

pub returns-in-Err : goal.returns-in-Err
returns-in-Err c =
    rw (taken_now c.args.director.now c.args.row.now c.requires c.args.way c.args.packet.now)
    (simp (← c.read_segment.ensures, c.in-Err.is, sound_words c.args.director.now c.args.row.now c.requires.sound))

pub returns-in-Ok : goal.returns-in-Ok
returns-in-Ok c =
    rw (taken_now c.args.director.now c.args.row.now c.requires c.args.way c.args.packet.now)
    (rw (← c.read_segment.ensures, c.in-Ok.is) c.route.ensures)
