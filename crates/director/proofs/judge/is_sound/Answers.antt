-- `judge::is_sound` meets its contract: accepted, there are at most 64 servers.
use Rattle.std.proofs.Common.{sym, ap, ◌∙◌}
use Rattle.std.specs.Result.{is_ok}
use Rattle.director.proofs.Sound.{accepted, ok_accepted}
use Rattle.director.proofs.judge.is_sound.Goals as goal

pub are_parts_sound-requires : goal.are_parts_sound-requires
are_parts_sound-requires c = (accepted _ _ _ (ok_accepted _ (ap is_ok (sym c.judge_settings.ensures) ∙ sym c.if-is_ok.ensures.value))).most
