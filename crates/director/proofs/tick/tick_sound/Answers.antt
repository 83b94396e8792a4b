-- `tick::tick_sound` meets its contract: an earlier clock leaves the row, which is the words of its slots.
use borrow.Author.Tests.{lt-ltb}
use Rattle.director.proofs.Sound.{sound_words}
use Rattle.director.proofs.tick.tick_sound.Goals as goal

pub returns-then-clock-director : goal.returns-then-clock-director
returns-then-clock-director c = simp (lt-ltb _ _ c.if-clock-director.true, sound_words _ _ c.requires)
