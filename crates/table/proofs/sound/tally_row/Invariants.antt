-- `sound::tally_row` meets its contract. The invariant: the slots before this one are sound, and counted (`Tallying`).
use Rattle.table.specs.Sound.{slot_sound}
use Rattle.table.proofs.Tallies.{Tallying}
use Rattle.table.proofs.sound.tally_row.Given as goal

abbrev pub invariant-loop-words : goal.invariant-loop-words
invariant-loop-words l = Tallying (slot_sound l.protocol l.n l.clock) l.row l.counts l.words-index
