-- A current state: sound, and no connection is idle at its clock. A packet at that clock finds nothing to judge and nothing to remove. Assumes
-- nothing: these are definitions.
use Rattle.std.specs.Prelude.{ℕ, true, List, ◌≡◌}
use Rattle.table.specs.Slots.{slots}
use Rattle.table.specs.Expire.{NoneIdle}
use Rattle.director.specs.declared.state.Director.{Director}
use Rattle.director.specs.Judge.{sound_of}

pub record Current (d : Director) (row : List ℕ) : Type 0 where
  pub sound : sound_of d row ≡ true
  pub none_idle : NoneIdle d.service.protocol d.clock (slots row)
