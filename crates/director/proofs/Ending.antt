-- A connection of a sound state: its server exists and counts it, and the state that its ending leaves is sound. Assumes nothing.
use Prim.Native.Nat.{ℕ, ◌<◌, ◌≤◌}
use mathlib.Core.Bool.{true, false}
use mathlib.Core.List.{List}
use mathlib.Core.Path.{◌≡◌}
use lib.ListN.{length}
use Rattle.servers.specs.Servers.{count_at, lowered}
use Rattle.servers.proofs.Endpoints.{places}
use Rattle.table.specs.Slots.{slots, words, slot_at, is_unused}
use Rattle.table.specs.Changes.{freed}
use Rattle.table.proofs.Soundness.{used_server}
use Rattle.table.proofs.Tables.{sound_table, freed-table}
use Rattle.director.specs.declared.state.Director.{Director}
use Rattle.director.specs.State.{with_one_less}
use Rattle.director.specs.Judge.{sound_of}
use Rattle.director.proofs.Sound.{Sound, sound_parts}
use Rattle.director.proofs.Changes.{recounted, recounted_sound}

module _ (d : Director) (row : List ℕ) (sound : Sound d row) (k : ℕ) (within : k < length (slots row)) (used : is_unused (slot_at row k) ≡ false) where
  abbrev n : ℕ
  n = d.service.servers

  -- the connection's server
  abbrev i : ℕ
  i = (slot_at row k).server.0

  pub counted : (i < n) × (1 ≤ count_at d.servers i)
  counted =
      used_server d.service.protocol n d.clock (slots row) d.servers
      (sound_table d.service.protocol n d.clock row d.servers sound.table).1 k within used
      (places d.servers n sound.settings.set)

  pub ended_sound : sound_of (with_one_less d i) (words (freed (slots row) k)) ≡ true
  ended_sound =
      recounted_sound d row sound (lowered d.servers i) d.walk d.clock _ (recounted n d.servers i _ counted.0) sound.range
      (freed-table d.service.protocol n d.clock row d.servers sound.table k within used)

  pub ended_parts : Sound (with_one_less d i) (words (freed (slots row) k))
  ended_parts = sound_parts (with_one_less d i) (words (freed (slots row) k)) ended_sound
