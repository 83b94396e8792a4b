-- What a packet sent through an instance gives back. Assumes nothing: this is a definition.
use Rattle.std.specs.Prelude.{◌≡◌, List, ℕ}
use Rattle.director.specs.declared.state.Answer.{Answer}
use Rattle.director.specs.declared.state.Director.{Director}
use Rattle.director.specs.declared.state.Way.{Way}
use Rattle.director.specs.State.{left_with}
use Rattle.director.specs.Packets.{packet_of}

-- one packet call was made, of some packet: its answer, the state and the row before it, and those after it
abbrev pub Sent : Way → ℕ → Answer → (before : Director) → (row_before : List ℕ) → (after : Director) → (row_after : List ℕ) → Type 0
Sent way now answer before row_before after row_after =
    (packet : List ℕ) × ((left : List ℕ) × (left_with answer after row_after left ≡ packet_of way before row_before packet now))
