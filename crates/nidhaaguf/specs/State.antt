-- The director's state in plain numbers, as C holds it. Assumes nothing: these are definitions.
use Rattle.std.specs.Prelude.{ℕ, ◌+◌, ◌-◌, cond, eqb, leb, Some, None, Option}
use Rattle.servers.specs.declared.ServerNo.{ServerNo}
use Rattle.director.specs.declared.state.Director.{Director}
use Rattle.nidhaaguf.specs.declared.state.State.{State}

-- 0 is the walk's place -1, k + 1 is server number k. A number above 2^32, which no server number has, is as the last one:
-- no sound state's walk is there (proofs/States: place-beyond)
abbrev pub place_of : ℕ → Option ServerNo
place_of n = cond (eqb n 0) None (Some (record { 0 = cond (leb n 4294967296) (n - 1) 4294967295 }))

abbrev pub place_number : Option ServerNo → ℕ
place_number None = 0
place_number (Some i) = i.0 + 1

-- the director's state of plain numbers
abbrev pub decoded : State → Director
decoded s = record {
  service = s.service;
  servers = s.servers;
  weights = record { largest = s.largest_weight; divisor = s.weight_divisor };
  walk = record { place = place_of s.place; level = s.level };
  clock = s.clock;
}

-- and the other way
abbrev pub encoded : Director → State
encoded d = record {
  service = d.service;
  clock = d.clock;
  servers = d.servers;
  place = place_number d.walk.place;
  level = d.walk.level;
  largest_weight = d.weights.largest;
  weight_divisor = d.weights.divisor;
}
