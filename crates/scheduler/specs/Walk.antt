-- The scheduler's walk at a server, and the walk that is held at one place. Assumes nothing: these are definitions.
use Rattle.std.specs.Prelude.{Bool, false, ◌&&◌, ℕ, ltb, eqb, Option, Some, None}
use Rattle.servers.specs.declared.ServerNo.{ServerNo}
use Rattle.scheduler.specs.declared.walk.Walk.{Walk}

-- the place is at one of the first n servers: "0..n−1" (SCOPE 10.4)
abbrev pub at_server : ℕ → Option ServerNo → Bool
at_server n None = false
at_server n (Some i) = ltb i.0 n

-- cw is held at 0, and the place is at one of the first n servers
abbrev pub rests_at : ℕ → Walk → Bool
rests_at n w = eqb w.level 0 && at_server n w.place

-- "hold both place and cw at 0 always" (SCOPE 10.11): the one walk for which `rests_at 1` holds
abbrev pub held_walk : Walk
held_walk = record { place = Some (record { 0 = 0 }); level = 0 }
