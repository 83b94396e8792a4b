-- The ring of n servers, and the walk round it. Assumes nothing: these are definitions.
use Rattle.std.specs.Prelude.{Bool, cond, ℕ, zero, suc, ◌+◌, ◌-◌, ltb, Option, Some, None}
use Rattle.servers.specs.declared.ServerNo.{ServerNo}
use Rattle.scheduler.specs.declared.walk.Walk.{Walk}
use Rattle.scheduler.specs.declared.walk.Pick.{Pick}

-- "(i+1) mod n" (SCOPE 10.5; proofs/Rings: after-mod)
abbrev pub after_in : ℕ → ℕ → ℕ
after_in n i = cond (ltb (i + 1) n) (i + 1) 0

-- how many of the n numbers a walk may pass: all but the last that it comes to
abbrev pub most_passed : ℕ → ℕ
most_passed n = n - 1

-- the number that a walk comes to next from its place: -1, which is None, is followed by 0
abbrev pub next_of : ℕ → Option ServerNo → ℕ
next_of n None = 0
next_of n (Some i) = after_in n i.0

-- server i is picked, and the walk is there, at the level cw
abbrev pub picked_at : ℕ → ℕ → Pick
picked_at i cw = record { server = record { 0 = i }; walk = record { place = Some (record { 0 = i }); level = cw } }

-- The walk round the ring of n servers, from the number i on, where k numbers may be passed. At a number the level becomes what
-- `level` says of the number and the level so far; the first number that `picks` takes at its level is picked, and where none may be
-- passed any more, the number that the walk has come to.
unfoldable pub ring_from : (ℕ → ℕ → ℕ) → (ℕ → ℕ → Bool) → (n k i cw : ℕ) → Pick
ring_from level picks n zero i cw = picked_at i (level i cw)
ring_from level picks n (suc k) i cw =
    let next = level i cw in
    cond (picks i next) (picked_at i next) (ring_from level picks n k (after_in n i) next)

-- from a walk on, once round
abbrev pub ring_of : (ℕ → ℕ → ℕ) → (ℕ → ℕ → Bool) → ℕ → Walk → Pick
ring_of level picks n w = ring_from level picks n (most_passed n) (next_of n w.place) w.level
