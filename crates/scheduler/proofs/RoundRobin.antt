-- Round-robin picks the next number in the ring with weight above 0, and keeps the walk in its range. Assumes nothing.
use mathlib.Core.Bool.{true}
use mathlib.Core.List.{List}
use mathlib.Core.Path.{◌≡◌, ◌∙◌, refl, ap}
use Prim.Native.Nat.{ℕ, zero, suc, ◌+◌, ◌-◌, ◌%◌, ◌<◌}
use native.Mathlib.Nat.{mod-lt}
use native.Mathlib.Omega.{arith}
use lib.Dec.{eqb}
use borrow.Author.Tests.{lt-ltb, ltb-true, ltb-false}
use Rattle.std.specs.Prelude.{Some}
use Rattle.lists.proofs.Cases.{both}
use Rattle.servers.specs.Servers.{weight_at}
use Rattle.servers.specs.declared.Server.{Server}
use Rattle.scheduler.specs.Weights.{weights_of}
use Rattle.scheduler.specs.Walk.{at_server}
use Rattle.scheduler.specs.Ring.{after_in, next_of}
use Rattle.scheduler.specs.RoundRobin.{keeps_level, weighs, round_robin}
use Rattle.scheduler.specs.Laws.{SomeWeight, level_after, IsFirst, SomeTaken, IsNext, NextLaw, Ranged, Serves, Picking}
use Rattle.scheduler.specs.declared.walk.Walk.{Walk}
use Rattle.scheduler.specs.declared.walk.Pick.{Pick}
use Rattle.scheduler.proofs.Walks.{at_some, rests_within}
use Rattle.scheduler.proofs.Rings.{after_below, next_below, step_more, distance, ring_first}

-- the level stays as it was
level_same : (n e i cw : ℕ) → level_after keeps_level n e i cw ≡ cw
unfolding level_after
level_same n zero i cw = refl
level_same n (suc e) i cw = level_same n e (after_in n i) cw

module _ (s : List Server) (n : ℕ) (some : SomeWeight s n) where
  -- a server that weighs is among the n numbers from i on
  weighs_taken : (i cw : ℕ) → i < n → SomeTaken keeps_level (weighs s) n n i cw
  weighs_taken i cw h =
      let d = distance n i some.0 h some.1 in
      (d.0, d.1, rw d.2 (lt-ltb 0 (weight_at s some.0) some.2))

  -- from the number after i on: e + 1 steps from i are e from there
  next-after : (i cw : ℕ) (p : Pick) → i < n → IsFirst keeps_level (weighs s) n n (after_in n i) cw p.server p.walk → IsNext s n i p.server.0
  next-after i cw p h f =
      record {
        steps = suc f.steps;
        above = omega arith;
        within = omega (arith, f.within);
        number = f.number ∙ step_more n i f.steps h;
        weighs = ltb-true 0 (weight_at s p.server.0) f.taken;
        passed = passed_by;
      }
    where
      passed_by : (e : ℕ) → 0 < e → e < suc f.steps → weight_at s ((i + e) % n) ≡ 0
      passed_by zero p l = absurd (omega arith)
      passed_by (suc e) p l =
          omega (
            arith,
            ltb-false 0 (weight_at s ((after_in n i + e) % n)) (f.passed e (omega arith)),
            ap (weight_at s) (step_more n i e h),
          )

  moved_serves : (i cw : ℕ) (p : Pick) → i < n → eqb cw 0 ≡ true → IsFirst keeps_level (weighs s) n n i cw p.server p.walk → Serves round_robin s n p
  moved_serves i cw p h z f =
      let below : p.server.0 < n = rw f.number (mod-lt _ (omega arith)) in
      record {
        server = below;
        weighs = ltb-true 0 (weight_at s p.server.0) f.taken;
        range = simp (f.moved, level_same n f.steps i cw, z, lt-ltb p.server.0 n below);
      }

pub round_robin_next : NextLaw
round_robin_next s n held i cw h some =
    let w : Walk = record { place = Some i; level = cw } in
    next-after s n some i.0 cw (round_robin.pick s n held w) h
    (ring_first keeps_level (weighs s) n w (omega arith) (weighs_taken s n some (after_in n i.0) cw (after_below n i.0 (omega arith))))

pub round_robin_picking : Picking round_robin
round_robin_picking s n w some r =
    let (z, at) = both (eqb w.level 0) (at_server n w.place) r in
    let h = next_below n w.place (at_some n w.place at) in
    moved_serves s n some (next_of n w.place) w.level (round_robin.pick s n (weights_of s n) w) h z
    (ring_first keeps_level (weighs s) n w (omega arith) (weighs_taken s n some (next_of n w.place) w.level h))

pub round_robin_ranged : Ranged round_robin
round_robin_ranged = record {
  started = λ top n h. lt-ltb (n - 1) n (omega arith);
  weighed = λ s n i x w h. h;
  placed = λ top n w h. rests_within n w;
}
