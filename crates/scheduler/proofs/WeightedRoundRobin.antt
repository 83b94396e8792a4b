-- Weighted round-robin picks a server whose weight is above 0, and keeps the walk in its range. Assumes nothing.
use mathlib.Core.Bool.{true, not}
use mathlib.Core.List.{List}
use mathlib.Core.Path.{◌≡◌}
use Prim.Native.Nat.{ℕ, zero, suc, ◌-◌, ◌≤◌, ◌<◌}
use native.Mathlib.Nat.{le_refl, mod-lt}
use native.Mathlib.Omega.{arith}
use lib.Dec.{ltb, leb, eqb, leb-zero}
use lib.Seq.{set-get_or}
use borrow.Author.Tests.{lt-ltb, ltb-true, le-leb, leb-true, ne_eqb, eqb-true, eqb-false, not-true}
use Rattle.std.specs.Prelude.{Option, Some, None}
use Rattle.lists.proofs.Cases.{by_test, both}
use Rattle.servers.specs.declared.ServerNo.{ServerNo}
use Rattle.servers.specs.Servers.{unused, weight_at, with_weight}
use Rattle.servers.specs.declared.Server.{Server}
use Rattle.scheduler.specs.Weights.{weights_gcd, largest_of, weights_of}
use Rattle.scheduler.specs.Ring.{after_in, next_of}
use Rattle.scheduler.specs.WeightedRoundRobin.{level_place, level_at, reaches, weighted_round_robin}
use Rattle.scheduler.specs.Laws.{SomeWeight, level_after, IsFirst, SomeTaken, Within, Ranged, Serves, Picking}
use Rattle.scheduler.specs.declared.walk.Walk.{Walk}
use Rattle.scheduler.specs.declared.walk.Pick.{Pick}
use Rattle.scheduler.proofs.Largest.{largest_met, some_largest}
use Rattle.scheduler.proofs.Rings.{next_below, distance, ring_first}

-- the level of scheduler 2, with the divisor g and the largest weight m
module _ (g m : ℕ) (pm : 0 < m) where
  -- at 0 it is above 0 after the drop, whatever it was
  level_first : (cw : ℕ) → 0 < level_at g m 0 cw
  level_first cw = by_test (λ l. 0 < l) (ltb 0 (cw - g)) _ _ (ltb-true 0 (cw - g)) (λ f. pm)

  level_above : (i cw : ℕ) → 0 < cw → 0 < level_at g m i cw
  level_above i cw p = by_test (λ l. 0 < l) (eqb i 0) _ _ (λ e. level_first cw) (λ e. p)

  level_most : (i cw : ℕ) → cw ≤ m → level_at g m i cw ≤ m
  level_most i cw p =
      by_test (λ l. l ≤ m) (eqb i 0) _ _
      (λ e. by_test (λ l. l ≤ m) (ltb 0 (cw - g)) _ _ (λ f. omega arith) (λ f. le_refl m)) (λ e. p)

  -- above 0 and at most m at the number i, it is so at every number after it
  level_kept : (n e i cw : ℕ) → 0 < level_at g m i cw → level_at g m i cw ≤ m
      → (0 < level_after (level_at g m) n e i cw) × (level_after (level_at g m) n e i cw ≤ m)
  unfolding level_after
  level_kept n zero i cw p q = (p, q)
  level_kept n (suc e) i cw p q =
      level_kept n e (after_in n i) (level_at g m i cw) (level_above (after_in n i) (level_at g m i cw) p) (level_most (after_in n i) (level_at g m i cw) q)

  -- at the first number that the walk comes to
  level_start : (n cw : ℕ) (p : Option ServerNo) → level_place n cw p ≡ true → 0 < level_at g m (next_of n p) cw
  level_start n cw None h = level_first cw
  level_start n cw (Some i) h =
      level_above (next_of n (Some i)) cw (omega (arith, eqb-false cw 0 (not-true (eqb cw 0) (both (not (eqb cw 0)) (ltb i.0 n) h).0)))

module _ (s : List Server) (n : ℕ) (w : Walk) (some : SomeWeight s n) (range : weighted_round_robin.in_range (largest_of s n) n w ≡ true) where
  abbrev first : ℕ
  first = next_of n w.place

  abbrev g : ℕ
  g = weights_gcd s n

  abbrev m : ℕ
  m = largest_of s n

  level_found : (e : ℕ) → (0 < level_after (level_at g m) n e first w.level) × (level_after (level_at g m) n e first w.level ≤ m)
  level_found e =
      let pm = some_largest s n some in
      let r = both (leb w.level m) (level_place n w.level w.place) range in
      level_kept g m pm n e first w.level
      (level_start g m pm n w.level w.place r.1) (level_most g m pm first w.level (leb-true w.level m r.0))

  -- a server of the largest weight is at or above every level that the walk comes to
  reaches_taken : SomeTaken (level_at g m) (reaches s) n n first w.level
  reaches_taken =
      let top = largest_met s n (some_largest s n some) in
      let d = distance n first top.0 (next_below n w.place (omega (arith, some.1))) top.1 in
      let l = level_after (level_at g m) n d.0 first w.level in
      (d.0, d.1, rw d.2 (le-leb l (weight_at s top.0) (omega (arith, (level_found d.0).1, top.2))))

  pub weighted_first : let p = weighted_round_robin.pick s n (weights_of s n) w in IsFirst (level_at g m) (reaches s) n n first w.level p.server p.walk
  weighted_first = ring_first (level_at g m) (reaches s) n w (omega (arith, some.1)) reaches_taken

  moved_serves : (p : Pick) → IsFirst (level_at g m) (reaches s) n n first w.level p.server p.walk → Serves weighted_round_robin s n p
  moved_serves p f =
      let k = level_found f.steps in
      let below : p.server.0 < n = rw f.number (mod-lt _ (omega (arith, some.1))) in
      let l = level_after (level_at g m) n f.steps first w.level in
      record {
        server = below;
        weighs = omega (arith, k.0, leb-true l (weight_at s p.server.0) f.taken);
        range = simp (f.moved, le-leb l m k.1, ne_eqb l 0 (omega (arith, k.0)), lt-ltb p.server.0 n below);
      }

pub weighted_picking : Picking weighted_round_robin
weighted_picking s n w some range = moved_serves s n w some range (weighted_round_robin.pick s n (weights_of s n) w) (weighted_first s n w some range)

-- an equal weight changes nothing
same_weight : (s : List Server) (i x : ℕ) → weight_at s i ≡ x → with_weight s i x ≡ s
same_weight s i x e = rw (← e) (set-get_or s i unused)

level_within : (n cw : ℕ) (p : Option ServerNo) → level_place n cw p ≡ true → Within n p
level_within n cw None h = tt
level_within n cw (Some i) h = ltb-true i.0 n (both (not (eqb cw 0)) (ltb i.0 n) h).1

pub weighted_ranged : Ranged weighted_round_robin
weighted_ranged = record {
  started = λ top n h. simp leb-zero;
  weighed = λ s n i x w h.
      by_test (λ v. weighted_round_robin.in_range (largest_of (with_weight s i x) n) n v ≡ true) (eqb (weight_at s i) x) _ _
      (λ e. rw (same_weight s i x (eqb-true (weight_at s i) x e)) h)
      (λ e. simp leb-zero);
  placed = λ top n w h r. level_within n w.level w.place (both (leb w.level top) (level_place n w.level w.place) r).1;
}
