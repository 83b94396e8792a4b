-- Each packet of a burst is met as it was handed in, and the burst is the single calls one after another. Assumes nothing.
use Rattle.std.proofs.Common.{◌≡◌, ℕ, zero, suc, ◌+◌, ◌-◌, ◌*◌, ◌≤◌, min, List, [], ◌∷◌, length, take, drop, sym, refl, ap, ◌∙◌, subst, arith, length-drop, length-take-le, drop-drop}
use Rattle.lists.specs.Fold.{fold_below}
use Rattle.lists.proofs.Below.{below_take, below_drop}
use Rattle.checksum.specs.Ones.{Bytes}
use Rattle.packet.proofs.Parts.{on_part-length, on_part-after}
use Rattle.serving.specs.declared.told.Told.{Told}
use Rattle.serving.specs.Way.{way_of, taken_of}
use Rattle.serving.specs.Serve.{Standing, standing, once_served, served_by, AllBytes}
use Rattle.serving.specs.Burst.{Burst, packets_in, length_of, packet_at, packets_below, recorded, burst_step, burst_of}
use Rattle.serving.proofs.Tells.{elsewhere}
use Rattle.serving.proofs.Lengths.{packet_length}
use Rattle.serving.proofs.Standings.{none_served, served_append, append-bytes}

-- 1. What is still to come is as it was handed in

pub record Ahead (b c : Burst) (k : ℕ) : Type 0 where
  pub long : length c.packets ≡ length b.packets
  pub bytes : (j : ℕ) → k ≤ j → drop (2048 * j) c.packets ≡ drop (2048 * j) b.packets
  pub lengths : (j : ℕ) → length_of c.records j ≡ length_of b.records j

recorded_lengths : (records : List ℕ) (k : ℕ) (t : Told) (j : ℕ) → length_of (recorded records k t) j ≡ length_of records j
recorded_lengths records k t j = ap (λ n. min n 2048) (elsewhere records (4 * k) t (4 * j) (λ q. omega arith) (λ q. omega arith) (λ q. omega arith))

length-least : (records : List ℕ) (k : ℕ) → length_of records k ≤ 2048
length-least records k = omega arith

module _ (c : Burst) (k : ℕ) (room : 2048 * k + 2048 ≤ length c.packets) where
  abbrev n : ℕ
  n = length_of c.records k

  abbrev left : List ℕ
  left = (taken_of c.director c.row (packet_at c.packets c.records k)).lent.packet

  fits : 2048 * k + n ≤ length c.packets
  fits = omega (arith, room, length-least c.records k)

  -- a packet call keeps the packet's length
  same : length left ≡ n
  same =
      packet_length c.director c.row (packet_at c.packets c.records k) c.director.clock (way_of c.director.service.address (packet_at c.packets c.records k))
      ∙ length-take-le n (drop (2048 * k) c.packets) (simp length-drop (omega (arith, fits)))

  step_ahead : Ahead c (burst_step c k) (k + 1)
  unfolding burst_step
  step_ahead = record {
    long = on_part-length (2048 * k) n (λ _. left) c.packets fits same;
    bytes = λ j h.
        let far : 2048 * j ≡ (2048 * k + n) + (2048 * j - (2048 * k + n)) = omega (arith, h, length-least c.records k) in
        rw far
        (sym (drop-drop (2048 * j - (2048 * k + n)) (2048 * k + n) _)
        ∙ ap (drop (2048 * j - (2048 * k + n))) (on_part-after (2048 * k) n (λ _. left) c.packets fits same)
        ∙ drop-drop (2048 * j - (2048 * k + n)) (2048 * k + n) c.packets);
    lengths = recorded_lengths c.records k _;
  }

module _ (b : Burst) where
  -- after the first k packets
  ahead : (k : ℕ) → k ≤ packets_in b.packets b.records → Ahead b (burst_of b k) k
  unfolding fold_below
  ahead zero h = record { long = refl; bytes = λ j g. refl; lengths = λ j. refl }
  ahead (suc k) h =
      let so_far = ahead k (omega (arith, h)) in
      let next = step_ahead (burst_of b k) k (rw so_far.long (omega (arith, h))) in
      record {
        long = next.long ∙ so_far.long;
        bytes = λ j g. next.bytes j (omega (arith, g)) ∙ so_far.bytes j (omega (arith, g));
        lengths = λ j. next.lengths j ∙ so_far.lengths j;
      }

  -- packet k is met as it was handed in
  pub met : (k : ℕ) → k ≤ packets_in b.packets b.records → let c = burst_of b k in packet_at c.packets c.records k ≡ packet_at b.packets b.records k
  met k h =
      let so_far = ahead k h in
      ap (λ n. take n (drop (2048 * k) (burst_of b k).packets)) (so_far.lengths k) ∙ ap (take (length_of b.records k)) (so_far.bytes k (omega arith))

-- 2. The single calls

-- the same state and row
abbrev pub SameState : Burst → Standing → Type 0
SameState b t = (b.director ≡ t.director) × (b.row ≡ t.row)

-- one packet more
step_served : (b : Burst) (t : Standing) (k : ℕ) (p : List ℕ) → packet_at b.packets b.records k ≡ p → SameState b t → SameState (burst_step b k) (once_served t p)
unfolding burst_step
step_served b t k p e same = rw (e, same.0, same.1) (refl, refl)

one_served : (t : Standing) (p : List ℕ) → served_by t (p ∷ []) ≡ once_served t p
unfolding served_by
one_served t p = refl

-- a burst leaves the state and the row that its packets leave, served one after another
pub burst_served : (b : Burst) (counters records : List ℕ) (k : ℕ) → k ≤ packets_in b.packets b.records
    → SameState (burst_of b k) (served_by (standing b.director b.row counters records 0 []) (packets_below b.packets b.records k))
unfolding fold_below packets_below
burst_served b counters records zero h = rw (none_served (standing b.director b.row counters records 0 [])) (refl, refl)
burst_served b counters records (suc k) h =
    let s = standing b.director b.row counters records 0 [] in
    let ps = packets_below b.packets b.records k in
    let p = packet_at b.packets b.records k in
    subst (SameState (burst_step (burst_of b k) k)) (sym (served_append s ps (p ∷ []) ∙ one_served (served_by s ps) p))
    (step_served (burst_of b k) (served_by s ps) k p (met b k (omega (arith, h))) (burst_served b counters records k (omega (arith, h))))

pub burst-bytes : (packets records : List ℕ) → Bytes packets → (k : ℕ) → AllBytes (packets_below packets records k)
unfolding packets_below
burst-bytes packets records bytes zero = tt
burst-bytes packets records bytes (suc k) =
    append-bytes (packets_below packets records k) (packet_at packets records k ∷ []) (burst-bytes packets records bytes k)
    (below_take (length_of records k) (below_drop (2048 * k) bytes), tt)
