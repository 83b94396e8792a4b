-- A current state: an accepted tick leaves one, and every packet at its clock leaves one, accepted or refused. Assumes nothing.
use Rattle.std.specs.Prelude.{Ok, Err}
use Prim.Native.Nat.{ℕ}
use mathlib.Core.Bool.{Bool, true, false, false≢true}
use mathlib.Core.List.{List, []}
use mathlib.Core.Logic.{⊎_elim}
use mathlib.Core.Path.{◌≡◌, refl}
use native.Mathlib.Omega.{arith}
use borrow.Author.Tests.{le-ltb, ltb-false}
use lib.Dec.{ltb}
use Rattle.lists.proofs.Cases.{truth}
use Rattle.checksum.specs.Ones.{Bytes}
use Rattle.table.specs.declared.slot.Slot.{Slot}
use Rattle.table.specs.Slots.{slots}
use Rattle.table.specs.Expire.{NoneIdle}
use Rattle.table.proofs.Rows.{slots-words}
use Rattle.director.specs.declared.state.Director.{Director}
use Rattle.director.specs.declared.state.Way.{Way}
use Rattle.director.specs.declared.segment.Segment.{Segment}
use Rattle.director.specs.Segment.{Read, segment_read}
use Rattle.director.specs.declared.decide.Decision.{Decision}
use Rattle.director.specs.State.{is_accepted, Lent, lent, Held, in_words, refusal}
use Rattle.director.specs.Judge.{sound_of}
use Rattle.director.specs.Tick.{settled_slots, tick_on_clock, tick_of}
use Rattle.director.specs.Decide.{decided}
use Rattle.director.specs.Carry.{carried_out}
use Rattle.director.specs.Packets.{routed, on_seen, packet_held, packet_of}
use Rattle.director.specs.Current.{Current}
use Rattle.director.proofs.Sound.{sound_parts}
use Rattle.director.proofs.Settled.{settled_sound}
use Rattle.director.proofs.Leaving.{leaves_sound}
use Rattle.director.proofs.Decisions.{decided_grounded}
use Rattle.director.proofs.KeepingPackets.{packet_leaves}
use Rattle.director.proofs.Idle.{settled_same, settled_none_idle, carried_none_idle}

-- 1. A packet at the clock of a current state

-- 6 to 10 and 20 as the reading has them, then 12 to 14: the clock is the stored one, and nothing is removed
abbrev pub on_seen_now : Director → Lent (List Slot) → Read → Held
on_seen_now d x (Err why) = refusal why d x
on_seen_now d x (Ok m) = routed d x m

module _ (d : Director) (row : List ℕ) (c : Current d row) where
  by_seen : (p : List ℕ) (s : Read) → on_seen d (lent (slots row) p) d.clock s ≡ on_seen_now d (lent (slots row) p) s
  by_seen p (Err why) = refl
  by_seen p (Ok m) =
      let (same, table) = settled_same d (slots row) d.clock c.none_idle in
      rw (le-ltb d.clock d.clock (omega arith), same, table)

  pub taken_now : (way : Way) (p : List ℕ)
      → packet_of way d row p d.clock ≡ in_words (on_seen_now d (lent (slots row) p) (segment_read way d.service d.servers p))
  unfolding packet_of packet_held
  taken_now way p = rw (c.sound, by_seen p (segment_read way d.service d.servers p))

-- what a packet leaves: the same service and clock, and nothing idle at it
pub record Stays (d : Director) (h : Held) : Type 0 where
  pub service : h.director.service ≡ d.service
  pub clock : h.director.clock ≡ d.clock
  pub none_idle : NoneIdle d.service.protocol d.clock h.lent.table

carried_same : (d : Director) (x : Lent (List Slot)) (m : Segment) (a : Decision)
    → ((carried_out d x m a).director.service ≡ d.service) × ((carried_out d x m a).director.clock ≡ d.clock)
carried_same d x m (Decision.Refuse why) = (refl, refl)
carried_same d x m (Decision.Keep k) = (refl, refl)
carried_same d x m (Decision.End k) = (refl, refl)
carried_same d x m (Decision.Open k i walk) = (refl, refl)
carried_same d x m (Decision.Renew old k i walk) = (refl, refl)

module _ (d : Director) (row : List ℕ) (c : Current d row) where
  seen_stays : (p : List ℕ) (s : Read) → Stays d (on_seen_now d (lent (slots row) p) s)
  unfolding routed
  seen_stays p (Err why) = record { service = refl; clock = refl; none_idle = c.none_idle }
  seen_stays p (Ok m) =
      let x = lent (slots row) p in
      let a = decided d (slots row) m in
      let (service, clock) = carried_same d x m a in
      record {
        service = service;
        clock = clock;
        none_idle = carried_none_idle d x m c.none_idle a (decided_grounded d row (sound_parts d row c.sound) m);
      }

  -- a packet leaves a current state, of the same service and clock
  pub packet_stays : (way : Way) (p : List ℕ) → Bytes p
      → let r = packet_of way d row p d.clock in
      Current r.director r.lent.table × ((r.director.service ≡ d.service) × (r.director.clock ≡ d.clock))
  packet_stays way p bytes =
      let seen = segment_read way d.service d.servers p in
      let stays = seen_stays p seen in
      let sound = leaves_sound d (lent row p) (packet_of way d row p d.clock) (packet_leaves d row p d.clock bytes way) c.sound in
      let h = on_seen_now d (lent (slots row) p) seen in (
        record { sound = sound; none_idle = rw (taken_now d row c way p, slots-words h.lent.table, stays.service, stays.clock) stays.none_idle },
        rw (taken_now d row c way p) (stays.service, stays.clock),
      )

-- 2. The tick

-- an accepted tick leaves a current state, at its clock
pub ticked_current : (d : Director) (row : List ℕ) (now : ℕ) → let r = tick_of d row now in is_accepted r.answer ≡ true
    → Current r.director r.lent.table × (r.director.clock ≡ now)
unfolding tick_of
ticked_current d row now e =
    ⊎_elim
    (λ (s : sound_of d row ≡ true). rw s (by_clock s (ltb now d.clock) refl (rw s at e)))
    (λ (s : sound_of d row ≡ false). absurd (false≢true (rw s at e)))
    (truth (sound_of d row))
  where
    by_clock : sound_of d row ≡ true → (early : Bool) → ltb now d.clock ≡ early
        → let r = in_words (tick_on_clock d (lent (slots row) []) now early) in is_accepted r.answer ≡ true
        → Current r.director r.lent.table × (r.director.clock ≡ now)
    by_clock s true q e = absurd (false≢true e)
    by_clock s false q e = (
      record {
        sound = settled_sound d row now s (ltb-false now d.clock q);
        none_idle = rw (slots-words (settled_slots d (slots row) now)) (settled_none_idle d (slots row) now);
      },
      refl,
    )
