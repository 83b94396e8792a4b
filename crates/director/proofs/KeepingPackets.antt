-- What a packet call leaves, of any state. Assumes nothing.
use Rattle.std.specs.Prelude.{Ok, Err}
use Prim.Native.Nat.{ℕ}
use mathlib.Core.Bool.{Bool, true, false}
use mathlib.Core.List.{List}
use mathlib.Core.Path.{◌≡◌, refl}
use native.Mathlib.Omega.{arith}
use borrow.Author.Tests.{ltb-false}
use lib.Dec.{ltb}
use Rattle.checksum.specs.Ones.{Bytes}
use Rattle.table.specs.declared.slot.Slot.{Slot}
use Rattle.table.specs.Slots.{slots, words}
use Rattle.table.proofs.Rows.{slots-words}
use Rattle.director.specs.declared.state.Director.{Director}
use Rattle.director.specs.declared.state.Refusal.{Refusal}
use Rattle.director.specs.declared.state.Way.{Way}
use Rattle.director.specs.declared.decide.Decision.{Decision}
use Rattle.director.specs.declared.segment.Segment.{Segment}
use Rattle.director.specs.Segment.{Read, segment_read}
use Rattle.director.specs.State.{keeps_clock, changes_nothing, Lent, lent, Held, in_slots, in_words, refusal}
use Rattle.director.specs.Judge.{sound_of}
use Rattle.director.specs.Tick.{settled, settled_slots}
use Rattle.director.specs.Decide.{decided}
use Rattle.director.specs.Carry.{carried_out}
use Rattle.director.specs.Packets.{routed, on_clock, on_seen, packet_held, packet_of}
use Rattle.director.specs.Laws.{UnreadFirst}
use Rattle.director.proofs.Sound.{sound_parts, sound_words}
use Rattle.director.proofs.Settled.{settled_sound}
use Rattle.director.proofs.Leaving.{LeavesSound, Leaves, leaves_all, leaves_changed, leaves_judged}
use Rattle.director.proofs.Refusals.{EarlySeen, read_early}
use Rattle.director.proofs.Segments.{ReadFrom, read_from, port_below, udp_unfinished}
use Rattle.director.proofs.Decisions.{Grounded, decided_grounded}
use Rattle.director.proofs.Carried.{carried_sound}

pub unread_first : UnreadFirst
unfolding packet_held
unread_first way d x now why unread = rw unread refl

-- past 11 the clock is kept
pub clock_kept : (d : Director) (x : Lent (List Slot)) (m : Segment) (a : Decision) → Grounded d x.table m a
    → changes_nothing (carried_out d x m a).answer ≡ false
clock_kept d x m (Decision.Refuse why) grounds = rw grounds.keeps
clock_kept d x m (Decision.Keep k) grounds = refl
clock_kept d x m (Decision.End k) grounds = refl
clock_kept d x m (Decision.Open k i walk) grounds = refl
clock_kept d x m (Decision.Renew old k i walk) grounds = refl

-- a packet that got past 11
module _ (d : Director) (row p : List ℕ) (m : Segment) (bytes : Bytes p) (from : ReadFrom d.service.protocol p m) (sound : sound_of d row ≡ true) where
  abbrev protocol : ℕ
  protocol = d.service.protocol

  routed-leaves : let r = in_words (routed d (lent (slots row) p) m) in (changes_nothing r.answer ≡ false) × LeavesSound r
  unfolding routed
  routed-leaves =
      let s = sound_parts d row sound in
      let port = port_below protocol p m from bytes in
      let grounds = decided_grounded d row s m in (
        clock_kept d (lent (slots row) p) m (decided d (slots row) m) grounds,
        carried_sound d row p m s (omega arith) (udp_unfinished protocol p m from) (decided d (slots row) m) grounds,
      )

module _ (d : Director) (row p : List ℕ) (now : ℕ) (bytes : Bytes p) where
  abbrev x : Lent (List ℕ)
  x = lent row p

  abbrev Goal : Held → Type 0
  Goal h = Leaves d x (in_words h)

  module _ (sound : sound_of d row ≡ true) where
    unchanged : (why : Refusal) → keeps_clock why ≡ false → Goal (refusal why d (in_slots x))
    unchanged why early = rw (sound_words d row sound) (leaves_all d x why early)

    by_clock : (m : Segment) → ReadFrom d.service.protocol p m → (early : Bool) → ltb now d.clock ≡ early → Goal (on_clock d (in_slots x) m now early)
    by_clock m from true e = unchanged Refusal.EarlierClock refl
    by_clock m from false e =
        let d' = settled d (slots row) now in
        let l = settled_slots d (slots row) now in
        let (late, after) = rw (slots-words l) at (routed-leaves d' (words l) p m bytes from (settled_sound d row now sound (ltb-false now d.clock e))) in
        leaves_changed d x (in_words (routed d' (lent l p) m)) late after

    by_seen : (way : Way) (s : Read) → segment_read way d.service d.servers p ≡ s → EarlySeen s → Goal (on_seen d (in_slots x) now s)
    by_seen way (Err why) e early = unchanged why early.back
    by_seen way (Ok m) e early = by_clock m (read_from d p m way e) (ltb now d.clock) refl

  pub packet_leaves : (way : Way) → Leaves d (lent row p) (packet_of way d row p now)
  unfolding packet_of packet_held
  packet_leaves way =
      leaves_judged d x (packet_of way d row p now)
      (λ e. rw e (by_seen e way (segment_read way d.service d.servers p) refl (read_early way d.service d.servers p)))
      (λ e. rw e)
