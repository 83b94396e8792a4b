-- Demand 2 holds of every packet call. Assumes nothing.
use Rattle.std.specs.Prelude.{Ok, Err}
use Prim.Native.Nat.{ℕ, ◌<◌}
use mathlib.Core.Bool.{Bool, true, false, true≢false}
use mathlib.Core.List.{List}
use mathlib.Core.Path.{◌≡◌, refl, sym, ap, subst, ◌∙◌}
use native.Mathlib.Omega.{arith}
use borrow.Author.Tests.{ltb-false}
use lib.Dec.{ltb}
use lib.ListN.{take, drop}
use Rattle.checksum.specs.Ones.{Bytes}
use Rattle.packet.specs.declared.read.Packet.{Packet}
use Rattle.packet.specs.declared.redirect.Side.{Side}
use Rattle.packet.specs.Bytes.{total_length}
use Rattle.packet.specs.Reading.{read_packet}
use Rattle.packet.specs.Laws.{SameUpToTotal}
use Rattle.packet.proofs.Redirections.{laws}
use Rattle.servers.specs.declared.Server.{Server}
use Rattle.servers.specs.declared.ServerNo.{ServerNo}
use Rattle.servers.specs.Servers.{server_at, lowered}
use Rattle.servers.proofs.Ends.{SameEnds, ends_chain}
use Rattle.servers.proofs.Kept.{ends_set}
use Rattle.scheduler.specs.declared.walk.Walk.{Walk}
use Rattle.scheduler.specs.Laws.{Published}
use Rattle.table.specs.declared.slot.Slot.{Slot}
use Rattle.table.specs.declared.slot.SlotNo.{SlotNo}
use Rattle.table.specs.Slots.{slots, words, slot_at}
use Rattle.table.specs.Find.{of_client}
use Rattle.table.specs.Expire.{is_idle}
use Rattle.table.proofs.Rows.{slots-words}
use Rattle.table.proofs.Finding.{lowest_found}
use Rattle.director.specs.declared.state.Service.{Service}
use Rattle.director.specs.declared.state.Director.{Director}
use Rattle.director.specs.declared.state.Refusal.{Refusal}
use Rattle.director.specs.declared.state.Change.{Change}
use Rattle.director.specs.declared.state.Answer.{Answer}
use Rattle.director.specs.declared.state.Way.{Way}
use Rattle.director.specs.declared.segment.Sender.{Sender}
use Rattle.director.specs.declared.segment.Segment.{Segment}
use Rattle.director.specs.Segment.{Read, on_reading, segment_read}
use Rattle.director.specs.declared.decide.Decision.{Decision}
use Rattle.director.specs.State.{with_servers, lent, Result, in_words, refusal}
use Rattle.director.specs.Judge.{sound_of}
use Rattle.director.specs.Tick.{settled, settled_slots}
use Rattle.director.specs.Decide.{decided}
use Rattle.director.specs.Carry.{sent_on, passed, carried_out}
use Rattle.director.specs.Packets.{routed, on_clock, on_seen, packet_held, packet_on_sound, packet_of}
use Rattle.director.proofs.Sound.{Sound, sound_parts}
use Rattle.director.proofs.Settled.{settled_sound}
use Rattle.director.proofs.Segments.{read_from}
use Rattle.director.proofs.Decisions.{Its, Grounded, decided_grounded}
use Rattle.director.proofs.Carried.{its_slot}
use Rattle.audit.specs.Calls.{EndsFit}
use Rattle.audit.specs.Claim.{is_opened}
use Rattle.audit.specs.Demand2.{ResultClaim, Rewritten, Alike, seen_by_pick, Demand2}
use Rattle.audit.proofs.Agreement.{ends_lowered}
use Rattle.audit.proofs.Rewriting.{rewritten}

-- 1. Bytes past the total length

-- a packet that was taken, sent on: its bytes past the total length stay, and the others are what they are whatever stands there
module _ (g : Service) (v : Server) (p p' : List ℕ) (r : Packet) (taken : read_packet g.protocol p ≡ Ok r) (same : SameUpToTotal p p') where
  sent_past : (sender : Sender)
      → (drop (total_length p) (sent_on g v p sender) ≡ drop (total_length p) p)
      × (take (total_length p) (sent_on g v p' sender) ≡ take (total_length p) (sent_on g v p sender))
  sent_past Sender.Client =
      let past = laws.past_total g.protocol Side.Destination v.address v.port p p' r taken same in (past.unwritten, past.unread)
  sent_past (Sender.Server i) =
      let past = laws.past_total g.protocol Side.Source g.address g.port p p' r taken same in (past.unwritten, past.unread)

module _ (d : Director) (p p' : List ℕ) (same : SameUpToTotal p p') where
  segment_alike : (way : Way) → segment_read way d.service d.servers p' ≡ segment_read way d.service d.servers p
  unfolding segment_read
  segment_alike way = ap (on_reading way d.service d.servers) (laws.read_alike d.service.protocol p p' same)

  -- refused, with the packet as it came
  refused_alike : (why : Refusal) (d' : Director) (row : List ℕ) → Alike (total_length p) (refusal why d' (lent row p)) (refusal why d' (lent row p'))
  refused_alike why d' row = record { answer = refl; director = refl; row = refl; packet = same.bytes }

  -- past 11, in the settled state
  module _ (way : Way) (m : Segment) (seen : segment_read way d.service d.servers p ≡ Ok m) (present : Director)
      (service : present.service ≡ d.service) where
    passed_alike : (servers : List Server) (walk : Walk) (l : List Slot) (i : ServerNo) (change : Change)
        → let d' = with_servers present servers walk in
        Alike (total_length p) (in_words (passed d' (lent l p) m i change)) (in_words (passed d' (lent l p') m i change))
    passed_alike servers walk l i change =
        let from = read_from d p m way seen in
        let taken : read_packet present.service.protocol p ≡ Ok from.packet = rw service from.taken in
        record {
          answer = refl;
          director = refl;
          row = refl;
          packet = (sent_past present.service (server_at servers i.0) p p' from.packet taken same m.sender).1;
        }

    carried_alike : (l : List Slot) (a : Decision) → Alike (total_length p) (in_words (carried_out present (lent l p) m a)) (in_words (carried_out present (lent l p') m a))
    carried_alike l (Decision.Refuse why) = refused_alike why present (words l)
    carried_alike l (Decision.Keep k) = passed_alike present.servers present.walk _ _ Change.Kept
    carried_alike l (Decision.End k) = passed_alike _ present.walk _ _ Change.Ended
    carried_alike l (Decision.Open k i walk) = passed_alike _ walk _ i Change.Opened
    carried_alike l (Decision.Renew old k i walk) = passed_alike _ walk _ i Change.Opened

  module _ (row : List ℕ) (now : ℕ) where
    by_clock_alike : (way : Way) (m : Segment) → segment_read way d.service d.servers p ≡ Ok m → (e : Bool)
        → Alike (total_length p) (in_words (on_clock d (lent (slots row) p) m now e)) (in_words (on_clock d (lent (slots row) p') m now e))
    unfolding routed
    by_clock_alike way m seen true = refused_alike Refusal.EarlierClock d (words (slots row))
    by_clock_alike way m seen false =
        let present = settled d (slots row) now in
        let left = settled_slots d (slots row) now in
        carried_alike way m seen present refl left (decided present left m)

    by_seen_alike : (way : Way) (x : Read) → segment_read way d.service d.servers p ≡ x
        → Alike (total_length p) (in_words (on_seen d (lent (slots row) p) now x)) (in_words (on_seen d (lent (slots row) p') now x))
    by_seen_alike way (Err why) seen = refused_alike why d (words (slots row))
    by_seen_alike way (Ok m) seen = by_clock_alike way m seen (ltb now d.clock)

    unread : (way : Way) → Alike (total_length p) (packet_of way d row p now) (packet_of way d row p' now)
    unfolding packet_of packet_held
    unread way = by_sound (sound_of d row)
      where
        by_sound : (b : Bool) → Alike (total_length p) (packet_on_sound way d (lent row p) now b) (packet_on_sound way d (lent row p') now b)
        by_sound false = refused_alike Refusal.Unsound d row
        by_sound true = rw (segment_alike way) (by_seen_alike way (segment_read way d.service d.servers p) refl)

-- 2. What is accepted, picked and left

refused_other : (why : Refusal) (i : ServerNo) (change : Change) → Answer.Refused why ≡ Answer.Passed i change → ⊥
refused_other why i change e = let z : ◌≡◌ {A = ℕ} 0 1 = cc in omega arith

same_server : (i j : ServerNo) (x y : Change) → Answer.Passed i x ≡ Answer.Passed j y → i ≡ j
same_server i j x y e = cc

same_change : (i j : ServerNo) (x y : Change) → Answer.Passed i x ≡ Answer.Passed j y → x ≡ y
same_change i j x y e = cc

one_segment : (m m' : Segment) → ◌≡◌ {A = Read} (Ok m) (Ok m') → m ≡ m'
one_segment m m' e = cc

module _ (way : Way) (d : Director) (row p : List ℕ) (now : ℕ) (fits : EndsFit d.service d.servers) (bytes : Bytes p) where
  abbrev Goal : Result → Type 0
  Goal = ResultClaim way d row p now

  -- refused, with the walk and the packet as they came
  refused_right : (why : Refusal) (d' : Director) (row' : List ℕ) → d'.walk ≡ d.walk → Goal (refusal why d' (lent row' p))
  refused_right why d' row' walk = record {
    rewritten = λ i change e. absurd (refused_other why i change e);
    picked = λ i m e seen. absurd (refused_other why i Change.Opened e);
    unmoved = λ _. walk;
    unwritten = refl;
  }

  module _ (sound : sound_of d row ≡ true) (m : Segment) (seen : segment_read way d.service d.servers p ≡ Ok m) where
    abbrev n : ℕ
    n = d.service.servers

    abbrev present : Director
    present = settled d (slots row) now

    abbrev left : List Slot
    left = settled_slots d (slots row) now

    ends : SameEnds n present.servers d.servers
    ends = ends_lowered n (is_idle d.service.protocol now) (slots row) d.servers

    -- accepted: a packet of server i
    passed_right : (i : ServerNo) (change : Change) (servers : List Server) (walk : Walk) (l : List Slot) → i.0 < n → SameEnds n servers d.servers
        → (is_opened change ≡ false → walk ≡ d.walk)
        → (is_opened change ≡ true → Published d.service.scheduler (seen_by_pick present left m) n d.walk i walk)
        → Goal (in_words (passed (with_servers present servers walk) (lent l p) m i change))
    passed_right i change servers walk l exists same moved pick =
        let from = read_from d p m way seen in
        let within = (laws.redirectable d.service.protocol p from.packet from.taken).within in
        let alone : SameUpToTotal p p = record { total = refl; within = within; within' = within; bytes = refl } in
        record {
          rewritten = λ j x e.
              subst (λ (k : ServerNo). Rewritten way d k.0 p (sent_on d.service (server_at servers i.0) p m.sender)) (same_server i j change x e)
              (rewritten d row p (sound_parts d row sound).settings fits bytes i.0 exists servers same way m seen);
          picked = λ j m' e seen'.
              subst (λ (x : Segment). Published d.service.scheduler (seen_by_pick present left x) n d.walk j walk) (one_segment m m' (sym seen ∙ seen'))
              (subst (λ (k : ServerNo). Published d.service.scheduler (seen_by_pick present left m) n d.walk k walk) (same_server i j change Change.Opened e)
              (pick (ap is_opened (same_change i j change Change.Opened e))));
          unmoved = moved;
          unwritten = (sent_past d.service (server_at servers i.0) p p from.packet from.taken alone m.sender).0;
        }

    module _ (row' : List ℕ) (whole : Sound present row') (rest : slots row' ≡ left) where
      -- a packet of the connection in slot k
      its_right : (k : SlotNo) (rst : Bool) → Its (slots row') m k.0 rst → (change : Change) → is_opened change ≡ false → (servers : List Server) (l : List Slot)
          → SameEnds n servers present.servers → Goal (in_words (passed (with_servers present servers d.walk) (lent l p) m (slot_at row' k.0).server change))
      its_right k rst its change old servers l same =
          passed_right (slot_at row' k.0).server change servers d.walk l (its_slot present row' p m whole k.0 rst its).2
          (ends_chain n servers present.servers d.servers same ends) (λ _. refl) (λ e. absurd (true≢false (sym e ∙ old)))

      by_decision : (a : Decision) → Grounded present (slots row') m a → Goal (in_words (carried_out present (lent (slots row') p) m a))
      by_decision (Decision.Refuse why) grounds = refused_right why present (words (slots row')) refl
      by_decision (Decision.Keep k) its =
          its_right k false its Change.Kept refl present.servers _ (record { address = λ i h. refl; port = λ i h. refl })
      by_decision (Decision.End k) its =
          its_right k true its Change.Ended refl _ _ (ends_set present.servers (slot_at row' k.0).server.0 _ n refl refl)
      by_decision (Decision.Open k i walk) new =
          passed_right i Change.Opened _ walk _ new.opening.picked.serves.server
          (ends_chain n _ present.servers d.servers (ends_set present.servers i.0 _ n refl refl) ends)
          (λ e. absurd (true≢false e))
          (λ _. rw (← rest, new.absent) new.opening.picked.published)
      by_decision (Decision.Renew old k i walk) new =
          let s = slot_at row' old.0 in
          let found = lowest_found (of_client m.address m.port) (slots row') old.0 new.its.lowest in
          passed_right i Change.Opened _ walk _ new.opening.picked.serves.server
          (ends_chain n _ (lowered present.servers s.server.0) d.servers (ends_set (lowered present.servers s.server.0) i.0 _ n refl refl)
          (ends_chain n _ present.servers d.servers (ends_set present.servers s.server.0 _ n refl refl) ends))
          (λ e. absurd (true≢false e))
          (λ _. rw (← rest, found, new.renews) new.opening.picked.published)

    by_clock : (e : Bool) → ltb now d.clock ≡ e → Goal (in_words (on_clock d (lent (slots row) p) m now e))
    unfolding routed
    by_clock true e = refused_right Refusal.EarlierClock d (words (slots row)) refl
    by_clock false e =
        let whole = sound_parts present (words left) (settled_sound d row now sound (ltb-false now d.clock e)) in
        rw slots-words at (by_decision (words left) whole (slots-words left) (decided present (slots (words left)) m) (decided_grounded present (words left) whole m))

  by_seen : sound_of d row ≡ true → (x : Read) → segment_read way d.service d.servers p ≡ x → Goal (in_words (on_seen d (lent (slots row) p) now x))
  by_seen sound (Err why) seen = refused_right why d (words (slots row)) refl
  by_seen sound (Ok m) seen = by_clock sound m seen (ltb now d.clock) refl

  settles : Goal (packet_of way d row p now)
  unfolding packet_of packet_held
  settles = by_sound (sound_of d row) refl
    where
      by_sound : (b : Bool) → sound_of d row ≡ b → Goal (packet_on_sound way d (lent row p) now b)
      by_sound false e = refused_right Refusal.Unsound d row refl
      by_sound true e = by_seen e (segment_read way d.service d.servers p) refl

pub demand2 : Demand2
demand2 way d row p now fits bytes =
    record { result = settles way d row p now fits bytes; unread = λ p' _ same. unread d p p' same row now way }
