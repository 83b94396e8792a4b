-- A packet that got past 11: whatever is decided of it, by the decision's reasons, the state and the book agree afterwards, and what the claim
-- says of it holds. Assumes nothing.
use Rattle.std.specs.Prelude.{Ok, Some, None, Option}
use Prim.Native.Nat.{ℕ, ◌<◌, ◌≤◌}
use mathlib.Core.Bool.{Bool, true, false, not, ◌&&◌, and-false, true≢false}
use mathlib.Core.List.{List, [], ◌∷◌}
use mathlib.Core.Logic.{⊎_elim}
use mathlib.Core.Path.{◌≡◌, refl, sym, ap, ◌∙◌}
use native.Mathlib.Omega.{arith}
use borrow.Author.Tests.{eqb-true, eq-eqb}
use lib.Dec.{eqb}
use lib.ListN.{length}
use Rattle.lists.specs.Tests.{bit, count_of, keep}
use Rattle.lists.proofs.Cases.{truth, both, by_test}
use Rattle.lists.proofs.Counting.{count_same}
use Rattle.lists.proofs.Selecting.{count_off, keep_off, keep_all, keep_one}
use Rattle.checksum.specs.Ones.{Bytes}
use Rattle.servers.specs.declared.Server.{Server}
use Rattle.servers.specs.declared.ServerNo.{ServerNo}
use Rattle.scheduler.specs.declared.walk.Walk.{Walk}
use Rattle.table.specs.declared.slot.Slot.{Slot}
use Rattle.table.specs.declared.slot.SlotNo.{SlotNo}
use Rattle.table.specs.Slots.{slots, slot_at}
use Rattle.table.specs.Find.{of_client as slot_of_client, first_from}
use Rattle.table.proofs.Finding.{found_lowest, nothing_passes}
use Rattle.director.specs.declared.state.Director.{Director}
use Rattle.director.specs.declared.state.Change.{Change}
use Rattle.director.specs.declared.state.Way.{Way}
use Rattle.director.specs.declared.segment.Segment.{Segment}
use Rattle.director.specs.declared.decide.Decision.{Decision}
use Rattle.director.specs.State.{with_servers, lent, Held}
use Rattle.director.specs.Judge.{sound_of}
use Rattle.director.specs.Segment.{segment_read}
use Rattle.director.specs.Decide.{opens, belongs, renews, decided}
use Rattle.director.specs.Carry.{passed, carried_out}
use Rattle.director.specs.Packets.{routed}
use Rattle.director.proofs.Sound.{sound_parts}
use Rattle.director.proofs.Segments.{read_from, no_flags_lem}
use Rattle.director.specs.Laws.{is_its}
use Rattle.director.proofs.Decisions.{has_its, Its, Grounded, opens_here, opens_no_rst, renewing, decided_grounded}
use Rattle.director.proofs.Carried.{its_slot}
use Rattle.audit.specs.Book.{Entry, Book, of_client, names, new_entry, is_renewed, clock_accepted, entered, note_answer}
use Rattle.audit.specs.Claim.{refused, is_opened, is_ended, mine, is_stray, Passed}
use Rattle.audit.proofs.Numbers.{numbers_agree, kept_other}
use Rattle.audit.proofs.Slots.{entry_of, holds, client_holds, client_parts, count_its}
use Rattle.audit.proofs.Passage.{read_same, goes}
use Rattle.audit.proofs.Agreement.{Matches, book_at, Agree, agreed, matches_opened, matches_kept, matches_ended, matches_renewed}

-- 1. Tests

-- a test's number is 0 where it fails
bit_none : (a : Bool) → eqb (bit a) 0 ≡ not a
bit_none true = refl
bit_none false = refl

-- what is not both a client's and unfinished is struck where it is the client's
finished : (client done : Bool) → (client && not done) ≡ false → not (client && done) ≡ not client
finished false done e = refl
finished true true e = refl
finished true false e = absurd (true≢false e)

-- 2. What is shown of a packet that got past 11; the idle entries of b are struck

pub record Routed (way : Way) (b : Book) (p : List ℕ) (m : Segment) (h : Held) : Type 0 where
  pub agree : Agree h.director h.lent.table (note_answer b m h.answer)
  pub accepted : clock_accepted h.answer ≡ true
  pub not15 : refused 15 h.answer ≡ false
  pub not11 : refused 11 h.answer ≡ false
  pub stray : refused 12 h.answer ≡ is_stray b m
  pub passed : Bytes p → Passed way b m p h.answer h.lent.packet

-- 3. A packet of the service, in a sound state that agrees with its book; its clock is stored and the idle connections are gone

module _ (d : Director) (row : List ℕ) (given : List Server) (es : List Entry) (sound : sound_of d row ≡ true) (t : Matches d (slots row) given es)
    (way : Way) (p : List ℕ) (m : Segment) (seen : segment_read way d.service given p ≡ Ok m) where
  abbrev l : List Slot
  l = slots row

  abbrev b : Book
  b = book_at d given es

  abbrev protocol : ℕ
  protocol = d.service.protocol

  -- accepted: it goes between its client and the server that the answer names
  passed_right : (i : ServerNo) (change : Change) (servers : List Server) (walk : Walk) (l' : List Slot) (es' : List Entry)
      → let d' = with_servers d servers walk in
      Matches d' l' given es' → entered b m i.0 change ≡ book_at d' given es'
      → is_stray b m ≡ false → i.0 < d.service.servers → belongs m.sender i ≡ true
      → is_ended change ≡ eqb protocol 6 && m.flags.rst
      → (is_opened change ≡ false → (e : Entry) × (keep (of_client m.address m.port) es ≡ e ∷ []) × (e.server ≡ i.0))
      → Routed way b p m (passed d' (lent l' p) m i change)
  passed_right i change servers walk l' es' matches book owned exists here ended found = record {
    agree = record { given = given; entries = es'; book = book; matches = matches };
    accepted = refl;
    not15 = refl;
    not11 = refl;
    stray = sym owned;
    passed = λ bytes. record {
      found = found;
      ended = ended;
      exists = exists;
      goes = goes (with_servers d servers walk) given d.clock es t.fits matches.ends p bytes i.0 exists way m seen here;
    };
  }

  -- RST is TCP's
  rst-tcp : (eqb protocol 6 && m.flags.rst) ≡ m.flags.rst
  rst-tcp =
      ⊎_elim
      (λ (e : eqb protocol 6 ≡ true). rw e)
      (λ (e : eqb protocol 6 ≡ false). rw (e, no_flags_lem protocol p m (read_from d p m way (read_same way d.service d.servers given p t.ends ∙ seen)) e))
      (truth (eqb protocol 6))

  -- The client has a connection, in slot k
  module _ (k : ℕ) (h : k < length l) (its : slot_of_client m.address m.port (slot_at row k) ≡ true) where
    abbrev s : Slot
    s = slot_at row k

    counted : (q : Entry → Bool) → ((e : Entry) → of_client m.address m.port e ≡ false → q e ≡ false) → count_of q es ≡ bit (q (entry_of s))
    counted = count_its m l t.unique k h its es t.same

    its_client : of_client m.address m.port (entry_of s) ≡ true
    its_client = (client_parts m.address m.port s its).0

    -- it is the packet's or no entry is
    mine_is : count_of (mine m) es ≡ bit (belongs m.sender s.server)
    mine_is = counted (mine m) (λ e n. rw n) ∙ rw its_client

    -- the client's entry
    its_entry : (e : Entry) × (keep (of_client m.address m.port) es ≡ e ∷ []) × (e.server ≡ s.server.0)
    its_entry =
        let client = of_client m.address m.port in
        let named = names s.server.0 in
        let (e, only, server) = keep_one client named es (counted client (λ x n. n) ∙ rw its_client)
        (counted (λ x. client x && named x) (λ x n. rw n) ∙ rw (its_client, eq-eqb s.server.0 s.server.0 refl)) in
        (e, only, eqb-true _ _ server)

    -- where both have finished, an opening strikes that entry and no other
    its_struck : renews m s.phase ≡ true → keep (λ e. not (is_renewed m e)) es ≡ keep (λ e. not (of_client m.address m.port e)) es
    its_struck new =
        let client = of_client m.address m.port in
        let (phase, syn) = both (eqb s.phase 4) (opens 6 m) new in
        let unfinished : Entry → Bool = λ e. client e && not (e.client_done && e.server_done) in
        let none : count_of unfinished es ≡ 0 = counted unfinished (λ e n. rw n) ∙ rw (its_client, eqb-true s.phase 4 phase) refl in
        keep_off unfinished (λ e. not (is_renewed m e)) (λ e. not (client e)) (λ e n. rw syn (finished (client e) (e.client_done && e.server_done) n)) es none

  -- The client has none
  module _ (none : first_from (slot_of_client m.address m.port) 0 l ≡ None) where
    absent : count_of (of_client m.address m.port) es ≡ 0
    absent =
        let client = of_client m.address m.port in
        sym (t.same client) ∙ sym (count_same (slot_of_client m.address m.port) (holds client) l (client_holds m.address m.port))
        ∙ nothing_passes (slot_of_client m.address m.port) l 0 none

    none_mine : count_of (mine m) es ≡ 0
    none_mine = count_off (of_client m.address m.port) (mine m) (of_client m.address m.port) (λ e n. rw n) es absent ∙ absent

    none_struck : keep (λ e. not (is_renewed m e)) es ≡ es
    none_struck = keep_off (of_client m.address m.port) (λ e. not (is_renewed m e)) (λ _. true) (λ e n. rw (n, and-false)) es absent ∙ keep_all es

  -- table and book agree on whether some connection is the packet's
  mine_found : (f : Option SlotNo) → first_from (slot_of_client m.address m.port) 0 l ≡ f → count_of (mine m) es ≡ bit (is_its l m f)
  mine_found None none = none_mine none
  mine_found (Some k) found = let low = found_lowest (slot_of_client m.address m.port) l k.0 found in mine_is k.0 low.within low.passes

  stray_is : is_stray b m ≡ not (has_its l m) && not (opens protocol m)
  stray_is = rw (mine_found _ refl, bit_none (has_its l m))

  -- a packet of the connection in slot k
  module _ (k : SlotNo) (rst : Bool) (its : Its l m k.0 rst) where
    its_passed : (change : Change) (servers : List Server) (l' : List Slot) (es' : List Entry)
        → let i = (slot_at row k.0).server in
        let d' = with_servers d servers d.walk in
        Matches d' l' given es' → entered b m i.0 change ≡ book_at d' given es' → is_ended change ≡ rst → Routed way b p m (passed d' (lent l' p) m i change)
    its_passed change servers l' es' matches book ended =
        let exists = (its_slot d row p m (sound_parts d row sound) k.0 rst its).2 in
        passed_right (slot_at row k.0).server change servers d.walk l' es' matches book
        (rw (mine_is k.0 its.lowest.within its.lowest.passes, its.belongs)) exists its.belongs
        (ended ∙ sym (rst-tcp ∙ its.flag)) (λ _. its_entry k.0 its.lowest.within its.lowest.passes)

  -- an opening: the book strikes what it should, and adds the new entry
  opened_right : (i : ServerNo) (servers : List Server) (walk : Walk) (l' : List Slot) (left : List Entry)
      → let d' = with_servers d servers walk in
      Matches d' l' given (new_entry m i.0 d.clock ∷ left) → keep (λ e. not (is_renewed m e)) es ≡ left
      → opens protocol m ≡ true → i.0 < d.service.servers → Routed way b p m (passed d' (lent l' p) m i Change.Opened)
  opened_right i servers walk l' left matches struck new exists =
      passed_right i Change.Opened servers walk l' _ matches (ap (λ (x : List Entry). book_at d given (new_entry m i.0 d.clock ∷ x)) struck)
      (rw (new, and-false)) exists (opens_here protocol m.flags m.sender i new) (sym (opens_no_rst protocol m.flags m.sender new))
      (λ n. absurd (true≢false n))

  -- 4. By the decision's cases

  by_decision : (a : Decision) → Grounded d l m a → Routed way b p m (carried_out d (lent l p) m a)
  by_decision (Decision.Refuse why) declined = record {
    agree = agreed d l given es t;
    accepted = numbers_agree why ∙ declined.keeps;
    not15 = kept_other why 15 declined.keeps refl;
    not11 = kept_other why 11 declined.keeps refl;
    stray = declined.stray ∙ sym stray_is;
    passed = λ _. tt;
  }
  by_decision (Decision.Keep k) its =
      let phase = (its_slot d row p m (sound_parts d row sound) k.0 false its).0 in
      let most = by_test (λ (last : ℕ). last ≤ 4) (eqb protocol 17) 1 4 (λ e. omega arith) (λ e. omega arith) in
      its_passed k false its Change.Kept d.servers _ _
      (matches_kept d l given es t m k.0 its.lowest.within its.lowest.passes its.used (omega (arith, phase, most))) refl refl
  by_decision (Decision.End k) its =
      its_passed k true its Change.Ended _ _ _
      (matches_ended d l given es t m k.0 its.lowest.within its.lowest.passes (slot_at row k.0).server.0) refl refl
  by_decision (Decision.Open k i walk) new =
      opened_right i _ walk _ _
      (matches_opened d l given es t m k.0 i.0 walk new.opening.lowest.within new.opening.lowest.passes new.absent)
      (none_struck new.absent) new.opens new.opening.picked.serves.server
  by_decision (Decision.Renew old k i walk) new =
      let low = new.its.lowest in
      opened_right i _ walk _ _
      (matches_renewed d l given es t m old.0 low.within low.passes (slot_at row old.0).server.0 k.0 i.0 walk
      new.opening.lowest.within new.opening.lowest.passes)
      (its_struck old.0 low.within low.passes new.renews) (renewing protocol m (slot_at row old.0).phase new.renews).1 new.opening.picked.serves.server

  pub routed_right : Routed way b p m (routed d (lent l p) m)
  unfolding routed
  routed_right = by_decision (decided d l m) (decided_grounded d row (sound_parts d row sound) m)
