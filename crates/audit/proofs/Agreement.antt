-- When a state and its book agree: the used slots are the entries, no client has two, and the servers are where the settings have them. What
-- each change of the state does to the book keeps it so. Assumes nothing.
use Rattle.std.specs.Prelude.{None}
use Prim.Native.Nat.{ℕ, ◌<◌, ◌≤◌}
use mathlib.Core.Bool.{Bool, true, false, not}
use mathlib.Core.List.{List, [], ◌∷◌, map}
use mathlib.Core.Path.{◌≡◌, refl}
use native.Mathlib.Omega.{arith}
use lib.ListN.{length, get_or}
use Rattle.lists.specs.Tests.{count_of, keep}
use Rattle.lists.proofs.Cases.{by_test}
use Rattle.lists.proofs.Counting.{count_same}
use Rattle.servers.specs.declared.Server.{Server}
use Rattle.servers.specs.Servers.{raised, lowered}
use Rattle.servers.proofs.Ends.{SameEnds, ends_chain}
use Rattle.servers.proofs.Kept.{ends_set}
use Rattle.servers.proofs.Freshness.{fresh_ends}
use Rattle.scheduler.specs.declared.walk.Walk.{Walk}
use Rattle.table.specs.declared.slot.Slot.{Slot}
use Rattle.table.specs.Slots.{slots, zeroed, free_slot, is_unused}
use Rattle.table.specs.Find.{of_client as slot_of_client, first_from, Unique}
use Rattle.table.specs.Expire.{is_idle, lowered_by}
use Rattle.table.specs.Changes.{opened, touched, freed}
use Rattle.table.proofs.Rows.{is_row_lem}
use Rattle.table.proofs.Clients.{cleared-unique, opened-unique, touched-unique, freed-unique, freed_absent}
use Rattle.table.proofs.Empty.{empty_none, empty_unique}
use Rattle.director.specs.declared.state.Service.{Service}
use Rattle.director.specs.declared.state.Director.{Director}
use Rattle.director.specs.declared.segment.Segment.{Segment}
use Rattle.director.specs.Setup.{new_director}
use Rattle.director.specs.Control.{weighed}
use Rattle.director.specs.Tick.{settled, settled_slots}
use Rattle.director.specs.State.{with_servers, with_one_less}
use Rattle.director.specs.Carry.{phase_after}
use Rattle.director.proofs.Sound.{Accepted}
use Rattle.audit.specs.Calls.{set_up, Fits}
use Rattle.audit.specs.Book.{Entry, Book, of_client, is_struck, new_entry, marked, on_client}
use Rattle.audit.proofs.Slots.{holds, Same, client_holds, touched-marked, same_struck, same_opened, same_kept, same_ended}

-- a state, seen as slots, and the servers and entries of its book
pub record Matches (d : Director) (l : List Slot) (given : List Server) (es : List Entry) : Type 0 where
  pub same : Same l es
  pub unique : Unique l
  pub ends : SameEnds d.service.servers d.servers given
  pub fits : Fits (set_up d.service given)

-- the book with the state's service and clock
abbrev pub book_at : Director → List Server → List Entry → Book
book_at d given es = record { service = d.service; servers = given; clock = d.clock; entries = es }

pub record Agree (d : Director) (l : List Slot) (b : Book) : Type 0 where
  pub given : List Server
  pub entries : List Entry
  pub book : b ≡ book_at d given entries
  pub matches : Matches d l given entries

pub agreed : (d : Director) (l : List Slot) (given : List Server) (es : List Entry) → Matches d l given es → Agree d l (book_at d given es)
agreed d l given es t = record { given = given; entries = es; book = refl; matches = t }

-- "no client has two entries" (SCOPE 9.11)
pub once : (d : Director) (l : List Slot) (given : List Server) (es : List Entry) → Matches d l given es
    → (address port : ℕ) → count_of (of_client address port) es ≤ 1
once d l given es t address port =
    omega (
      arith,
      t.unique address port,
      count_same (slot_of_client address port) (holds (of_client address port)) l (client_holds address port),
      t.same (of_client address port),
    )

-- 1. The servers stay where they are

pub ends_lowered : (n : ℕ) (q : Slot → Bool) (l : List Slot) (servers : List Server) → SameEnds n (lowered_by q l servers) servers
unfolding lowered_by
ends_lowered n q [] servers = record { address = λ i h. refl; port = λ i h. refl }
ends_lowered n q (s ∷ l) servers =
    ends_chain n _ _ _ (ends_lowered n q l _)
    (by_test (λ (v : List Server). SameEnds n v servers) (q s) (lowered servers s.server.0) servers
    (λ e. ends_set servers s.server.0 _ n refl refl) (λ e. record { address = λ i h. refl; port = λ i h. refl }))

-- 2. Setup

pub matches_new : (g : Service) (given : List Server) (row : List ℕ) → Accepted g given row → Fits (set_up g given)
    → Matches (new_director g given) (slots (zeroed row)) given []
unfolding count_of
matches_new g given row a fits =
    let r = is_row_lem row a.whole in record {
      same = λ q. empty_none row r (holds q) refl;
      unique = empty_unique row r;
      ends = fresh_ends given g.servers a.most;
      fits = fits;
    }

module _ (d : Director) (l : List Slot) (given : List Server) (es : List Entry) (t : Matches d l given es) where
  -- servers that stay where they were
  ends_with : (servers : List Server) → SameEnds d.service.servers servers d.servers → SameEnds d.service.servers servers given
  ends_with servers e = ends_chain d.service.servers servers d.servers given e t.ends

  -- 3. A weight is set
  pub matches_weighed : (k w : ℕ) → Matches (weighed d k w) l given es
  matches_weighed k w = record {
    same = t.same;
    unique = t.unique;
    ends = ends_with _ (ends_set d.servers k _ d.service.servers refl refl);
    fits = t.fits;
  }

  -- 4. The clock is stored and idle connections are removed
  pub matches_settled : (now : ℕ) → Matches (settled d l now) (settled_slots d l now) given (keep (λ e. not (is_struck d.service.protocol now e)) es)
  matches_settled now = record {
    same = same_struck d.service.protocol now l es t.same;
    unique = cleared-unique (is_idle d.service.protocol now) l t.unique;
    ends = ends_with _ (ends_lowered d.service.servers (is_idle d.service.protocol now) l d.servers);
    fits = t.fits;
  }

  -- 5. A connection is opened
  pub matches_opened : (m : Segment) (k i : ℕ) (walk : Walk) → k < length l → is_unused (get_or l k free_slot) ≡ true
      → first_from (slot_of_client m.address m.port) 0 l ≡ None
      → Matches (with_servers d (raised d.servers i) walk) (opened l k m.address m.port i d.clock) given (new_entry m i d.clock ∷ es)
  matches_opened m k i walk h free none = record {
    same = same_opened l es k m.address m.port i d.clock h free t.same;
    unique = opened-unique l k h m.address m.port i d.clock t.unique none;
    ends = ends_with _ (ends_set d.servers i _ d.service.servers refl refl);
    fits = t.fits;
  }

  -- 6. The one connection of a client, in slot k, is kept or ended
  module _ (m : Segment) (k : ℕ) (h : k < length l) (its : slot_of_client m.address m.port (get_or l k free_slot) ≡ true) where
    abbrev s : Slot
    s = get_or l k free_slot

    pub matches_kept : is_unused s ≡ false → s.phase ≤ 4 → Matches d (touched l k (phase_after m s) d.clock) given (map (on_client m (marked m d.clock)) es)
    matches_kept used most = record {
      same = same_kept m l t.unique k h its es t.same d.clock most;
      unique = touched-unique l k h (phase_after m s) d.clock used (touched-marked m d.clock s used most).0 t.unique;
      ends = t.ends;
      fits = t.fits;
    }

    pub matches_ended : (i : ℕ) → Matches (with_servers d (lowered d.servers i) d.walk) (freed l k) given (keep (λ e. not (of_client m.address m.port e)) es)
    matches_ended i = record {
      same = same_ended m l t.unique k h its es t.same;
      unique = freed-unique l k h t.unique;
      ends = ends_with _ (ends_set d.servers i _ d.service.servers refl refl);
      fits = t.fits;
    }

-- 7. It is ended, and another is opened in slot j
pub matches_renewed : (d : Director) (l : List Slot) (given : List Server) (es : List Entry) → Matches d l given es
    → (m : Segment) (k : ℕ) → k < length l → slot_of_client m.address m.port (get_or l k free_slot) ≡ true
    → (old j i : ℕ) (walk : Walk) → j < length (freed l k) → is_unused (get_or (freed l k) j free_slot) ≡ true
    → Matches (with_servers d (raised (lowered d.servers old) i) walk) (opened (freed l k) j m.address m.port i d.clock) given
    (new_entry m i d.clock ∷ keep (λ e. not (of_client m.address m.port e)) es)
matches_renewed d l given es t m k h its old j i walk within free =
    matches_opened (with_one_less d old) (freed l k) given _ (matches_ended d l given es t m k h its old) m j i walk within free
    (freed_absent l k h t.unique m.address m.port its)
