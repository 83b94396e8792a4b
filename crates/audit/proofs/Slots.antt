-- The used slots and the book's entries are the same connections, in whatever order: every test counts alike in both. What is done to the
-- slots and to the entries keeps it so. Assumes nothing.
use Prim.Native.Nat.{ℕ, zero, suc, ◌-◌, ◌<◌, ◌≤◌}
use mathlib.Core.Bool.{Bool, true, false, not, ◌&&◌, ◌||◌, or-false, or-and_distrib_right, and_comm, true≢false}
use mathlib.Core.List.{List, ◌∷◌, map}
use mathlib.Core.Logic.{⊎_elim}
use mathlib.Core.Path.{◌≡◌, refl, sym, ap, ◌∙◌}
use native.Mathlib.Omega.{arith}
use borrow.Author.Tests.{eqb-true, not-true}
use lib.Dec.{eqb, leb}
use lib.ListN.{length, get_or, set}
use Rattle.lists.specs.Tests.{bit, count_of, keep}
use Rattle.lists.proofs.Cases.{truth, both}
use Rattle.lists.proofs.Counting.{count_set, count_some, count_same}
use Rattle.table.specs.declared.slot.Slot.{Slot}
use Rattle.table.specs.Slots.{free_slot, is_unused, is_used}
use Rattle.table.specs.Find.{of_client as slot_of_client, Unique}
use Rattle.table.specs.Expire.{is_idle}
use Rattle.table.specs.Changes.{opened_slot, touched_slot, opened, touched, freed, idle_removed}
use Rattle.table.proofs.Removal.{count-cleared}
use Rattle.table.proofs.Clients.{free_nobody}
use Rattle.director.specs.declared.segment.Sender.{Sender}
use Rattle.director.specs.declared.segment.Segment.{Segment}
use Rattle.director.specs.Carry.{phase_of, phase_after}
use Rattle.audit.specs.Book.{Entry, of_client, limit, is_struck, by_client, marked, on_client}
use Rattle.lists.proofs.Selecting.{count_map, count-keep, count_split, count_one_lem}

-- who has finished in a phase: "2 the client has sent FIN; 3 the server has; 4 both" (SCOPE 8.6)
abbrev client_in : ℕ → Bool
client_in phase = eqb phase 2 || eqb phase 4

abbrev server_in : ℕ → Bool
server_in phase = eqb phase 3 || eqb phase 4

-- the entry of a used slot
abbrev pub entry_of : Slot → Entry
entry_of s = record {
  address = s.address;
  port = s.port;
  server = s.server.0;
  client_done = client_in s.phase;
  server_done = server_in s.phase;
  last = s.seen;
}

-- a test of entries, as one of slots: a free slot fails it
abbrev pub holds : (Entry → Bool) → Slot → Bool
holds q s = is_used s && q (entry_of s)

abbrev pub Same : List Slot → List Entry → Type 0
Same l es = (q : Entry → Bool) → count_of (holds q) l ≡ count_of q es

-- 1. The two readings of a client, of an idle limit and of a FIN agree

pub client_holds : (address port : ℕ) (s : Slot) → slot_of_client address port s ≡ holds (of_client address port) s
client_holds address port s = and_comm (eqb s.address address && eqb s.port port) (is_used s)

-- a client's slot is used, and its entry is the client's
pub client_parts : (address port : ℕ) (s : Slot) → slot_of_client address port s ≡ true → (of_client address port (entry_of s) ≡ true) × (is_unused s ≡ false)
client_parts address port s its =
    let (client, used) = both (of_client address port (entry_of s)) (is_used s) its in (client, not-true _ used)

-- a phase is not both 2 and 3
two_or_three : (phase : ℕ) → (eqb phase 2 && eqb phase 3) ≡ false
two_or_three phase =
    ⊎_elim (λ (e : eqb phase 2 ≡ true). rw (eqb-true phase 2 e)) (λ (e : eqb phase 2 ≡ false). rw e) (truth (eqb phase 2))

both_done_lem : (phase : ℕ) → (client_in phase && server_in phase) ≡ eqb phase 4
both_done_lem phase = sym (or-and_distrib_right (eqb phase 2) (eqb phase 3) (eqb phase 4)) ∙ rw (two_or_three phase)

pub idle_struck : (protocol now : ℕ) (s : Slot) → is_idle protocol now s ≡ holds (is_struck protocol now) s
idle_struck protocol now s = ap (λ (b : Bool). is_used s && leb (limit protocol b) (now - s.seen)) (sym (both_done_lem s.phase))

fin_marks : (phase : ℕ) (fin : Bool) (sender : Sender) → eqb phase 0 ≡ false → phase ≤ 4
    → (client_in (phase_of phase fin sender) ≡ client_in phase || (fin && by_client sender))
    × (server_in (phase_of phase fin sender) ≡ server_in phase || (fin && not (by_client sender)))
    × (eqb (phase_of phase fin sender) 0 ≡ false)
fin_marks phase false sender used most = (sym (or-false (client_in phase)), sym (or-false (server_in phase)), used)
fin_marks zero true sender used most = absurd (true≢false used)
fin_marks (suc zero) true Sender.Client used most = (refl, refl, refl)
fin_marks (suc (suc zero)) true Sender.Client used most = (refl, refl, refl)
fin_marks (suc (suc (suc zero))) true Sender.Client used most = (refl, refl, refl)
fin_marks (suc (suc (suc (suc zero)))) true Sender.Client used most = (refl, refl, refl)
fin_marks (suc zero) true (Sender.Server i) used most = (refl, refl, refl)
fin_marks (suc (suc zero)) true (Sender.Server i) used most = (refl, refl, refl)
fin_marks (suc (suc (suc zero))) true (Sender.Server i) used most = (refl, refl, refl)
fin_marks (suc (suc (suc (suc zero)))) true (Sender.Server i) used most = (refl, refl, refl)
fin_marks (suc (suc (suc (suc (suc phase))))) true sender used most = absurd (omega arith)

-- a packet of a connection: its slot and its entry
pub touched-marked : (m : Segment) (now : ℕ) (s : Slot) → is_unused s ≡ false → s.phase ≤ 4
    → let t = touched_slot (phase_after m s) now s in (is_unused t ≡ false) × (entry_of t ≡ marked m now (entry_of s))
touched-marked m now s used most =
    let h = fin_marks s.phase m.flags.fin m.sender used most in (
      h.2,
      λ i. record { address = s.address; port = s.port; server = s.server.0; client_done = h.0 i; server_done = h.1 i; last = now },
    )

-- 2. The idle connections are removed

-- a test of both is one test of the slot's entry
struck_holds : (protocol now : ℕ) (q : Entry → Bool) (s : Slot)
    → (is_idle protocol now s && holds q s) ≡ holds (λ e. is_struck protocol now e && q e) s
struck_holds protocol now q s =
    rw (idle_struck protocol now s)
    (⊎_elim (λ (u : is_unused s ≡ true). rw u) (λ (u : is_unused s ≡ false). rw u) (truth (is_unused s)))

pub same_struck : (protocol now : ℕ) (l : List Slot) (es : List Entry) → Same l es
    → Same (idle_removed protocol now l) (keep (λ e. not (is_struck protocol now e)) es)
same_struck protocol now l es same q =
    let struck = is_struck protocol now in
    omega (
      arith,
      count-cleared (is_idle protocol now) (holds q) l refl,
      count_same _ _ l (struck_holds protocol now q),
      same (λ e. struck e && q e),
      same q,
      count_split struck q es,
      count-keep q (λ e. not (struck e)) es,
    )

-- 3. A free slot is taken

pub same_opened : (l : List Slot) (es : List Entry) (k address port server clock : ℕ) → k < length l → is_unused (get_or l k free_slot) ≡ true
    → Same l es → Same (opened l k address port server clock) (entry_of (opened_slot address port server clock) ∷ es)
unfolding count_of
same_opened l es k address port server clock h free same q =
    omega (arith, rw free at (count_set (holds q) l k (opened_slot address port server clock) free_slot h), same q)

-- 4. The one slot of a client is changed

module _ (m : Segment) (l : List Slot) (unique : Unique l) (k : ℕ) (h : k < length l) (its : slot_of_client m.address m.port (get_or l k free_slot) ≡ true) where
  abbrev address : ℕ
  address = m.address

  abbrev port : ℕ
  port = m.port

  abbrev s : Slot
  s = get_or l k free_slot

  -- tests of entries that agree but for the client's
  off_client : (p q : Entry → Bool) → ((e : Entry) → of_client address port e ≡ false → p e ≡ q e) → (x : Slot) → slot_of_client address port x ≡ false → holds p x ≡ holds q x
  off_client p q off x n =
      ⊎_elim
      (λ (u : is_unused x ≡ true). rw u)
      (λ (u : is_unused x ≡ false). rw u (off (entry_of x) (rw u at (sym (client_holds address port x) ∙ n))))
      (truth (is_unused x))

  -- what the tests say of all slots but the client's is the same, and of the slot t what was said of the client's
  one_changed : (p q : Entry → Bool) → ((e : Entry) → of_client address port e ≡ false → p e ≡ q e) → (t : Slot) → holds q t ≡ p (entry_of s)
      → count_of (holds q) (set l k t) ≡ count_of (holds p) l
  one_changed p q off t new =
      let one = count_one_lem (slot_of_client address port) (holds p) (holds q) (off_client p q off) l (unique address port) k free_slot h
      (free_nobody address port free_slot refl) its in
      omega (arith, rw (client_parts address port s its).1 at one, rw (new, (client_parts address port s its).1) at (count_set (holds q) l k t free_slot h))

  module _ (es : List Entry) (same : Same l es) where
    -- a test that only this client's entry can pass counts what it says of that one
    pub count_its : (q : Entry → Bool) → ((e : Entry) → of_client address port e ≡ false → q e ≡ false) → count_of q es ≡ bit (q (entry_of s))
    count_its q off =
        let client = slot_of_client address port in
        let alike : (x : Slot) → client x ≡ false → holds q x ≡ client x
        = λ x n. off_client q (of_client address port) (λ e m. off e m ∙ sym m) x n ∙ sym (client_holds address port x) in
        let one = count_one_lem client (holds q) client alike l (unique address port) k free_slot h (free_nobody address port free_slot refl) its in
        omega (arith, same q, unique address port, count_some client l k free_slot h its, rw (its, (client_parts address port s its).1) at one)

    pub same_kept : (now : ℕ) → s.phase ≤ 4 → Same (touched l k (phase_after m s) now) (map (on_client m (marked m now)) es)
    same_kept now most q =
        let (used, entry) = touched-marked m now s (client_parts address port s its).1 most in
        one_changed (λ e. q (on_client m (marked m now) e)) q (λ e n. rw n) (touched_slot (phase_after m s) now s) (rw (used, (client_parts address port s its).0, entry))
        ∙ same (λ e. q (on_client m (marked m now) e))
        ∙ sym (count_map q (on_client m (marked m now)) es)

    pub same_ended : Same (freed l k) (keep (λ e. not (of_client address port e)) es)
    same_ended q =
        one_changed (λ e. not (of_client address port e) && q e) q (λ e n. rw n) free_slot (rw (client_parts address port s its).0)
        ∙ same (λ e. not (of_client address port e) && q e)
        ∙ sym (count-keep q (λ e. not (of_client address port e)) es)
