-- What is decided of a packet in a sound state, with its reasons: all that the layers above need to know of a decision. Assumes nothing.
use Rattle.std.specs.Prelude.{Some, None, Option}
use Prim.Native.Nat.{ℕ, ◌<◌}
use mathlib.Core.Bool.{Bool, true, false, cond, not, ◌&&◌, true≢false, false≢true}
use mathlib.Core.List.{List}
use mathlib.Core.Path.{◌≡◌, refl, sym}
use native.Mathlib.Omega.{arith}
use borrow.Author.Tests.{not-true, eqb-true}
use lib.Dec.{eqb}
use lib.ListN.{length, get_or}
use Rattle.lists.proofs.Cases.{both, by_test}
use Rattle.packet.specs.declared.read.Flags.{Flags}
use Rattle.servers.specs.declared.ServerNo.{ServerNo}
use Rattle.scheduler.specs.declared.walk.Walk.{Walk}
use Rattle.scheduler.specs.declared.walk.Pick.{Pick}
use Rattle.scheduler.specs.Weights.{none_weighs}
use Rattle.scheduler.specs.Laws.{SomeWeight, IsPick}
use Rattle.scheduler.proofs.Largest.{no_weight_lem}
use Rattle.scheduler.proofs.Picks.{pick_found}
use Rattle.table.specs.declared.slot.Slot.{Slot}
use Rattle.table.specs.declared.slot.SlotNo.{SlotNo}
use Rattle.table.specs.Slots.{slots, words, free_slot, slot_at, is_unused, is_used}
use Rattle.table.specs.Find.{of_client, first_from, IsLowest}
use Rattle.table.specs.Changes.{freed}
use Rattle.table.proofs.Rows.{slots-words}
use Rattle.table.proofs.Finding.{found_lowest}
use Rattle.table.proofs.Freeing.{freed_found}
use Rattle.director.specs.declared.state.Director.{Director}
use Rattle.director.specs.declared.state.Refusal.{Refusal}
use Rattle.director.specs.declared.segment.Sender.{Sender}
use Rattle.director.specs.declared.segment.Segment.{Segment}
use Rattle.director.specs.declared.decide.Decision.{Decision}
use Rattle.director.specs.State.{refusal_number, keeps_clock, with_one_less}
use Rattle.director.specs.Decide.{opens_by, opens, belongs, next_pick, on_weights, on_room, on_absent, renews, on_renewal, on_rst, on_present, on_client, decided}
use Rattle.director.specs.Laws.{is_its, FullFirst, NeverFull}
use Rattle.director.proofs.Sound.{Sound}
use Rattle.director.proofs.Ending.{ended_parts}

-- 1. What is known of a decision

-- has the packet's client a connection that it belongs to?
abbrev pub has_its : List Slot → Segment → Bool
has_its l m = is_its l m (first_from (of_client m.address m.port) 0 l)

-- refused past 11: the clock is kept; and it is 12 exactly where no connection is the packet's and it opens none
pub record Declined (d : Director) (l : List Slot) (m : Segment) (why : Refusal) : Type 0 where
  pub keeps : keeps_clock why ≡ true
  pub stray : eqb (refusal_number why) 12 ≡ not (has_its l m) && not (opens d.service.protocol m)

-- kept or ended: slot k is the lowest of the packet's client, and the packet belongs to its connection; RST clear or set
pub record Its (l : List Slot) (m : Segment) (k : ℕ) (rst : Bool) : Type 0 where
  pub lowest : IsLowest (of_client m.address m.port) l k
  pub used : is_unused (get_or l k free_slot) ≡ false
  pub belongs : belongs m.sender (get_or l k free_slot).server ≡ true
  pub flag : m.flags.rst ≡ rst

-- an opening: slot k is the lowest free one; the server and the walk are the scheduler's pick
pub record Opening (d : Director) (l : List Slot) (k i : ℕ) (walk : Walk) : Type 0 where
  pub lowest : IsLowest is_unused l k
  pub picked : IsPick d.service.scheduler d.servers d.service.servers d.walk (record { server = record { 0 = i }; walk = walk })

-- opened: the client has no connection, and the packet opens one
pub record CanOpen (d : Director) (l : List Slot) (m : Segment) (k i : ℕ) (walk : Walk) : Type 0 where
  pub absent : first_from (of_client m.address m.port) 0 l ≡ None
  pub opens : opens d.service.protocol m ≡ true
  pub opening : Opening d l k i walk

-- renewed: the packet is of the finished connection in slot old and opens; the opening is one in the state that the ending leaves
pub record CanRenew (d : Director) (l : List Slot) (m : Segment) (old k i : ℕ) (walk : Walk) : Type 0 where
  pub its : Its l m old false
  pub renews : renews m (get_or l old free_slot).phase ≡ true
  pub opening : Opening (with_one_less d (get_or l old free_slot).server.0) (freed l old) k i walk

abbrev pub Grounded : Director → List Slot → Segment → Decision → Type 0
Grounded d l m (Decision.Refuse why) = Declined d l m why
Grounded d l m (Decision.Keep k) = Its l m k.0 false
Grounded d l m (Decision.End k) = Its l m k.0 true
Grounded d l m (Decision.Open k i walk) = CanOpen d l m k.0 i.0 walk
Grounded d l m (Decision.Renew old k i walk) = CanRenew d l m old.0 k.0 i.0 walk

-- 2. Whose packets open

-- only a client's packet opens, and it belongs to any server
pub opens_here : (protocol : ℕ) (f : Flags) (sender : Sender) (i : ServerNo) → opens_by protocol f sender ≡ true → belongs sender i ≡ true
opens_here protocol f Sender.Client i e = refl
opens_here protocol f (Sender.Server j) i e = absurd (false≢true e)

-- a packet of another server opens nothing
pub others_open_none : (protocol : ℕ) (f : Flags) (sender : Sender) (i : ServerNo) → belongs sender i ≡ false → opens_by protocol f sender ≡ false
others_open_none protocol f Sender.Client i e = absurd (true≢false e)
others_open_none protocol f (Sender.Server j) i e = refl

-- a packet that opens is no RST of TCP
pub opens_no_rst : (protocol : ℕ) (f : Flags) (sender : Sender) → opens_by protocol f sender ≡ true → (eqb protocol 6 && f.rst) ≡ false
opens_no_rst protocol f (Sender.Server j) e = absurd (false≢true e)
opens_no_rst protocol f Sender.Client e = by_flags (eqb protocol 6) f.ack f.rst (not f.fin && f.syn) e
  where
    by_flags : (tcp ack rst rest : Bool) → cond tcp (not ack && (not rst && rest)) true ≡ true → (tcp && rst) ≡ false
    by_flags false ack rst rest e = refl
    by_flags true ack false rest e = refl
    by_flags true true true rest e = sym e
    by_flags true false true rest e = sym e

-- a packet that renews is a client's SYN: it opens by any protocol
syn-opens : (protocol : ℕ) (f : Flags) (sender : Sender) → opens_by 6 f sender ≡ true → opens_by protocol f sender ≡ true
syn-opens protocol f Sender.Client e = by_test (λ b. b ≡ true) (eqb protocol 6) _ _ (λ _. e) (λ _. refl)
syn-opens protocol f (Sender.Server i) e = absurd (false≢true e)

pub renewing : (protocol : ℕ) (m : Segment) (phase : ℕ) → renews m phase ≡ true → (phase ≡ 4) × (opens protocol m ≡ true) × (m.flags.rst ≡ false)
renewing protocol m phase e =
    let (last, new) = both (eqb phase 4) (opens 6 m) e in
    (eqb-true phase 4 last, syn-opens protocol m.flags m.sender new, opens_no_rst 6 m.flags m.sender new)

-- 3. Room is asked for before a weight, and is there where a connection is renewed

pub full_first : FullFirst
unfolding decided
full_first d l m absent new full = rw (absent, new, full) refl

module _ (d : Director) (l : List Slot) (k : SlotNo) (within : k.0 < length l) where
  picked_room : (ended : Director) (j : SlotNo) → on_weights ended (Decision.Renew k j) ≡ Decision.Refuse Refusal.TableFull → ⊥
  picked_room ended j =
      by_test (λ (q : Decision). q ≡ Decision.Refuse Refusal.TableFull → ⊥) (none_weighs ended.weights) _ _
      (λ _ e. let z : ◌≡◌ {A = ℕ} 0 1 = cc in omega arith) (λ _ e. let z : ◌≡◌ {A = ℕ} 0 1 = cc in omega arith)

  renewal_room : (f : Option SlotNo) → first_from is_unused 0 (freed l k.0) ≡ f
      → on_room (with_one_less d (get_or l k.0 free_slot).server.0) (Decision.Renew k) f ≡ Decision.Refuse Refusal.TableFull → ⊥
  renewal_room None none e = freed_found l k.0 within none
  renewal_room (Some j) found e = picked_room (with_one_less d (get_or l k.0 free_slot).server.0) j e

pub never_full : NeverFull
unfolding decided
never_full d l m k found new full =
    let s = get_or l k.0 free_slot in
    let here = opens_here 6 m.flags m.sender s.server (both (eqb s.phase 4) (opens 6 m) new).1 in
    let low = found_lowest (of_client m.address m.port) l k.0 found in
    renewal_room d l k low.within (first_from is_unused 0 (freed l k.0)) refl (rw (found, here, new) at full)

-- 4. Every decision has its grounds

-- in a sound state with a weight above 0 the pick answers a server
pub somebody : (d : Director) (row : List ℕ) → Sound d row → SomeWeight d.servers d.service.servers
    → IsPick d.service.scheduler d.servers d.service.servers d.walk (next_pick d)
somebody d row sound some = rw sound.weights (pick_found d.service.scheduler d.servers d.service.servers d.walk some sound.range)

-- what is made of the pick p, where the largest weight that is held is above 0
pub on_pick : (d : Director) (make : ServerNo → Walk → Decision) (p : Pick) → none_weighs d.weights ≡ false → p ≡ next_pick d
    → make p.server p.walk ≡ on_weights d make
on_pick d make p some picked = rw (picked, some)

-- an opening in a sound state, whatever is shown of it and made of it
module _ (d : Director) (row : List ℕ) (sound : Sound d row) (Goal : Decision → Type 0) (make : SlotNo → ServerNo → Walk → Decision)
    (weightless : Goal (Decision.Refuse Refusal.NoWeight)) (full : first_from is_unused 0 (slots row) ≡ None → Goal (Decision.Refuse Refusal.TableFull))
    (new : (k : SlotNo) (i : ServerNo) (walk : Walk) → Opening d (slots row) k.0 i.0 walk → Goal (make k i walk)) where
  by_room : (f : Option SlotNo) → first_from is_unused 0 (slots row) ≡ f → Goal (on_room d make f)
  by_room None e = full e
  by_room (Some k) e =
      by_test Goal (none_weighs d.weights) _ _ (λ _. weightless)
      (λ some. new k _ _ (record {
        lowest = found_lowest is_unused (slots row) k.0 e;
        picked = somebody d row sound ((no_weight_lem d.weights d.servers d.service.servers sound.weights).1.0 some);
      }))

  opening : Goal (on_room d make (first_from is_unused 0 (slots row)))
  opening = by_room (first_from is_unused 0 (slots row)) refl

module _ (d : Director) (row : List ℕ) (sound : Sound d row) (m : Segment) where
  abbrev l : List Slot
  l = slots row

  abbrev protocol : ℕ
  protocol = d.service.protocol

  abbrev Goal : Decision → Type 0
  Goal = Grounded d l m

  -- the client has a connection, in slot k
  module _ (k : SlotNo) (found : first_from (of_client m.address m.port) 0 l ≡ Some k) where
    abbrev s : Slot
    s = slot_at row k.0

    low : IsLowest (of_client m.address m.port) l k.0
    low = found_lowest (of_client m.address m.port) l k.0 found

    used : is_unused s ≡ false
    used = not-true _ (both (eqb s.address m.address && eqb s.port m.port) (is_used s) low.passes).1

    module _ (here : belongs m.sender s.server ≡ true) where
      its : (rst : Bool) → m.flags.rst ≡ rst → Its l m k.0 rst
      its rst flag = record { lowest = low; used = used; belongs = here; flag = flag }

      -- 13 can't arise: the old slot is free then
      by_renewal : renews m s.phase ≡ true → Goal (on_renewal d l k)
      by_renewal new =
          rw (slots-words (freed l k.0)) at
          (opening (with_one_less d s.server.0) (words (freed l k.0)) (ended_parts d row sound k.0 low.within used) Goal (Decision.Renew k)
          (record { keeps = refl; stray = rw (found, here) })
          (λ none. absurd (freed_found l k.0 low.within (rw (slots-words (freed l k.0)) at none)))
          (λ j i walk o. record { its = its false (renewing protocol m s.phase new).2; renews = new; opening = rw (slots-words (freed l k.0)) at o }))

      by_rst : (rst : Bool) → m.flags.rst ≡ rst → Goal (on_rst k rst)
      by_rst true flag = its true flag
      by_rst false flag = its false flag

    by_present : Goal (on_present d l m k s)
    by_present =
        by_test Goal (belongs m.sender s.server) _ _
        (λ here. by_test Goal (renews m s.phase) _ _ (by_renewal here) (λ old. by_rst here m.flags.rst refl))
        (λ away. record { keeps = refl; stray = rw (found, away, others_open_none protocol m.flags m.sender s.server away) })

  -- the client has none
  module _ (absent : first_from (of_client m.address m.port) 0 l ≡ None) where
    full : opens protocol m ≡ true → (why : Refusal) → keeps_clock why ≡ true → eqb (refusal_number why) 12 ≡ false → Declined d l m why
    full new why keeps other = record { keeps = keeps; stray = rw (absent, new) other }

    by_absent : Goal (on_absent d l m)
    by_absent =
        by_test Goal (opens protocol m) _ _
        (λ new. opening d row sound Goal Decision.Open (full new Refusal.NoWeight refl refl) (λ _. full new Refusal.TableFull refl refl)
        (λ k i walk o. record { absent = absent; opens = new; opening = o }))
        (λ old. record { keeps = refl; stray = rw (absent, old) })

  by_client_lem : (f : Option SlotNo) → first_from (of_client m.address m.port) 0 l ≡ f → Goal (on_client d l m f)
  by_client_lem None absent = by_absent absent
  by_client_lem (Some k) found = by_present k found

  pub decided_grounded : Goal (decided d l m)
  unfolding decided
  decided_grounded = by_client_lem (first_from (of_client m.address m.port) 0 l) refl
