-- Each call gives the number of the lowest-placed of its tests that fails, and 0 where none does. Assumes nothing.
use Rattle.std.specs.Prelude.{Ok, Err, Some, None, Option, Result as ResultOf}
use Rattle.packet.specs.declared.read.TransportHeader.{TransportHeader}
use Prim.Native.Nat.{ℕ, ◌<◌}
use mathlib.Core.Bool.{Bool, true, false, cond, not, ◌&&◌, ◌||◌}
use mathlib.Core.List.{List, []}
use mathlib.Core.Logic.{⊎_elim}
use mathlib.Core.Path.{◌≡◌, refl, ap, ◌∙◌}
use borrow.Author.Tests.{ltb-false}
use lib.Dec.{eqb, ltb}
use lib.ListN.{length, get_or}
use Rattle.lists.proofs.Cases.{truth}
use Rattle.packet.specs.declared.read.Fault.{Fault}
use Rattle.packet.specs.declared.read.Flags.{Flags}
use Rattle.checksum.specs.Ones.{word_at}
use Rattle.packet.specs.Bytes.{address_at, payload}
use Rattle.packet.specs.Reading.{broken, header_verifies, fragment, tcp_malformed, udp_malformed, flags_of, no_flags, header_of, ports_of, packet_with, read_transport, with_transport, read_payload, on_header, read_packet}
use Rattle.servers.specs.declared.Server.{Server}
use Rattle.servers.specs.declared.ServerNo.{ServerNo}
use Rattle.servers.specs.declared.rules.Rule.{Rule}
use Rattle.servers.specs.Rules.{all_keep, is_nobody, number_of}
use Rattle.scheduler.specs.declared.walk.Walk.{Walk}
use Rattle.scheduler.specs.Weights.{none_weighs, no_weight}
use Rattle.table.specs.declared.slot.Slot.{Slot}
use Rattle.table.specs.declared.slot.SlotNo.{SlotNo}
use Rattle.table.specs.Slots.{slots, words, free_slot, is_unused}
use Rattle.table.specs.Find.{of_client, first_from}
use Rattle.table.specs.Changes.{freed}
use Rattle.table.proofs.Rows.{slots-words}
use Rattle.table.proofs.Finding.{found_lowest}
use Rattle.table.proofs.Freeing.{freed_found}
use Rattle.director.specs.declared.state.Service.{Service}
use Rattle.director.specs.declared.state.Director.{Director}
use Rattle.director.specs.declared.state.Refusal.{Refusal}
use Rattle.director.specs.declared.state.Way.{Way}
use Rattle.director.specs.Judge.{Judged, sizes_right, service_right, settings_judged, sound_of}
use Rattle.director.specs.declared.segment.Segment.{Segment}
use Rattle.director.specs.Segment.{Read, inbound_segment, on_number, on_way, on_reading, segment_read}
use Rattle.director.specs.declared.decide.Decision.{Decision}
use Rattle.director.specs.declared.state.Answer.{Answer}
use Rattle.director.specs.State.{with_one_less, Lent, lent, Result, refusal_number}
use Rattle.director.specs.Setup.{on_verdict, setup_of}
use Rattle.director.specs.Control.{number_judged, on_weight, weight_of, on_count, count_call_of}
use Rattle.director.specs.Tick.{settled, settled_slots, tick_on_sound, tick_of}
use Rattle.director.specs.Decide.{opens, belongs, next_pick, on_weights, on_room, renews, on_renewal, on_rst, on_present, on_client, decided}
use Rattle.director.specs.Carry.{carried_out}
use Rattle.director.specs.Packets.{routed, on_clock, on_seen, packet_held, packet_of}
use Rattle.director.specs.Laws.{is_its}
use Rattle.director.proofs.Sound.{Sound, sound_parts}
use Rattle.director.proofs.Settled.{settled_sound}
use Rattle.director.proofs.Decisions.{others_open_none}
use Rattle.audit.specs.Calls.{Call, set_up, set_weight, count, tick, packet, State, called}
use Rattle.audit.specs.Demand1.{lowest_failing, setup_tests, number_tests, tick_tests, transport_malformed, is_elsewhere, is_present, is_renewal, route_tests, seen_tests, packet_tests, tests, number_given}

-- 1. Setup, weight, count and tick

module _ (d : Director) (row : List ℕ) where
  setup_exactly : (g : Service) (given : List Server) → number_given (setup_of d g given row).answer ≡ lowest_failing (setup_tests row g given)
  unfolding setup_of settings_judged
  setup_exactly g given =
      by_tests (sizes_right g.servers row) (service_right g) (all_keep Rule.Set given g.servers) (all_keep Rule.New given g.servers)
    where
      by_tests : (sizes service set new : Bool)
          → number_given (on_verdict d g given row (cond sizes (cond service (cond set (cond new (Ok tt) (Err Refusal.ServerRepeated)) (Err Refusal.ServerUnset)) (Err Refusal.Service)) (Err Refusal.Size))).answer
          ≡ cond (not sizes) 1 (cond (not service) 2 (cond (not set) 3 (cond (not new) 4 0)))
      by_tests false service set new = refl
      by_tests true false set new = refl
      by_tests true true false new = refl
      by_tests true true true false = refl
      by_tests true true true true = refl

  -- weight and count
  by_number : (k : ℕ) (on : Judged → Result) → ((why : Refusal) → (on (Err why)).answer ≡ Answer.Refused why) → number_given (on (Ok tt)).answer ≡ 0
      → number_given (on (number_judged d row k)).answer ≡ lowest_failing (number_tests d row k)
  unfolding number_judged
  by_number k on refused accepted = by_tests (sound_of d row) (ltb k d.service.servers)
    where
      by_tests : (sound exists : Bool)
          → number_given (on (cond sound (cond exists (Ok tt) (Err Refusal.NoServer)) (Err Refusal.Unsound))).answer
          ≡ cond (not sound) 15 (cond (not exists) 5 0)
      by_tests false exists = rw (refused Refusal.Unsound)
      by_tests true false = rw (refused Refusal.NoServer)
      by_tests true true = accepted

  tick_exactly : (now : ℕ) → number_given (tick_of d row now).answer ≡ lowest_failing (tick_tests d row now)
  unfolding tick_of
  tick_exactly now = by_tests (sound_of d row) (ltb now d.clock) refl
    where
      by_tests : (sound earlier : Bool) → ltb now d.clock ≡ earlier
          → number_given (tick_on_sound d (lent row []) now sound).answer ≡ cond (not sound) 15 (cond earlier 11 0)
      by_tests false earlier e = refl
      by_tests true true e = rw e
      by_tests true false e = rw e

  weight_exactly : (k w : ℕ) → number_given (weight_of d row k w).answer ≡ lowest_failing (number_tests d row k)
  unfolding weight_of
  weight_exactly k w = by_number k (on_weight d row k w) (λ why. refl) refl

  count_exactly : (k : ℕ) → number_given (count_call_of d row k).answer ≡ lowest_failing (number_tests d row k)
  unfolding count_call_of
  count_exactly k = by_number k (on_count d row k) (λ why. refl) refl

-- 2. A packet that got past 11

-- the number that a decision gives
decision_number : Decision → ℕ
decision_number (Decision.Refuse why) = refusal_number why
decision_number (Decision.Keep k) = 0
decision_number (Decision.End k) = 0
decision_number (Decision.Open k i walk) = 0
decision_number (Decision.Renew old k i walk) = 0

carried-number : (d : Director) (x : Lent (List Slot)) (m : Segment) (a : Decision) → number_given (carried_out d x m a).answer ≡ decision_number a
unfolding decision_number
carried-number d x m (Decision.Refuse why) = refl
carried-number d x m (Decision.Keep k) = refl
carried-number d x m (Decision.End k) = refl
carried-number d x m (Decision.Open k i walk) = refl
carried-number d x m (Decision.Renew old k i walk) = refl

-- 14 where the largest weight that is held is 0
on_weights_lem : (d : Director) (make : ServerNo → Walk → Decision) → ((i : ServerNo) (walk : Walk) → decision_number (make i walk) ≡ 0)
    → decision_number (on_weights d make) ≡ cond (none_weighs d.weights) 14 0
unfolding decision_number
on_weights_lem d make accepted = by_none (none_weighs d.weights)
  where
    by_none : (none : Bool)
        → decision_number (cond none (Decision.Refuse Refusal.NoWeight) (make (next_pick d).server (next_pick d).walk)) ≡ cond none 14 0
    by_none true = refl
    by_none false = accepted (next_pick d).server (next_pick d).walk

module _ (d : Director) (row : List ℕ) (sound : Sound d row) (m : Segment) where
  abbrev l : List Slot
  l = slots row

  abbrev new : Bool
  new = opens d.service.protocol m

  abbrev none : Bool
  none = no_weight d.servers d.service.servers

  -- the largest weight that is held is 0 exactly where every weight is
  held_none : none_weighs d.weights ≡ none
  held_none = ap none_weighs sound.weights

  -- what 12 to 14 say, of the client's connection and the lowest free slot
  abbrev route_number : Option SlotNo → Option SlotNo → ℕ
  route_number client free =
      cond (not (is_its l m client) && not new) 12
      (cond ((not (is_present client) && new) && not (is_present free)) 13
      (cond (((not (is_present client) && new) || is_renewal l m client) && none) 14 0))

  -- the client has a connection, in slot k
  module _ (k : SlotNo) (found : first_from (of_client m.address m.port) 0 l ≡ Some k) where
    abbrev s : Slot
    s = get_or l k.0 free_slot

    abbrev ended : Director
    ended = with_one_less d s.server.0

    within : k.0 < length l
    within = (found_lowest (of_client m.address m.port) l k.0 found).within

    -- a slot is free then
    by_free : (f : Option SlotNo) → first_from is_unused 0 (freed l k.0) ≡ f → decision_number (on_room ended (Decision.Renew k) f) ≡ cond none 14 0
    unfolding decision_number
    by_free None e = absurd (freed_found l k.0 within e)
    by_free (Some j) e = on_weights_lem ended (Decision.Renew k j) (λ i walk. refl) ∙ rw held_none

    on_present_lem : (free : Option SlotNo) → decision_number (on_present d l m k s) ≡ route_number (Some k) free
    unfolding decision_number
    on_present_lem free = by_tests (belongs m.sender s.server) refl (renews m s.phase) m.flags.rst
      where
        by_tests : (here : Bool) → belongs m.sender s.server ≡ here → (renewed rst : Bool)
            → decision_number (cond here (cond renewed (on_renewal d l k) (on_rst k rst)) (Decision.Refuse Refusal.NoConnection))
            ≡ cond (not here && not new) 12 (cond (renewed && none) 14 0)
        by_tests true e true rst = by_free (first_from is_unused 0 (freed l k.0)) refl
        by_tests true e false true = refl
        by_tests true e false false = refl
        by_tests false e renewed rst = rw (others_open_none d.service.protocol m.flags m.sender s.server e)

  on_absent_lem : (opening : Bool) (free : Option SlotNo)
      → decision_number (cond opening (on_room d Decision.Open free) (Decision.Refuse Refusal.NoConnection))
      ≡ cond (not opening) 12 (cond (opening && not (is_present free)) 13 (cond ((opening || false) && none) 14 0))
  unfolding decision_number
  on_absent_lem false free = refl
  on_absent_lem true None = refl
  on_absent_lem true (Some k) = on_weights_lem d (Decision.Open k) (λ i walk. refl) ∙ rw held_none

  by_client_lem : (client : Option SlotNo) → first_from (of_client m.address m.port) 0 l ≡ client
      → decision_number (on_client d l m client) ≡ route_number client (first_from is_unused 0 l)
  by_client_lem (Some k) found = on_present_lem k found (first_from is_unused 0 l)
  by_client_lem None found = on_absent_lem new (first_from is_unused 0 l)

  route_exactly : (p : List ℕ) → number_given (routed d (lent l p) m).answer ≡ lowest_failing (route_tests d l m)
  unfolding routed decided
  route_exactly p =
      let client = first_from (of_client m.address m.port) 0 l in
      let listed : route_number client (first_from is_unused 0 l) ≡ lowest_failing (route_tests d l m) = refl in
      carried-number d (lent l p) m (decided d l m) ∙ by_client_lem client refl ∙ listed

-- 3. A packet call

module _ (way : Way) (d : Director) (row p : List ℕ) (now : ℕ) (sound : sound_of d row ≡ true) where
  abbrev g : Service
  g = d.service

  abbrev earlier : Bool
  earlier = ltb now d.clock

  abbrev settled_one : Director
  settled_one = settled d (slots row) now

  abbrev left : List Slot
  left = settled_slots d (slots row) now

  -- the number that is given after what the packet says, and what 12 to 14 say of it
  abbrev number : Read → ℕ
  number s = number_given (on_seen d (lent (slots row) p) now s).answer

  abbrev later : Read → ℕ
  later s = cond earlier 11 (lowest_failing (seen_tests settled_one left s))

  on_segment : (m : Segment) → number (Ok m) ≡ later (Ok m)
  on_segment m = by_clock earlier refl
    where
      by_clock : (e : Bool) → earlier ≡ e
          → number_given (on_clock d (lent (slots row) p) m now e).answer ≡ cond e 11 (lowest_failing (route_tests settled_one left m))
      by_clock true e = refl
      by_clock false e =
          let after = sound_parts settled_one (words left) (settled_sound d row now sound (ltb-false now d.clock e)) in
          rw (slots-words left) at (route_exactly settled_one (words left) after m p)

  -- 10
  on_endpoint : (way : Way) (flags : Flags) → let s = on_way g d.servers (packet_with (header_of p) (ports_of (payload p) flags)) way in
      number s ≡ cond (is_elsewhere way g d.servers p) 10 (later s)
  on_endpoint Way.Inbound flags = by_endpoint (eqb (address_at p 16) g.address && eqb (word_at (payload p) 2) g.port)
    where
      by_endpoint : (to : Bool)
          → let s = cond to (inbound_segment (packet_with (header_of p) (ports_of (payload p) flags))) (Err Refusal.OtherEndpoint) in
          number s ≡ cond (not to) 10 (later s)
      by_endpoint true = on_segment _
      by_endpoint false = refl
  on_endpoint Way.Outbound flags = by_number (number_of d.servers (address_at p 12) (word_at (payload p) 0) g.servers)
    where
      by_number : (f : Option ServerNo) → let s = on_number (packet_with (header_of p) (ports_of (payload p) flags)) f in number s ≡ cond (is_nobody f) 10 (later s)
      by_number None = refl
      by_number (Some i) = on_segment _

  abbrev seen_of : ResultOf TransportHeader Fault → Read
  seen_of t = on_reading way g d.servers (with_transport (header_of p) t)

  abbrev past9 : Read → ℕ
  past9 s = cond (is_elsewhere way g d.servers p) 10 (later s)

  -- 9
  on_transport : let s = seen_of (read_transport g.protocol (payload p)) in number s ≡ cond (transport_malformed g.protocol (payload p)) 9 (past9 s)
  on_transport = by_tests (eqb g.protocol 6) (tcp_malformed (payload p)) (udp_malformed (payload p))
    where
      by_tests : (tcp a b : Bool)
          → let s = seen_of (cond tcp (cond a (Err Fault.MalformedTransport) (Ok (ports_of (payload p) (flags_of (get_or (payload p) 13 0))))) (cond b (Err Fault.MalformedTransport) (Ok (ports_of (payload p) no_flags)))) in
          number s ≡ cond (cond tcp a b) 9 (past9 s)
      by_tests true true b = refl
      by_tests true false b = on_endpoint way _
      by_tests false a true = refl
      by_tests false a false = on_endpoint way _

  -- 8
  on_own : (own : Bool) → let s = on_reading way g d.servers (cond (not own) (Err Fault.OtherProtocol) (read_payload g.protocol (header_of p) p)) in
      number s ≡ cond (not own) 8 (cond (transport_malformed g.protocol (payload p)) 9 (past9 s))
  on_own false = refl
  on_own true = on_transport

  -- 6, 20 and 7
  on_header_lem : (a v b : Bool)
      → let s = on_reading way g d.servers (on_header g.protocol p (cond a (Err Fault.MalformedHeader) (cond (not v) (Err Fault.BadChecksum) (cond b (Err Fault.Fragment) (Ok (header_of p)))))) in
      number s ≡ cond a 6 (cond (not v) 20 (cond b 7 (cond (not (eqb (get_or p 9 0) g.protocol)) 8 (cond (transport_malformed g.protocol (payload p)) 9 (past9 s)))))
  on_header_lem true v b = refl
  on_header_lem false false b = refl
  on_header_lem false true true = refl
  on_header_lem false true false = on_own (eqb (get_or p 9 0) g.protocol)

  sound_exactly : number_given (packet_of way d row p now).answer ≡ lowest_failing (packet_tests way d row p now)
  unfolding packet_of packet_held segment_read read_packet
  sound_exactly = rw sound (on_header_lem (broken p) (header_verifies p) (fragment p))

packet_exactly : (way : Way) (d : Director) (row p : List ℕ) (now : ℕ)
    → number_given (packet_of way d row p now).answer ≡ lowest_failing (packet_tests way d row p now)
unfolding packet_of
packet_exactly way d row p now =
    ⊎_elim (sound_exactly way d row p now) (λ (e : sound_of d row ≡ false). rw e) (truth (sound_of d row))

pub exactly : (s : State) (c : Call) → number_given (called s c).answer ≡ lowest_failing (tests s c)
exactly s (set_up g given) = setup_exactly s.director s.row g given
exactly s (set_weight k w) = weight_exactly s.director s.row k w
exactly s (count k) = count_exactly s.director s.row k
exactly s (tick now) = tick_exactly s.director s.row now
exactly s (packet way p now) = packet_exactly way s.director s.row p now
