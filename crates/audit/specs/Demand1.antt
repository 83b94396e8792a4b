-- Demand 1 (SCOPE 13.1): which refusal a call gives, exactly, and what a refused call leaves; of every state, row and packet, sound or not.
-- Assumes nothing: these are definitions.
use Rattle.std.specs.Prelude.{ℕ, ◌≤◌, Bool, true, false, cond, not, ◌&&◌, ◌||◌, List, [], ◌∷◌, ◌≡◌, eqb, ltb, get_or, Ok, Err, Some, None, Option}
use Rattle.checksum.specs.Ones.{word_at}
use Rattle.packet.specs.Bytes.{address_at, payload}
use Rattle.packet.specs.Reading.{broken, header_verifies, fragment, tcp_malformed, udp_malformed}
use Rattle.servers.specs.declared.Server.{Server}
use Rattle.servers.specs.declared.rules.Rule.{Rule}
use Rattle.servers.specs.Rules.{all_keep, is_nobody, number_of}
use Rattle.scheduler.specs.Weights.{no_weight}
use Rattle.table.specs.declared.slot.Slot.{Slot}
use Rattle.table.specs.declared.slot.SlotNo.{SlotNo}
use Rattle.table.specs.Slots.{slots, words, free_slot, is_unused}
use Rattle.table.specs.Find.{of_client, first_from}
use Rattle.director.specs.declared.state.Service.{Service}
use Rattle.director.specs.declared.state.Director.{Director}
use Rattle.director.specs.declared.state.Answer.{Answer}
use Rattle.director.specs.declared.state.Way.{Way}
use Rattle.director.specs.declared.segment.Segment.{Segment}
use Rattle.director.specs.Segment.{Read, segment_read}
use Rattle.director.specs.State.{lent, Result, refusal_number}
use Rattle.director.specs.Judge.{sizes_right, service_right, sound_of}
use Rattle.director.specs.Tick.{settled, settled_slots}
use Rattle.director.specs.Decide.{opens, renews}
use Rattle.director.specs.Laws.{is_its}
use Rattle.audit.specs.Calls.{Call, set_up, set_weight, count, tick, packet, Fits, packet_in, State, called}

-- 1. The tests of a call, in their order

-- a test, and the number that is given where it fails
pub record Test : Type 0 where
  pub number : ℕ
  pub fails : Bool

abbrev pub given : ℕ → Bool → Test
given number fails = record { number = number; fails = fails }

-- "The lowest-placed failing test in that order answers." (SCOPE 5.2); 0 where none fails
abbrev pub lowest_failing : List Test → ℕ
lowest_failing [] = 0
lowest_failing (t ∷ ts) = cond t.fails t.number (lowest_failing ts)

-- "setup 1, 2, 3, 4" (SCOPE 5.1)
abbrev pub setup_tests : List ℕ → Service → List Server → List Test
setup_tests row g servers =
    given 1 (not (sizes_right g.servers row))
    ∷ given 2 (not (service_right g))
    ∷ given 3 (not (all_keep Rule.Set servers g.servers))
    ∷ given 4 (not (all_keep Rule.New servers g.servers))
    ∷ []

-- "Weight and count 15, 5" (SCOPE 5.1)
abbrev pub number_tests : Director → List ℕ → ℕ → List Test
number_tests d row k = given 15 (not (sound_of d row)) ∷ given 5 (not (ltb k d.service.servers)) ∷ []

-- "Tick 15, 11" (SCOPE 5.1)
abbrev pub tick_tests : Director → List ℕ → ℕ → List Test
tick_tests d row now = given 15 (not (sound_of d row)) ∷ given 11 (ltb now d.clock) ∷ []

-- 9: the transport part is malformed (SCOPE 4.9)
abbrev pub transport_malformed : ℕ → List ℕ → Bool
transport_malformed protocol t = cond (eqb protocol 6) (tcp_malformed t) (udp_malformed t)

-- 10: "inbound: destination is not the virtual address and port. Outbound: source is no server's address and port" (SCOPE 4.10)
abbrev pub is_elsewhere : Way → Service → List Server → List ℕ → Bool
is_elsewhere Way.Inbound g servers p = not (eqb (address_at p 16) g.address && eqb (word_at (payload p) 2) g.port)
is_elsewhere Way.Outbound g servers p = is_nobody (number_of servers (address_at p 12) (word_at (payload p) 0) g.servers)

-- was a slot found?
abbrev pub is_present : Option SlotNo → Bool
is_present None = false
is_present (Some k) = true

-- given the lowest slot of a packet's client: does the packet renew the connection in it (SCOPE 8.16)?
abbrev pub is_renewal : List Slot → Segment → Option SlotNo → Bool
is_renewal l m None = false
is_renewal l m (Some k) = renews m (get_or l k.0 free_slot).phase

-- 12 to 14, in a state whose clock is stored and whose idle connections are gone; the lowest slot of the client is its connection's (SCOPE 6.7)
abbrev pub route_tests : Director → List Slot → Segment → List Test
route_tests d l m =
    let client = first_from (of_client m.address m.port) 0 l in
    let would_open = not (is_present client) && opens d.service.protocol m in
    given 12 (not (is_its l m client) && not (opens d.service.protocol m))
    ∷ given 13 (would_open && not (is_present (first_from is_unused 0 l)))
    ∷ given 14 ((would_open || is_renewal l m client) && no_weight d.servers d.service.servers)
    ∷ []

-- a packet that one of 6 to 10 and 20 refuses says nothing of a connection
abbrev pub seen_tests : Director → List Slot → Read → List Test
seen_tests d l (Err why) = []
seen_tests d l (Ok m) = route_tests d l m

-- "Packets 15, 6, 20, 7 to 11, then 12 to 14." (SCOPE 5.1)
abbrev pub packet_tests : Way → Director → List ℕ → List ℕ → ℕ → List Test
packet_tests way d row p now =
    given 15 (not (sound_of d row))
    ∷ given 6 (broken p)
    ∷ given 20 (not (header_verifies p))
    ∷ given 7 (fragment p)
    ∷ given 8 (not (eqb (get_or p 9 0) d.service.protocol))
    ∷ given 9 (transport_malformed d.service.protocol (payload p))
    ∷ given 10 (is_elsewhere way d.service d.servers p)
    ∷ given 11 (ltb now d.clock)
    ∷ seen_tests (settled d (slots row) now) (settled_slots d (slots row) now) (segment_read way d.service d.servers p)

abbrev pub tests : State → Call → List Test
tests s (set_up g servers) = setup_tests s.row g servers
tests s (set_weight k w) = number_tests s.director s.row k
tests s (count k) = number_tests s.director s.row k
tests s (tick now) = tick_tests s.director s.row now
tests s (packet way p now) = packet_tests way s.director s.row p now

-- 2. What a refused call leaves

-- the number that an answer gives on refusal, and 0 for an accepted call
abbrev pub number_given : Answer → ℕ
number_given Answer.Done = 0
number_given (Answer.Number n) = 0
number_given (Answer.Passed i change) = 0
number_given (Answer.Refused why) = refusal_number why

-- exactly this state, this row and this packet
pub record Left (s : State) (p : List ℕ) (r : Result) : Type 0 where
  pub director : r.director ≡ s.director
  pub lent : r.lent ≡ lent s.row p

-- "the clock is stored and idle connections are removed" (SCOPE 5.4)
abbrev pub settled_at : State → ℕ → State
settled_at s now = record {
  director = settled s.director (slots s.row) now;
  row = words (settled_slots s.director (slots s.row) now);
}

-- 12 to 14 leave that, and the packet; no call but a packet call gives them
abbrev pub LeftSettled : State → Call → Result → Type 0
LeftSettled s (set_up g servers) r = ⊥
LeftSettled s (set_weight k w) r = ⊥
LeftSettled s (count k) r = ⊥
LeftSettled s (tick now) r = ⊥
LeftSettled s (packet way p now) r = Left (settled_at s now) p r

pub record RefusalClaim (s : State) (c : Call) (r : Result) : Type 0 where
  -- each refusal in exactly its case (SCOPE section 4), in the order of SCOPE 5.1; 0: accepted exactly where no test fails
  pub exactly : number_given r.answer ≡ lowest_failing (tests s c)
  -- "Numbers 1 to 11, 15 and 20 change nothing, the clock included." (SCOPE 5.3)
  pub to11 : (n : ℕ) → 1 ≤ n → n ≤ 11 → number_given r.answer ≡ n → Left s (packet_in c) r
  pub at15 : number_given r.answer ≡ 15 → Left s (packet_in c) r
  pub at20 : number_given r.answer ≡ 20 → Left s (packet_in c) r
  -- "12, 13 and 14 keep that and change nothing else" (SCOPE 5.4)
  pub to14 : (n : ℕ) → 12 ≤ n → n ≤ 14 → number_given r.answer ≡ n → LeftSettled s c r

-- Demand 1: of each of the six calls, whatever state, row, packet bytes, clock and numbers it is handed
abbrev pub Demand1 : Type 0
Demand1 = (s : State) (c : Call) → Fits c → RefusalClaim s c (called s c)
