-- Demand 3 (SCOPE 13.3): one claim about every list of calls that begins with an accepted setup. Assumes nothing: these are definitions.
use Rattle.std.specs.Prelude.{ℕ, ◌+◌, ◌<◌, ◌≤◌, Bool, true, false, not, ◌&&◌, List, [], ◌∷◌, ◌≡◌, eqb, ltb, Ok, Err}
use Rattle.lists.specs.Tests.{count_of, keep}
use Rattle.servers.specs.Servers.{server_at, count_at, total_count}
use Rattle.packet.specs.declared.read.Packet.{Packet}
use Rattle.packet.specs.Reading.{read_packet}
use Rattle.servers.specs.declared.Server.{Server}
use Rattle.director.specs.declared.state.Service.{Service}
use Rattle.director.specs.declared.state.Change.{Change}
use Rattle.director.specs.declared.state.Answer.{Answer}
use Rattle.director.specs.declared.state.Way.{Way}
use Rattle.director.specs.declared.segment.Segment.{Segment}
use Rattle.director.specs.Segment.{Read, segment_read}
use Rattle.director.specs.State.{Result, refusal_number}
use Rattle.director.specs.Decide.{opens, belongs}
use Rattle.audit.specs.Calls.{Call, set_up, set_weight, count, tick, packet, Fits, AllFit, State, called, after, record_of}
use Rattle.audit.specs.Book.{Entry, Book, of_client, names, is_struck, struck, book_of}

-- the answer is the refusal of that number
abbrev pub refused : ℕ → Answer → Bool
refused n Answer.Done = false
refused n (Answer.Number x) = false
refused n (Answer.Passed i change) = false
refused n (Answer.Refused why) = eqb (refusal_number why) n

-- "an accepted count call answers that number" (SCOPE 9.12): an answer that is a number is x
abbrev pub Numbered : Answer → ℕ → Type 0
Numbered Answer.Done x = ⊥
Numbered (Answer.Number n) x = n ≡ x
Numbered (Answer.Passed i change) x = ⊥
Numbered (Answer.Refused why) x = Unit {0}

-- "opened" and "ended"
abbrev pub is_opened : Change → Bool
is_opened Change.Opened = true
is_opened Change.Kept = false
is_opened Change.Ended = false

abbrev pub is_ended : Change → Bool
is_ended Change.Opened = false
is_ended Change.Kept = false
is_ended Change.Ended = true

-- a packet p that left as q goes between the client of m and server k of the settings. "Accepted inbound packets leave with their client as
-- source and, as destination, the answered server's address and port from setup; outbound ones came from there and leave for their client." (SCOPE 9.17)
pub record Inbound (b : Book) (m : Segment) (k : ℕ) (q : Packet) : Type 0 where
  pub from_address : q.source ≡ m.address
  pub from_port : q.transport.source ≡ m.port
  pub to_address : q.destination ≡ (server_at b.servers k).address
  pub to_port : q.transport.destination ≡ (server_at b.servers k).port

pub record Outbound (b : Book) (m : Segment) (k : ℕ) (p q : Packet) : Type 0 where
  pub came_address : p.source ≡ (server_at b.servers k).address
  pub came_port : p.transport.source ≡ (server_at b.servers k).port
  pub to_address : q.destination ≡ m.address
  pub to_port : q.transport.destination ≡ m.port

abbrev pub Between : Way → Book → Segment → ℕ → Packet → Packet → Type 0
Between Way.Inbound b m k p q = Inbound b m k q
Between Way.Outbound b m k p q = Outbound b m k p q

-- the bytes that were handed in and those that left, as they are read
pub record Goes (way : Way) (b : Book) (m : Segment) (k : ℕ) (p q : List ℕ) : Type 0 where
  pub read_in : Packet
  pub read_out : Packet
  pub as_in : read_packet b.service.protocol p ≡ Ok read_in
  pub as_out : read_packet b.service.protocol q ≡ Ok read_out
  pub between : Between way b m k read_in read_out

-- of an accepted packet; the idle entries of b are struck
pub record PassedClaim (way : Way) (b : Book) (m : Segment) (p : List ℕ) (k : ℕ) (change : Change) (q : List ℕ) : Type 0 where
  -- "An accepted packet that doesn't open finds its client's entry .., and its answer names the entry's server." (SCOPE 9.14)
  pub found : is_opened change ≡ false → (e : Entry) × (keep (of_client m.address m.port) b.entries ≡ e ∷ []) × (e.server ≡ k)
  -- "An accepted packet is answered "ended" exactly when it is TCP with RST set." (SCOPE 9.15)
  pub ended : is_ended change ≡ eqb b.service.protocol 6 && m.flags.rst
  -- "the answered server" (SCOPE 9.17) is one of setup's
  pub exists : k < b.service.servers
  pub goes : Goes way b m k p q

abbrev pub Passed : Way → Book → Segment → List ℕ → Answer → List ℕ → Type 0
Passed way b m p Answer.Done q = ⊥
Passed way b m p (Answer.Number n) q = ⊥
Passed way b m p (Answer.Passed i change) q = PassedClaim way b m p i.0 change q
Passed way b m p (Answer.Refused why) q = Unit {0}

-- an entry of the connection that a packet belongs to
abbrev pub mine : Segment → Entry → Bool
mine m e = of_client m.address m.port e && belongs m.sender (record { 0 = e.server })

-- "no connection the packet belongs to, and it opens none" (SCOPE 4.12)
abbrev pub is_stray : Book → Segment → Bool
is_stray b m = eqb (count_of (mine m) b.entries) 0 && not (opens b.service.protocol m)

-- of a packet call where 6 to 10 and 20 are passed. "Where the order comes to them, 11 and 12 fall exactly where the table puts them, read with the
-- book's clock and, once the idle ones are struck, its entries." (SCOPE 9.16)
pub record SegmentClaim (way : Way) (b : Book) (p : List ℕ) (now : ℕ) (m : Segment) (r : Result) : Type 0 where
  pub earlier : refused 11 r.answer ≡ ltb now b.clock
  pub stray : ltb now b.clock ≡ false → refused 12 r.answer ≡ is_stray (struck b now) m
  pub passed : Passed way (struck b now) m p r.answer r.lent.packet

-- a packet that one of 6 to 10 and 20 refuses gets that refusal, and leaves as it came
abbrev pub PacketClaim : Way → Book → List ℕ → ℕ → Result → Read → Type 0
PacketClaim way b p now r (Err why) = (r.answer ≡ Answer.Refused why) × (r.lent.packet ≡ p)
PacketClaim way b p now r (Ok m) = SegmentClaim way b p now m r

-- of a tick: the number of entries that it struck, "which is the fall of the sum of all counts in that call" (SCOPE 8.14)
pub record TickClaim (s : State) (b : Book) (now : ℕ) (r : Result) : Type 0 where
  pub earlier : refused 11 r.answer ≡ ltb now b.clock
  pub number : Numbered r.answer (count_of (is_struck b.service.protocol now) b.entries)
  pub fall : (n : ℕ) → r.answer ≡ Answer.Number n → total_count r.director.servers + n ≡ total_count s.director.servers

-- of any call, in a state s whose book is b
abbrev pub CallClaim : State → Book → Call → Result → Type 0
CallClaim s b (set_up g given) r = Unit {0}
CallClaim s b (set_weight k w) r = Unit {0}
CallClaim s b (count k) r = Numbered r.answer (count_of (names k) b.entries)
CallClaim s b (tick now) r = TickClaim s b now r
CallClaim s b (packet way p now) r = PacketClaim way b p now r (segment_read way b.service b.servers p)

-- what holds after every call of a list, of the state and of the book of the record; and of whatever call comes next
pub record Claim (s : State) (b : Book) : Type 0 where
  -- "a server's count is the number of entries naming it" (SCOPE 9.10)
  pub counts : (k : ℕ) → k < b.service.servers → count_at s.director.servers k ≡ count_of (names k) b.entries
  -- "no client has two entries" (SCOPE 9.11)
  pub once : (address port : ℕ) → count_of (of_client address port) b.entries ≤ 1
  -- "No state that an accepted setup and the calls after it have made ever receives 15." (SCOPE 6.8)
  pub never15 : (c : Call) → refused 15 (called s c).answer ≡ false
  pub calls : (c : Call) → Fits c → CallClaim s b c (called s c)

-- Demand 3: whatever state and row the accepted setup was handed, after it and any calls, refused ones and further setups included, the claim
-- holds of the state that they leave and of the book of their record. A list's beginnings are lists too: so it holds "after each call" (SCOPE 9.10).
abbrev pub Demand3 : Type 0
Demand3 =
    (s : State) (b : Book) (g : Service) (given : List Server) (cs : List Call)
    → Fits (set_up g given) → AllFit cs → (called s (set_up g given)).answer ≡ Answer.Done
    → Claim (after s (set_up g given ∷ cs)) (book_of b (record_of s (set_up g given ∷ cs)))
