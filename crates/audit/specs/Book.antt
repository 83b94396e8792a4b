-- The book (SCOPE section 9), worked out from the record of calls and answers alone. Assumes nothing: these are definitions.
use Rattle.std.specs.Prelude.{ℕ, ◌-◌, Bool, true, false, cond, not, ◌&&◌, ◌||◌, List, [], ◌∷◌, map, eqb, leb, Ok, Err}
use Rattle.lists.specs.Tests.{keep}
use Rattle.servers.specs.declared.Server.{Server}
use Rattle.director.specs.declared.state.Service.{Service}
use Rattle.director.specs.declared.state.Change.{Change}
use Rattle.director.specs.declared.state.Answer.{Answer}
use Rattle.director.specs.declared.segment.Sender.{Sender}
use Rattle.director.specs.declared.segment.Segment.{Segment}
use Rattle.director.specs.Segment.{Read, segment_read}
use Rattle.director.specs.State.{refusal_number}
use Rattle.director.specs.Decide.{opens}
use Rattle.audit.specs.Calls.{Call, set_up, set_weight, count, tick, packet, Line}

-- "An entry is a connection: client address and port, server number, which of the two have finished (sent FIN), last second." (SCOPE 9.3)
pub record Entry : Type 0 where
  pub address : ℕ
  pub port : ℕ
  pub server : ℕ
  pub client_done : Bool
  pub server_done : Bool
  pub last : ℕ

-- "It holds the latest accepted settings, a clock and entries." (SCOPE 9.2)
pub record Book : Type 0 where
  pub service : Service
  pub servers : List Server
  pub clock : ℕ
  pub entries : List Entry

-- the entry is of the packet's client
abbrev pub of_client : (address port : ℕ) → Entry → Bool
of_client address port e = eqb e.address address && eqb e.port port

-- the entry names server k
abbrev pub names : ℕ → Entry → Bool
names k e = eqb e.server k

-- "at or above 300 (UDP), 900 (TCP) or 120 (TCP, both finished)" (SCOPE 9.5)
abbrev pub limit : ℕ → Bool → ℕ
limit protocol both_done = cond (eqb protocol 17) 300 (cond both_done 120 900)

-- the entry is struck at a clock
abbrev pub is_struck : (protocol now : ℕ) → Entry → Bool
is_struck protocol now e = leb (limit protocol (e.client_done && e.server_done)) (now - e.last)

-- "the clock becomes it. Then each entry is struck for which clock less last second is at or above" (SCOPE 9.5) its limit
abbrev pub struck : Book → ℕ → Book
struck b now = record {
  service = b.service;
  servers = b.servers;
  clock = now;
  entries = keep (λ e. not (is_struck b.service.protocol now e)) b.entries;
}

abbrev pub with_entries : Book → List Entry → Book
with_entries b es = record { service = b.service; servers = b.servers; clock = b.clock; entries = es }

-- the sender is the client
abbrev pub by_client : Sender → Bool
by_client Sender.Client = true
by_client (Sender.Server i) = false

-- "Opened" "adds an entry: its client, the answer's server, none finished, last second the clock" (SCOPE 9.6)
abbrev pub new_entry : Segment → (k now : ℕ) → Entry
new_entry m k now = record { address = m.address; port = m.port; server = k; client_done = false; server_done = false; last = now }

-- "Kept": "the clock as last second, and a TCP FIN marks its sender finished" (SCOPE 9.7; UDP has no flags)
abbrev pub marked : Segment → ℕ → Entry → Entry
marked m now e = record {
  address = e.address;
  port = e.port;
  server = e.server;
  client_done = e.client_done || (m.flags.fin && by_client m.sender);
  server_done = e.server_done || (m.flags.fin && not (by_client m.sender));
  last = now;
}

-- the entry that a packet answered "opened" strikes: "for such a packet .., and no other, .. the client's entry, if both have finished" (SCOPE 9.21);
-- such a packet is "with SYN set and ACK, RST, FIN clear" (SCOPE 8.16) and a client's: one that opens in TCP, 6
abbrev pub is_renewed : Segment → Entry → Bool
is_renewed m e = opens 6 m && (of_client m.address m.port e && (e.client_done && e.server_done))

-- its client's entry changed, and no other
abbrev pub on_client : Segment → (Entry → Entry) → Entry → Entry
on_client m f e = cond (of_client m.address m.port e) (f e) e

-- an accepted packet, in a book that is at its clock
abbrev pub entered : Book → Segment → ℕ → Change → Book
entered b m k Change.Opened = with_entries b (new_entry m k b.clock ∷ keep (λ e. not (is_renewed m e)) b.entries)
entered b m k Change.Kept = with_entries b (map (on_client m (marked m b.clock)) b.entries)
entered b m k Change.Ended = with_entries b (keep (λ e. not (of_client m.address m.port e)) b.entries)

-- "An accepted clock is one handed to a tick or packet call that got past 11 .., also where the answer is then 12, 13 or 14." (SCOPE 2.9)
abbrev pub clock_kept : List ℕ
clock_kept = 12 ∷ 13 ∷ 14 ∷ []

-- the number is in the list
abbrev pub has : ℕ → List ℕ → Bool
has n [] = false
has n (k ∷ ks) = eqb n k || has n ks

abbrev pub keeps_clock : ℕ → Bool
keeps_clock n = has n clock_kept

-- the answer of a tick or packet call shows that its clock is accepted
abbrev pub clock_accepted : Answer → Bool
clock_accepted Answer.Done = false
clock_accepted (Answer.Number n) = true
clock_accepted (Answer.Passed i change) = true
clock_accepted (Answer.Refused why) = keeps_clock (refusal_number why)

abbrev pub timed : Book → ℕ → Answer → Book
timed b now a = cond (clock_accepted a) (struck b now) b

-- what the answer says of the packet's connection
abbrev pub note_answer : Book → Segment → Answer → Book
note_answer b m Answer.Done = b
note_answer b m (Answer.Number n) = b
note_answer b m (Answer.Passed i change) = entered b m i.0 change
note_answer b m (Answer.Refused why) = b

-- what the packet says, read with the book's settings
abbrev pub note_seen : Book → Answer → Read → Book
note_seen b a (Err why) = b
note_seen b a (Ok m) = note_answer b m a

-- "Accepted setup: its settings, clock 0, no entries." (SCOPE 9.4)
abbrev pub note_setup : Book → Service → List Server → Answer → Book
note_setup b g given Answer.Done = record { service = g; servers = given; clock = 0; entries = [] }
note_setup b g given (Answer.Number n) = b
note_setup b g given (Answer.Passed i change) = b
note_setup b g given (Answer.Refused why) = b

-- the book after one call and its answer: "All else, each other refusal included, changes nothing." (SCOPE 9.9)
abbrev pub note : Book → Call → Answer → Book
note b (set_up g given) a = note_setup b g given a
note b (set_weight k w) a = b
note b (count k) a = b
note b (tick now) a = timed b now a
note b (packet way p now) a = note_seen (timed b now a) a (segment_read way b.service b.servers p)

-- the book of a record
abbrev pub book_of : Book → List Line → Book
book_of b [] = b
book_of b (l ∷ ls) = book_of (note b l.call l.answer) ls
