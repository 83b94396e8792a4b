-- The numbers of refusals (SCOPE section 4), the result of a call, and a state with other servers. Assumes nothing: these are definitions.
use Rattle.std.specs.Prelude.{ℕ, Bool, true, false, not, List}
use Rattle.packet.specs.Reading.{fault_number}
use Rattle.servers.specs.declared.Server.{Server}
use Rattle.servers.specs.Servers.{lowered, raised}
use Rattle.scheduler.specs.declared.walk.Walk.{Walk}
use Rattle.table.specs.declared.slot.Slot.{Slot}
use Rattle.table.specs.Slots.{slots, words}
use Rattle.director.specs.declared.state.Director.{Director}
use Rattle.director.specs.declared.state.Refusal.{Refusal}
use Rattle.director.specs.declared.state.Answer.{Answer}
use Rattle.director.specs.declared.state.Outcome.{Outcome}

-- "Numbers given on refusal" (SCOPE section 4)
abbrev pub refusal_number : Refusal → ℕ
refusal_number Refusal.Size = 1
refusal_number Refusal.Service = 2
refusal_number Refusal.ServerUnset = 3
refusal_number Refusal.ServerRepeated = 4
refusal_number Refusal.NoServer = 5
refusal_number (Refusal.Packet fault) = fault_number fault
refusal_number Refusal.OtherEndpoint = 10
refusal_number Refusal.EarlierClock = 11
refusal_number Refusal.NoConnection = 12
refusal_number Refusal.TableFull = 13
refusal_number Refusal.NoWeight = 14
refusal_number Refusal.Unsound = 15

-- what a refusal keeps: "After 11 is passed, the clock is stored and idle connections are removed; 12, 13 and 14 keep that and change nothing
-- else." (SCOPE 5.4) All others "change nothing, the clock included." (SCOPE 5.3)
abbrev pub keeps_clock : Refusal → Bool
keeps_clock Refusal.Size = false
keeps_clock Refusal.Service = false
keeps_clock Refusal.ServerUnset = false
keeps_clock Refusal.ServerRepeated = false
keeps_clock Refusal.NoServer = false
keeps_clock (Refusal.Packet fault) = false
keeps_clock Refusal.OtherEndpoint = false
keeps_clock Refusal.EarlierClock = false
keeps_clock Refusal.NoConnection = true
keeps_clock Refusal.TableFull = true
keeps_clock Refusal.NoWeight = true
keeps_clock Refusal.Unsound = false

-- an answer after which state and row are as they were handed in
abbrev pub changes_nothing : Answer → Bool
changes_nothing Answer.Done = false
changes_nothing (Answer.Number n) = false
changes_nothing (Answer.Passed i change) = false
changes_nothing (Answer.Refused why) = not (keeps_clock why)

-- an answer that is no refusal
abbrev pub is_accepted : Answer → Bool
is_accepted Answer.Done = true
is_accepted (Answer.Number n) = true
is_accepted (Answer.Passed i change) = true
is_accepted (Answer.Refused why) = false

-- the state with other servers, of the same weights, and another walk: "every other call leaves them as they are" (SCOPE 3.5)
abbrev pub with_servers : Director → List Server → Walk → Director
with_servers d servers walk = record { service = d.service; servers = servers; weights = d.weights; walk = walk; clock = d.clock }

-- the state with one connection less on server i
abbrev pub with_one_less : Director → ℕ → Director
with_one_less d i = with_servers d (lowered d.servers i) d.walk

-- the state with one connection more on server i, and another walk
abbrev pub with_one_more : Director → ℕ → Walk → Director
with_one_more d i walk = with_servers d (raised d.servers i) walk

-- what a call is lent: the connection table, and the packet (none in a call that takes none)
pub record Lent (T : Type 0) : Type 0 where
  pub table : T
  pub packet : List ℕ

abbrev pub lent : {T : Type 0} → T → List ℕ → Lent T
lent table packet = record { table = table; packet = packet }

-- the same with another table, or with another packet
abbrev pub with_table : {T U : Type 0} → Lent T → U → Lent U
with_table x table = record { table = table; packet = x.packet }

abbrev pub with_packet : {T : Type 0} → Lent T → List ℕ → Lent T
with_packet x packet = record { table = x.table; packet = packet }

-- everything that a call settles: its answer, the state, and what it was lent as it leaves that
pub record Settles (T : Type 0) : Type 0 where
  pub answer : Answer
  pub director : Director
  pub lent : Lent T

-- a public call is lent the table as a row of words
abbrev pub Result : Type 0
Result = Settles (List ℕ)

-- a call of a sound state works on its slots
abbrev pub Held : Type 0
Held = Settles (List Slot)

-- an answer, with the state, the row and the packet at a function's exit
abbrev pub left_with : Answer → Director → (row packet : List ℕ) → Result
left_with answer d row packet = record { answer = answer; director = d; lent = lent row packet }

-- what a function gives back, with the row and the packet at its exit
abbrev pub result_of : Outcome → (row packet : List ℕ) → Result
result_of o row packet = left_with o.answer o.director row packet

abbrev pub in_slots : Lent (List ℕ) → Lent (List Slot)
in_slots x = with_table x (slots x.table)

abbrev pub in_words : Held → Result
in_words h = record { answer = h.answer; director = h.director; lent = with_table h.lent (words h.lent.table) }

-- "A refusal's answer is its number alone; the state comes back beside it." (SCOPE 5.5)
abbrev pub refused_by : Refusal → Director → Outcome
refused_by why d = record { answer = Answer.Refused why; director = d }

-- a refusal that leaves this state and what was lent
abbrev pub refusal : {T : Type 0} → Refusal → Director → Lent T → Settles T
refusal why d x = record { answer = Answer.Refused why; director = d; lent = x }
