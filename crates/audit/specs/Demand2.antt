-- Demand 2 (SCOPE 13.2): who is picked, and what rewriting makes of a packet; of every packet call. Assumes nothing: these are definitions.
use Rattle.std.specs.Prelude.{ℕ, Bool, false, cond, List, ◌≡◌, get_or, take, drop, Ok, Some, None, Option}
use Rattle.checksum.specs.Ones.{Bytes}
use Rattle.packet.specs.declared.read.Packet.{Packet}
use Rattle.packet.specs.declared.redirect.Side.{Side}
use Rattle.packet.specs.Bytes.{total_length}
use Rattle.packet.specs.Reading.{read_packet}
use Rattle.packet.specs.Laws.{VerifiesExactly, LeavesFresh, Kept, SameUpToTotal, with_side}
use Rattle.servers.specs.declared.Server.{Server}
use Rattle.servers.specs.declared.ServerNo.{ServerNo}
use Rattle.servers.specs.Servers.{server_at, lowered}
use Rattle.scheduler.specs.Laws.{Published}
use Rattle.table.specs.declared.slot.Slot.{Slot}
use Rattle.table.specs.declared.slot.SlotNo.{SlotNo}
use Rattle.table.specs.Slots.{slots, free_slot}
use Rattle.table.specs.Find.{of_client, first_from}
use Rattle.director.specs.declared.state.Director.{Director}
use Rattle.director.specs.declared.state.Change.{Change}
use Rattle.director.specs.declared.state.Answer.{Answer}
use Rattle.director.specs.declared.state.Way.{Way}
use Rattle.director.specs.declared.segment.Segment.{Segment}
use Rattle.director.specs.State.{Result}
use Rattle.director.specs.Tick.{settled, settled_slots}
use Rattle.director.specs.Segment.{segment_read}
use Rattle.director.specs.Decide.{renews}
use Rattle.director.specs.Packets.{packet_of}
use Rattle.audit.specs.Calls.{EndsFit}
use Rattle.audit.specs.Claim.{is_opened}

-- 1. Rewriting

-- "Inbound rewriting sets destination address and port to the server's. Outbound sets source address and port to the virtual ones." (SCOPE 7.4)
abbrev pub side_set : Way → Side
side_set Way.Inbound = Side.Destination
side_set Way.Outbound = Side.Source

abbrev pub address_set : Way → Director → ℕ → ℕ
address_set Way.Inbound d k = (server_at d.servers k).address
address_set Way.Outbound d k = d.service.address

abbrev pub port_set : Way → Director → ℕ → ℕ
port_set Way.Inbound d k = (server_at d.servers k).port
port_set Way.Outbound d k = d.service.port

-- an accepted packet p of server k, that left as q
pub record Rewritten (way : Way) (d : Director) (k : ℕ) (p q : List ℕ) : Type 0 where
  -- it was read, and is read again with that address and port, and all else as it was
  pub read_in : Packet
  pub as_in : read_packet d.service.protocol p ≡ Ok read_in
  pub as_out : read_packet d.service.protocol q ≡ Ok (with_side (side_set way) (address_set way d k) (port_set way d k) read_in)
  -- "A valid checksum leaves as a fresh calculation would give it." (SCOPE 7.8)
  pub fresh : LeavesFresh d.service.protocol p q
  -- "the outgoing one verifies exactly if the incoming one did (UDP 0 apart)" (SCOPE 7.7)
  pub exact : VerifiesExactly d.service.protocol p q
  -- no byte is written but that address, that port and the two checksums (SCOPE 7.4, 7.5)
  pub kept : Kept d.service.protocol (side_set way) p q

-- two results that are alike in all but the packet's bytes past a place
pub record Alike (total : ℕ) (r r' : Result) : Type 0 where
  pub answer : r'.answer ≡ r.answer
  pub director : r'.director ≡ r.director
  pub row : r'.lent.table ≡ r.lent.table
  pub packet : take total r'.lent.packet ≡ take total r.lent.packet

-- 2. Picking

-- the answer tells of an opening
abbrev pub opens : Answer → Bool
opens Answer.Done = false
opens (Answer.Number n) = false
opens (Answer.Passed i change) = is_opened change
opens (Answer.Refused why) = false

-- given the lowest slot of a packet's client: the servers that the pick sees. "The pick sees the count after the old one is taken off" (SCOPE 8.17)
abbrev pub at_pick : Director → List Slot → Segment → Option SlotNo → List Server
at_pick d l m None = d.servers
at_pick d l m (Some k) = let s = get_or l k.0 free_slot in cond (renews m s.phase) (lowered d.servers s.server.0) d.servers

-- in a state d and its slots, with the clock stored and the idle connections removed
abbrev pub seen_by_pick : Director → List Slot → Segment → List Server
seen_by_pick d l m = at_pick d l m (first_from (of_client m.address m.port) 0 l)

-- 3. The claim

-- of the result r of a packet call in the state d and its row
pub record ResultClaim (way : Way) (d : Director) (row p : List ℕ) (now : ℕ) (r : Result) : Type 0 where
  pub rewritten : (i : ServerNo) (change : Change) → r.answer ≡ Answer.Passed i change → Rewritten way d i.0 p r.lent.packet
  -- an opening goes to the pick, from the counts that are left once the idle connections and the one that the packet renews are removed
  pub picked : (i : ServerNo) (m : Segment) → r.answer ≡ Answer.Passed i Change.Opened → segment_read way d.service d.servers p ≡ Ok m
      → let servers = seen_by_pick (settled d (slots row) now) (settled_slots d (slots row) now) m in
      Published d.service.scheduler servers d.service.servers d.walk i r.director.walk
  -- "the walk moves in an opening only" (SCOPE 10.2)
  pub unmoved : opens r.answer ≡ false → r.director.walk ≡ d.walk
  -- bytes past the total length stay, whatever the answer (SCOPE 7.3)
  pub unwritten : drop (total_length p) r.lent.packet ≡ drop (total_length p) p

-- of a packet call that gives these results, by its packet
pub record PacketCallClaim (way : Way) (d : Director) (row : List ℕ) (now : ℕ) (results : List ℕ → Result) (p : List ℕ) : Type 0 where
  pub result : ResultClaim way d row p now (results p)
  -- "Bytes past the total length are neither read nor written." (SCOPE 7.3): they decide nothing
  pub unread : (p' : List ℕ) → Bytes p' → SameUpToTotal p p' → Alike (total_length p) (results p) (results p')

-- Demand 2: of every packet call, whatever state, row, packet and clock it is handed
abbrev pub Demand2 : Type 0
Demand2 =
    (way : Way) (d : Director) (row p : List ℕ) (now : ℕ) → EndsFit d.service d.servers → Bytes p
    → PacketCallClaim way d row now (λ x. packet_of way d row x now) p
