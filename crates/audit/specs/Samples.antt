-- States, packets and calls for the computed tables. Assumes nothing: these are definitions.
use Rattle.std.specs.Prelude.{ℕ, ◌+◌, ◌-◌, ◌*◌, ◌/◌, ◌%◌, List, [], ◌∷◌, ◌++◌, length, replicate}
use Rattle.servers.specs.declared.Server.{Server}
use Rattle.servers.specs.Servers.{unused}
use Rattle.scheduler.specs.declared.weights.Weights.{Weights}
use Rattle.scheduler.specs.declared.walk.Walk.{Walk}
use Rattle.scheduler.specs.Weights.{weights_of}
use Rattle.scheduler.specs.ByNumber.{start_of}
use Rattle.table.specs.declared.slot.Slot.{Slot}
use Rattle.table.specs.Slots.{slot_of, free_slot, words}
use Rattle.director.specs.declared.state.Service.{Service}
use Rattle.director.specs.declared.state.Way.{Way}
use Rattle.audit.specs.Calls.{Call, packet, State}

-- States

abbrev pub server_of : (address port weight count : ℕ) → Server
server_of address port weight count = record { address = address; port = port; weight = weight; count = count }

-- P11's service, 192.0.2.10:5432
abbrev pub service_of : (protocol scheduler servers : ℕ) → Service
service_of protocol scheduler servers =
    record { address = 0xC000020A; port = 5432; protocol = protocol; scheduler = scheduler; servers = servers }

-- the array of 64: "Places past the last server are zeros." (SCOPE 2.3)
abbrev pub array : List Server → List Server
array servers = servers ++ replicate (64 - length servers) unused

-- 10.1.0.5:6432, P11's server, and 10.1.0.6:6433
abbrev pub two_servers : (weight0 count0 weight1 count1 : ℕ) → List Server
two_servers weight0 count0 weight1 count1 = array (server_of 0x0A010005 6432 weight0 count0 ∷ server_of 0x0A010006 6433 weight1 count1 ∷ [])

-- with what it holds of the weights
abbrev pub state_holding : Weights → Service → List Server → Walk → ℕ → List ℕ → State
state_holding held service servers walk clock row =
    record { director = record { service = service; servers = servers; weights = held; walk = walk; clock = clock }; row = row }

-- holding what the weights give
abbrev pub state_of : Service → List Server → Walk → ℕ → List ℕ → State
state_of service servers walk clock row = state_holding (weights_of servers service.servers) service servers walk clock row

-- a state that is not sound, over a row of that many words
abbrev pub unsound : (words : ℕ) → State
unsound words = state_of (service_of 6 1 2) (replicate 64 unused) (start_of 1 2) 99 (replicate words 7)

-- slots beside servers under round-robin; the clock is 100
abbrev pub state_with : (protocol : ℕ) → List Server → List Slot → State
state_with protocol servers slots = state_of (service_of protocol 1 2) servers (start_of 1 2) 100 (words slots)

-- a connection of 10.0.0.1, P11's client
abbrev pub connection : (phase port server seen : ℕ) → Slot
connection phase port server seen = slot_of phase 0x0A000001 port server seen

-- no connection, and a slot; the clock is 100
abbrev pub no_connection : (protocol scheduler weight0 weight1 : ℕ) → State
no_connection protocol scheduler weight0 weight1 =
    state_of (service_of protocol scheduler 2) (two_servers weight0 0 weight1 0) (start_of scheduler 2) 100 (words (free_slot ∷ []))

-- one connection, of 10.0.0.1:40000 with server 0, last seen at the clock 100; then free slots
abbrev pub one_connection : (protocol phase : ℕ) → List Slot → State
one_connection protocol phase free = state_with protocol (two_servers 1 1 1 0) (connection phase 40000 0 100 ∷ free)

-- the same connection and no other slot, where every weight is 0
abbrev pub weightless : (phase : ℕ) → State
weightless phase = state_with 6 (two_servers 0 1 0 0) (connection phase 40000 0 100 ∷ [])

-- Packets

-- the bytes of 32-bit words, highest byte first, so that packets read as in SCOPE
abbrev pub bytes : List ℕ → List ℕ
bytes [] = []
bytes (w ∷ ws) = (w / 16777216) ∷ (w / 65536 % 256) ∷ (w / 256 % 256) ∷ (w % 256) ∷ bytes ws

-- the flags of TCP as bits of their byte (RFC 9293, section 3.1)
abbrev pub fin : ℕ
fin = 0x01

abbrev pub syn : ℕ
syn = 0x02

abbrev pub rst : ℕ
rst = 0x04

abbrev pub ack : ℕ
ack = 0x10

abbrev pub fin_ack : ℕ
fin_ack = 0x11

abbrev pub syn_ack : ℕ
syn_ack = 0x12

-- two ports in a word
abbrev pub ports : (source destination : ℕ) → ℕ
ports source destination = source * 65536 + destination

-- a TCP header of five words with a byte of flags; its checksum is not judged (SCOPE 7.7)
abbrev pub tcp : (ports flags : ℕ) → List ℕ
tcp ports flags = ports ∷ 0x00000000 ∷ 0x00000000 ∷ (0x50000000 + flags * 65536) ∷ 0x325F0000 ∷ []

-- a TCP packet with its header checksum and addresses, and P11's otherwise
abbrev pub tcp_packet : (sum source destination ports flags : ℕ) → List ℕ
tcp_packet sum source destination ports flags =
    bytes (0x45000028 ∷ 0x00004000 ∷ (0x40060000 + sum) ∷ source ∷ destination ∷ tcp ports flags)

-- a UDP packet with no data and no checksum
abbrev pub udp_packet : (sum source destination ports : ℕ) → List ℕ
udp_packet sum source destination ports =
    bytes (0x4500001C ∷ 0x00004000 ∷ (0x40110000 + sum) ∷ source ∷ destination ∷ ports ∷ 0x00080000 ∷ [])

-- Packet calls: between 10.0.0.1, with a port, and the service or one of its two servers

abbrev pub from_client : (port flags now : ℕ) → Call
from_client port flags now = packet Way.Inbound (tcp_packet 0x6EC5 0x0A000001 0xC000020A (ports port 5432) flags) now

abbrev pub from_server0 : (port flags now : ℕ) → Call
from_server0 port flags now = packet Way.Outbound (tcp_packet 0x26CA 0x0A010005 0x0A000001 (ports 6432 port) flags) now

abbrev pub from_server1 : (port flags now : ℕ) → Call
from_server1 port flags now = packet Way.Outbound (tcp_packet 0x26C9 0x0A010006 0x0A000001 (ports 6433 port) flags) now

abbrev pub udp_from_client : (port now : ℕ) → Call
udp_from_client port now = packet Way.Inbound (udp_packet 0x6EC6 0x0A000001 0xC000020A (ports port 5432)) now

abbrev pub udp_from_server0 : (port now : ℕ) → Call
udp_from_server0 port now = packet Way.Outbound (udp_packet 0x26CB 0x0A010005 0x0A000001 (ports 6432 port)) now

abbrev pub udp_from_server1 : (port now : ℕ) → Call
udp_from_server1 port now = packet Way.Outbound (udp_packet 0x26CA 0x0A010006 0x0A000001 (ports 6433 port)) now
