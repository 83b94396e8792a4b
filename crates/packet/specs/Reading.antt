-- What reading a packet finds (RFC 791, 9293, 768), and which of refusals 6, 20, 7, 8, 9 it meets (SCOPE 4.6 to 4.9, 4.20). Assumes nothing: these are
-- definitions.
use Rattle.std.specs.Prelude.{ℕ, ◌-◌, ◌*◌, ◌/◌, ◌%◌, ◌≤◌, ◌≡◌, List, [], ◌∷◌, Bool, false, cond, not, ◌||◌, length, get_or, take, drop, ltb, eqb, Result, Ok, Err}
use Rattle.checksum.specs.Ones.{word_at, words_of, verifies}
use Rattle.packet.specs.Bytes.{address_at, header_length, total_length, header}
use Rattle.packet.specs.declared.read.Flags.{Flags}
use Rattle.packet.specs.declared.read.TransportHeader.{TransportHeader}
use Rattle.packet.specs.declared.read.Fault.{Fault}
use Rattle.packet.specs.declared.read.Header.{Header}
use Rattle.packet.specs.declared.read.Packet.{Packet}

-- the number of each fault (SCOPE 4.6 to 4.9, 4.20)
abbrev pub fault_number : Fault → ℕ
fault_number Fault.MalformedHeader = 6
fault_number Fault.BadChecksum = 20
fault_number Fault.Fragment = 7
fault_number Fault.OtherProtocol = 8
fault_number Fault.MalformedTransport = 9

-- whether some test of a list holds
abbrev pub any_of : List Bool → Bool
any_of [] = false
any_of (t ∷ ts) = t || any_of ts

-- SCOPE 4.6: packet under 20 bytes; version not 4; header length word under 5; total length below header length or above the bytes given
abbrev pub broken_tests : List ℕ → List Bool
broken_tests p =
    ltb (length p) 20
    ∷ not (eqb (get_or p 0 0 / 16) 4)
    ∷ ltb (get_or p 0 0 % 16) 5
    ∷ ltb (total_length p) (header_length p)
    ∷ ltb (length p) (total_length p)
    ∷ []

unfoldable pub broken : List ℕ → Bool
broken p = any_of (broken_tests p)

-- a packet that refusal 6 does not name: its version is 4 and its lengths are in range
pub record Whole (p : List ℕ) : Type 0 where
  pub long : 20 ≤ length p
  pub version : get_or p 0 0 / 16 ≡ 4
  pub header : 20 ≤ header_length p
  pub ordered : header_length p ≤ total_length p
  pub within : total_length p ≤ length p

-- the header checksum is valid; where it is not, that is refusal 20 (SCOPE 4.20)
abbrev pub header_verifies : List ℕ → Bool
header_verifies p = verifies (words_of (header p))

-- SCOPE 4.7: more-fragments set (bit 13 of the word), or fragment offset (the bits below it) not 0
unfoldable pub fragment : List ℕ → Bool
fragment p = eqb (word_at p 6 / 8192 % 2) 1 || not (eqb (word_at p 6 % 8192) 0)

-- a packet's lengths, addresses and protocol
abbrev pub header_of : List ℕ → Header
header_of p =
    record { length = header_length p; total = total_length p; source = address_at p 12; destination = address_at p 16; protocol = get_or p 9 0 }

-- the first of refusals 6, 20 and 7 that applies, in that order; else the header, whatever it carries
abbrev pub read_header : List ℕ → Result Header Fault
read_header p =
    cond (broken p) (Err Fault.MalformedHeader)
    (cond (not (header_verifies p)) (Err Fault.BadChecksum)
    (cond (fragment p) (Err Fault.Fragment) (Ok (header_of p))))

-- SCOPE 4.9 for TCP: payload under 20 bytes, data offset under 5 words or past the payload
abbrev pub tcp_tests : List ℕ → List Bool
tcp_tests t = ltb (length t) 20 ∷ ltb (get_or t 12 0 / 16) 5 ∷ ltb (length t) (get_or t 12 0 / 16 * 4) ∷ []

unfoldable pub tcp_malformed : List ℕ → Bool
tcp_malformed t = any_of (tcp_tests t)

-- SCOPE 4.9 for UDP: payload under 8, or UDP length not the payload length
abbrev pub udp_tests : List ℕ → List Bool
udp_tests t = ltb (length t) 8 ∷ not (eqb (word_at t 4) (length t)) ∷ []

unfoldable pub udp_malformed : List ℕ → Bool
udp_malformed t = any_of (udp_tests t)

-- the flags in byte 13 of a TCP header (RFC 9293, section 3.1)
abbrev pub flags_of : ℕ → Flags
flags_of b = record { syn = eqb (b / 2 % 2) 1; ack = eqb (b / 16 % 2) 1; rst = eqb (b / 4 % 2) 1; fin = eqb (b % 2) 1 }

-- UDP has no flags
abbrev pub no_flags : Flags
no_flags = record { syn = false; ack = false; rst = false; fin = false }

-- the ports of a transport part, with flags
abbrev pub ports_of : List ℕ → Flags → TransportHeader
ports_of t flags = record { source = word_at t 0; destination = word_at t 2; flags = flags }

-- a TCP segment (RFC 9293), or refusal 9
abbrev pub read_tcp : List ℕ → Result TransportHeader Fault
read_tcp t = cond (tcp_malformed t) (Err Fault.MalformedTransport) (Ok (ports_of t (flags_of (get_or t 13 0))))

-- a UDP datagram (RFC 768), or refusal 9
abbrev pub read_udp : List ℕ → Result TransportHeader Fault
read_udp t = cond (udp_malformed t) (Err Fault.MalformedTransport) (Ok (ports_of t no_flags))

-- protocol 6 is TCP; a service's only other is UDP (17)
abbrev pub read_transport : ℕ → List ℕ → Result TransportHeader Fault
read_transport protocol t = cond (eqb protocol 6) (read_tcp t) (read_udp t)

-- a header's lengths and addresses, with the transport header that was read
abbrev pub packet_with : Header → TransportHeader → Packet
packet_with h t = record { header = h.length; total = h.total; source = h.source; destination = h.destination; transport = t }

-- the refusal of a transport part, else the packet
abbrev pub with_transport : Header → Result TransportHeader Fault → Result Packet Fault
with_transport h (Err why) = Err why
with_transport h (Ok t) = Ok (packet_with h t)

-- the packet with what reading its transport part finds, which stands from the header's length up to the total length
abbrev pub read_payload : ℕ → Header → List ℕ → Result Packet Fault
read_payload protocol h p = with_transport h (read_transport protocol (take (h.total - h.length) (drop h.length p)))

-- what follows a header: 8, then 9
abbrev pub on_header : ℕ → List ℕ → Result Header Fault → Result Packet Fault
on_header protocol p (Err why) = Err why
on_header protocol p (Ok h) = cond (not (eqb h.protocol protocol)) (Err Fault.OtherProtocol) (read_payload protocol h p)

-- the first of refusals 6, 20, 7, 8, 9 that applies, in that order (SCOPE 5.1); else the packet
unfoldable pub read_packet : ℕ → List ℕ → Result Packet Fault
read_packet protocol p = on_header protocol p (read_header p)
