-- A packet redirected in place: one side's address and port set, and the checksums edited by RFC 1624's equation 3.
-- Assumes nothing: these are definitions.
use Rattle.std.specs.Prelude.{ℕ, ◌+◌, ◌/◌, ◌%◌, ◌≤◌, ◌<◌, cond, List, length, eqb}
use Rattle.checksum.specs.Ones.{word_at, edited}
use Rattle.packet.specs.Bytes.{address_at, set_word, set_address, on_part, header_length, total_length, payload_length}
use Rattle.packet.specs.declared.redirect.Side.{Side}
use Rattle.packet.specs.declared.redirect.Side.TheVariants.{Source, Destination}

-- where a side's address stands in the IP header (RFC 791)
abbrev pub address_place : Side → ℕ
address_place Source = 12
address_place Destination = 16

-- where a side's port stands in the transport part (RFC 9293, 768)
abbrev pub port_place : Side → ℕ
port_place Source = 0
port_place Destination = 2

-- where the checksum stands in the transport part: TCP's place, else UDP's
abbrev pub sum_place : ℕ → ℕ
sum_place protocol = cond (eqb protocol 6) 16 6

-- a checksum edited for the two words of an address that becomes a'
abbrev pub edited_address : (sum a a' : ℕ) → ℕ
edited_address sum a a' = edited (edited sum (a / 65536) (a' / 65536)) (a % 65536) (a' % 65536)

-- the packet with the address at a place become a'; "The header checksum is edited over the two address words" (SCOPE 7.5)
unfoldable pub header_edited : ℕ → ℕ → List ℕ → List ℕ
header_edited at a' p = set_address (set_word p 10 (edited_address (word_at p 10) (address_at p at) a')) at a'

-- RFC 768: a calculated checksum of 0 is transmitted as all ones
abbrev pub transmitted : ℕ → ℕ
transmitted sum = cond (eqb sum 0) 65535 sum

-- "UDP checksum 0 stays 0; a UDP result of 0 is written FFFF" (SCOPE 7.6)
abbrev pub udp_written : ℕ → ℕ → ℕ
udp_written sum sum' = cond (eqb sum 0) 0 (transmitted sum')

-- the transport checksum to write for the one found and the edited one
unfoldable pub sum_written : (protocol sum sum' : ℕ) → ℕ
sum_written protocol sum sum' = cond (eqb protocol 6) sum' (udp_written sum sum')

-- a transport part's checksum edited for an address that becomes a' and the word at a place that becomes port
abbrev pub transport_sum : (protocol at a a' port : ℕ) → List ℕ → ℕ
transport_sum protocol at a a' port t = edited (edited_address (word_at t (sum_place protocol)) a a') (word_at t at) port

-- the transport part with the port at a place set; "the transport checksum over these and the port word" (SCOPE 7.5)
unfoldable pub transport_edited : (protocol at a a' port : ℕ) → List ℕ → List ℕ
transport_edited protocol at a a' port t =
    set_word (set_word t at port) (sum_place protocol) (sum_written protocol (word_at t (sum_place protocol)) (transport_sum protocol at a a' port t))

-- the packet with one side's address and port set, header and transport checksums edited: inbound rewriting sets the destination, outbound the source
unfoldable pub redirected : ℕ → Side → ℕ → ℕ → List ℕ → List ℕ
redirected protocol side a' port p =
    on_part (header_length p) (payload_length p) (transport_edited protocol (port_place side) (address_at p (address_place side)) a' port) (header_edited (address_place side) a' p)

-- a packet whose lengths are in range, with room for addresses, ports and checksums
pub record Redirectable (protocol : ℕ) (p : List ℕ) : Type 0 where
  pub header : 20 ≤ header_length p
  pub transport : sum_place protocol + 1 < payload_length p
  pub within : total_length p ≤ length p
