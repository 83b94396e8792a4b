-- Which bit of which byte each flag is, against the picture of a TCP header in RFC 9293 (section 3.1), as a statement; proofs/ControlBits.antt proves it.
-- Assumes nothing: these are definitions.
use Rattle.std.specs.Prelude.{ℕ, ◌+◌, ◌*◌, ◌<◌, ◌≡◌, Bool, cond, List, [], ◌∷◌, get_or, Ok}
use Rattle.packet.specs.Bytes.{header_length}
use Rattle.packet.specs.Reading.{read_packet}
use Rattle.packet.specs.declared.read.Flags.{Flags}
use Rattle.packet.specs.declared.read.Packet.{Packet}

-- the eight control bits of RFC 9293
pub data ControlBit : Type 0 where
  CWR : ControlBit
  ECE : ControlBit
  URG : ControlBit
  ACK : ControlBit
  PSH : ControlBit
  RST : ControlBit
  SYN : ControlBit
  FIN : ControlBit

-- The fourth row of the picture, bytes 12 to 15 of the header; the control bits are byte 13, its highest bit first:
--
--    0                   1                   2                   3
--    0 1 2 3 4 5 6 7 8 9 0 1 2 3 4 5 6 7 8 9 0 1 2 3 4 5 6 7 8 9 0 1
--   |  Data |       |C|E|U|A|P|R|S|F|                               |
--   | Offset| Rsrvd |W|C|R|C|S|S|Y|I|            Window             |
--   |       |       |R|E|G|K|H|T|N|N|                               |
abbrev pub control_byte : ℕ
control_byte = 13

abbrev pub picture : List ControlBit
picture = CWR ∷ ECE ∷ URG ∷ ACK ∷ PSH ∷ RST ∷ SYN ∷ FIN ∷ []

-- bits in a row as a number, the highest first
abbrev pub number_from : ℕ → (ControlBit → Bool) → List ControlBit → ℕ
number_from high set [] = high
number_from high set (bit ∷ bits) = number_from (2 * high + cond (set bit) 1 0) set bits

-- the byte in which these bits are set
abbrev pub byte_of : (ControlBit → Bool) → ℕ
byte_of set = number_from 0 set picture

-- the flags that connections go by, of these bits
abbrev pub flags_set : (ControlBit → Bool) → Flags
flags_set set = record { syn = set SYN; ack = set ACK; rst = set RST; fin = set FIN }

pub record ControlBitsLaw : Type 0 where
  -- each of the 256 values of the byte is one of these pictures
  pub every : (b : ℕ) → b < 256 → (set : ControlBit → Bool) × (byte_of set ≡ b)
  -- a TCP packet with these bits in byte 13 of its transport part is read with these flags
  pub read : (p : List ℕ) (r : Packet) → read_packet 6 p ≡ Ok r → (set : ControlBit → Bool)
      → get_or p (header_length p + control_byte) 0 ≡ byte_of set → r.transport.flags ≡ flags_set set
