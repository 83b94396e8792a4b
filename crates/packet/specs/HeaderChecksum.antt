-- Refusals 6 and 20 as SCOPE 4.6 and 4.20 tell them apart, in numbers: statements; proofs/HeaderChecksum.antt proves them (`header_checksum`).
-- Assumes nothing: these are definitions.
use Rattle.std.specs.Prelude.{ℕ, List, ◌↔◌, ◌≢◌, ◌≡◌, Result, Ok, Err}
use Rattle.checksum.specs.Ones.{words_of, ones_sum}
use Rattle.packet.specs.Bytes.{header}
use Rattle.packet.specs.Reading.{fault_number, Whole, read_packet}
use Rattle.packet.specs.declared.read.Fault.{Fault}
use Rattle.packet.specs.declared.read.Packet.{Packet}

-- the number that reading a packet gives, and 0 where it is taken
abbrev pub number_of : Result Packet Fault → ℕ
number_of (Err why) = fault_number why
number_of (Ok r) = 0

abbrev pub number_read : (protocol : ℕ) → List ℕ → ℕ
number_read protocol p = number_of (read_packet protocol p)

-- the header's words, each carry added back: FFFF where its checksum is valid (RFC 1071)
abbrev pub header_sum : List ℕ → ℕ
header_sum p = ones_sum (words_of (header p))

pub record HeaderChecksumLaw : Type 0 where
  -- 6 exactly where the version or a length is wrong, whatever the sum
  pub at6 : (protocol : ℕ) (p : List ℕ) → (number_read protocol p ≡ 6) ↔ (Whole p → ⊥)
  -- 20 exactly where they are right and the sum is not FFFF, fragment or not, whatever the packet carries
  pub at20 : (protocol : ℕ) (p : List ℕ) → (number_read protocol p ≡ 20) ↔ (Whole p × (header_sum p ≢ 65535))
  -- all else, 7, 8 and 9 among it, only where it is FFFF
  pub after : (protocol : ℕ) (p : List ℕ) → number_read protocol p ≢ 6 → number_read protocol p ≢ 20 → Whole p × (header_sum p ≡ 65535)
