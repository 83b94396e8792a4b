-- What redirecting a packet does and leaves, as statements; proofs/Redirections.antt proves them (`laws`). Assumes nothing: these are definitions.
use Rattle.std.specs.Prelude.{ℕ, ◌+◌, ◌<◌, ◌≤◌, ◌≡◌, ◌≢◌, Bool, true, List, [], ◌∷◌, ◌++◌, length, get_or, take, drop, Ok}
use Rattle.checksum.specs.Ones.{word_at, words_of, verifies, fresh, Bytes}
use Rattle.packet.specs.Bytes.{set_word, header_length, total_length, payload_length, header, payload}
use Rattle.packet.specs.Reading.{header_verifies, read_packet}
use Rattle.packet.specs.Redirect.{address_place, port_place, sum_place, transmitted, redirected, Redirectable}
use Rattle.packet.specs.declared.read.Packet.{Packet}
use Rattle.packet.specs.declared.read.TransportHeader.{TransportHeader}
use Rattle.packet.specs.declared.redirect.Side.{Side}
use Rattle.packet.specs.declared.redirect.Side.TheVariants.{Source, Destination}

-- the pseudo header of RFC 768 and 9293: addresses, protocol, transport length
abbrev pub pseudo_header : ℕ → List ℕ → List ℕ
pseudo_header protocol p = word_at p 12 ∷ word_at p 14 ∷ word_at p 16 ∷ word_at p 18 ∷ protocol ∷ payload_length p ∷ []

-- the transport checksum in a packet, and whether it verifies
abbrev pub transport_checksum : ℕ → List ℕ → ℕ
transport_checksum protocol p = word_at (payload p) (sum_place protocol)

abbrev pub transport_verifies : ℕ → List ℕ → Bool
transport_verifies protocol p = verifies (pseudo_header protocol p ++ words_of (payload p))

-- the checksums as a fresh calculation gives them, with 0 in the checksum's place
abbrev pub fresh_header : List ℕ → ℕ
fresh_header p = fresh (words_of (set_word (header p) 10 0))

abbrev pub fresh_transport : ℕ → List ℕ → ℕ
fresh_transport protocol p = fresh (pseudo_header protocol p ++ words_of (set_word (payload p) (sum_place protocol) 0))

-- a packet that was taken, and an address and a port to set
pub record Given (protocol a' port : ℕ) (p : List ℕ) (r : Packet) : Type 0 where
  pub bytes : Bytes p
  pub taken : read_packet protocol p ≡ Ok r
  pub address_fits : a' < 4294967296
  pub port_fits : port < 65536

-- Of a packet p that left as q

-- "the outgoing one verifies exactly if the incoming one did (UDP 0 apart)" (SCOPE 7.7); the header checksum too
pub record VerifiesExactly (protocol : ℕ) (p q : List ℕ) : Type 0 where
  pub header : header_verifies q ≡ header_verifies p
  pub tcp : protocol ≡ 6 → transport_verifies protocol q ≡ transport_verifies protocol p
  pub udp : protocol ≢ 6 → transport_checksum protocol p ≢ 0 → transport_verifies protocol q ≡ transport_verifies protocol p

-- a valid checksum leaves as a fresh calculation would give it (SCOPE 7.8), also one that came as FFFF; UDP's 0 means none and stays 0. The header's
-- was valid, since 20 refuses any other.
pub record LeavesFresh (protocol : ℕ) (p q : List ℕ) : Type 0 where
  pub header : word_at q 10 ≡ fresh_header q
  pub tcp : protocol ≡ 6 → transport_verifies protocol p ≡ true → transport_checksum protocol q ≡ fresh_transport protocol q
  pub udp : protocol ≢ 6 → transport_checksum protocol p ≢ 0 → transport_verifies protocol p ≡ true
      → transport_checksum protocol q ≡ transmitted (fresh_transport protocol q)
  pub none : protocol ≢ 6 → transport_checksum protocol p ≡ 0 → transport_checksum protocol q ≡ 0

-- a place that is none of the k places from at on
abbrev pub Outside : (at k i : ℕ) → Type 0
Outside at k i = (j : ℕ) → j < k → i ≢ at + j

-- what is not written stays: all but header checksum, one side's address and port, and transport checksum
pub record Kept (protocol : ℕ) (side : Side) (p q : List ℕ) : Type 0 where
  pub long : length q ≡ length p
  pub byte : (i : ℕ) → Outside 10 2 i → Outside (address_place side) 4 i
      → Outside (header_length p + port_place side) 2 i → Outside (header_length p + sum_place protocol) 2 i
      → get_or q i 0 ≡ get_or p i 0

-- Of two packets that differ past their total length alone

pub record SameUpToTotal (p p' : List ℕ) : Type 0 where
  pub total : total_length p' ≡ total_length p
  pub within : total_length p ≤ length p
  pub within' : total_length p ≤ length p'
  pub bytes : take (total_length p) p' ≡ take (total_length p) p

-- "Bytes past the total length are neither read nor written" (SCOPE 7.3): redirecting leaves them, and writes the same whatever they are
pub record PastTotal (protocol : ℕ) (side : Side) (a' port : ℕ) (p p' : List ℕ) : Type 0 where
  pub unwritten : drop (total_length p) (redirected protocol side a' port p) ≡ drop (total_length p) p
  pub unread : take (total_length p) (redirected protocol side a' port p') ≡ take (total_length p) (redirected protocol side a' port p)

-- a packet as it was read, with one side's address and port set
abbrev pub with_port : Side → ℕ → TransportHeader → TransportHeader
with_port Source port t = record { source = port; destination = t.destination; flags = t.flags }
with_port Destination port t = record { source = t.source; destination = port; flags = t.flags }

abbrev pub with_side : Side → ℕ → ℕ → Packet → Packet
with_side Source a port r = record { header = r.header; total = r.total; source = a; destination = r.destination; transport = with_port Source port r.transport }
with_side Destination a port r = record { header = r.header; total = r.total; source = r.source; destination = a; transport = with_port Destination port r.transport }

-- what holds of every packet that was taken, and of what it becomes
pub record Laws : Type 0 where
  pub redirectable : (protocol : ℕ) (p : List ℕ) (r : Packet) → read_packet protocol p ≡ Ok r → Redirectable protocol p
  pub kept : (protocol : ℕ) (side : Side) (a' port : ℕ) (p : List ℕ) → Redirectable protocol p → Kept protocol side p (redirected protocol side a' port p)
  pub verifies_exactly : (protocol : ℕ) (side : Side) (a' port : ℕ) (p : List ℕ) (r : Packet) → Given protocol a' port p r
      → VerifiesExactly protocol p (redirected protocol side a' port p)
  -- the new address and port are not 0 (SCOPE 4.2, 4.3)
  pub leaves_fresh : (protocol : ℕ) (side : Side) (a' port : ℕ) (p : List ℕ) (r : Packet) → Given protocol a' port p r → 0 < a' → 0 < port
      → LeavesFresh protocol p (redirected protocol side a' port p)
  -- reading the redirected packet finds the address and port that were set, and all else as it was
  pub read_again : (protocol : ℕ) (side : Side) (a' port : ℕ) (p : List ℕ) (r : Packet) → Given protocol a' port p r
      → read_packet protocol (redirected protocol side a' port p) ≡ Ok (with_side side a' port r)
  -- bytes past the total length decide nothing: a packet is read, or refused, as one with others there is
  pub read_alike : (protocol : ℕ) (p p' : List ℕ) → SameUpToTotal p p' → read_packet protocol p' ≡ read_packet protocol p
  pub past_total : (protocol : ℕ) (side : Side) (a' port : ℕ) (p p' : List ℕ) (r : Packet) → read_packet protocol p ≡ Ok r → SameUpToTotal p p'
      → PastTotal protocol side a' port p p'
