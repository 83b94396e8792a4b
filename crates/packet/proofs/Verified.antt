-- A redirected packet's checksums verify exactly if they did, UDP's 0 apart: what they cover stays congruent.
use mathlib.Core.Path.{◌≡◌, ap}
use mathlib.Core.Logic.{◌≢◌}
use mathlib.Core.List.{List, ◌++◌}
use mathlib.Core.Bool.{false}
use Prim.Native.Nat.{ℕ, ◌+◌, ◌≤◌, ◌<◌}
use native.Mathlib.Nat.{le_refl}
use native.Mathlib.Omega.{arith}
use lib.ListN.{length, get_or, take}
use lib.Seq.{length-take-le, get_or-take}
use lib.Dec.{eqb, lit<}
use Rattle.lists.proofs.Below.{below_nil, below_cons, below_append, below_take, below_drop}
use Rattle.checksum.specs.Ones.{word_at, words_of, Bytes, Words}
use Rattle.checksum.proofs.Words.{words-at, words_fit}
use Rattle.checksum.proofs.Totals.{total, total-append, at_most_total}
use Rattle.checksum.proofs.Edits.{Congruent}
use Rattle.checksum.proofs.Laws.{verify_alike}
use Rattle.packet.specs.Bytes.{address_at, header_length, payload_length, payload}
use Rattle.packet.specs.Reading.{header_verifies}
use Rattle.packet.specs.Redirect.{address_place, port_place, header_edited, redirected, Redirectable}
use Rattle.packet.specs.Laws.{pseudo_header, transport_checksum, transport_verifies}
use Rattle.packet.specs.declared.redirect.Side.{Side}
use Rattle.packet.specs.declared.redirect.Side.TheVariants.{Source, Destination}
use Rattle.packet.proofs.Places.{address_place_lem, port_place_lem, other, address_apart}
use Rattle.packet.proofs.Written.{word_below, address_high, address_low, address_below}
use Rattle.packet.proofs.Header.{header_edited-length, header_edited-bytes, header_edited_other, header_congruent}
use Rattle.packet.proofs.Segment.{transport_edited_congruent}
use Rattle.packet.proofs.Redirected.{payload_room, redirected-header, redirected-payload, redirected-bytes, redirected_high, redirected_low, kept, header-kept, total_kept}

-- bytes of which the first is not 0 have a total other than 0
positive : (n : ℕ) (b : List ℕ) → 1 < n → n ≤ length b → 0 < get_or b 0 0 → 0 < total (words_of (take n b))
positive n b h l p =
    let long : 1 < length (take n b) = rw (length-take-le n b l) h in
    let first : 0 < get_or (take n b) 0 0 = rw (get_or-take n b 0 0 (omega arith)) p in
    omega (arith, at_most_total (words_of (take n b)) 0, words-at (take n b) 0 long)

-- ---- what a transport checksum covers

-- the four address words
abbrev addresses : List ℕ → ℕ
addresses p = word_at p 12 + (word_at p 14 + (word_at p 16 + word_at p 18))

addresses_split : (side : Side) (p : List ℕ)
    → addresses p ≡ word_at p (address_place side) + word_at p (address_place side + 2) + (word_at p (address_place (other side)) + word_at p (address_place (other side) + 2))
addresses_split Source p = omega arith
addresses_split Destination p = omega arith

covered_total : (protocol : ℕ) (p : List ℕ) → total (pseudo_header protocol p ++ words_of (payload p)) ≡ addresses p + (protocol + payload_length p) + total (words_of (payload p))
covered_total protocol p = omega (arith, total-append (pseudo_header protocol p) (words_of (payload p)))

pub payload-bytes : (p : List ℕ) → Bytes p → Bytes (payload p)
payload-bytes p bytes = below_take (payload_length p) (below_drop (header_length p) bytes)

pub covered_words : (protocol : ℕ) (p : List ℕ) → protocol < 65536 → Bytes p → Words (pseudo_header protocol p ++ words_of (payload p))
covered_words protocol p hp bytes =
    let len : payload_length p < 65536 = omega (arith, word_below p 2 bytes) in
    below_append
    (below_cons (word_below p 12 bytes) (below_cons (word_below p 14 bytes) (below_cons (word_below p 16 bytes) (below_cons (word_below p 18 bytes)
    (below_cons hp (below_cons len (below_nil (lit< tt))))))))
    (words_fit (payload p) (payload-bytes p bytes))

-- ---- a packet redirected

module _ (protocol : ℕ) (side : Side) (a' port : ℕ) (p : List ℕ) (room : Redirectable protocol p) (bytes : Bytes p) (new : a' < 4294967296) (hp : port < 65536) where
  abbrev q : List ℕ
  q = redirected protocol side a' port p

  pub header-verifies : 0 < get_or p 0 0 → header_verifies q ≡ header_verifies p
  header-verifies some =
      let n = header_length p in
      let at = address_place side in
      let r = header_edited at a' p in
      let place = address_place_lem side in
      let long : n ≤ length p = omega (arith, room) in
      let long' : n ≤ length r = rw (header_edited-length at a' p place) long in
      let some' : 0 < get_or r 0 0 = rw (header_edited_other at a' p place 0 (λ j l. omega arith) (λ j l. omega arith)) some in
      rw (header-kept protocol side a' port p room, redirected-header protocol side a' port p room n (le_refl n))
      (verify_alike (words_of (take n r)) (words_of (take n p)) (words_fit (take n r) (below_take n (header_edited-bytes at a' p place new bytes)))
      (words_fit (take n p) (below_take n bytes)) (positive n r (omega (arith, room)) long' some') (positive n p (omega (arith, room)) long some)
      (header_congruent at a' p place n (omega (arith, room)) long bytes new))

  -- the other side's address is as it was
  other_byte : (i : ℕ) → address_place (other side) ≤ i → i < address_place (other side) + 4 → get_or q i 0 ≡ get_or p i 0
  other_byte i h l =
      let place = address_place_lem (other side) in
      let long = room.header in
      (kept protocol side a' port p room).byte i (λ j b. omega arith) (address_apart side i h l) (λ j b. omega arith) (λ j b. omega arith)

  pub other_high : word_at q (address_place (other side)) ≡ word_at p (address_place (other side))
  other_high = rw (other_byte (address_place (other side)) (omega arith) (omega arith), other_byte (address_place (other side) + 1) (omega arith) (omega arith))

  pub other_low : word_at q (address_place (other side) + 2) ≡ word_at p (address_place (other side) + 2)
  other_low = rw (other_byte (address_place (other side) + 2) (omega arith) (omega arith), other_byte (address_place (other side) + 2 + 1) (omega arith) (omega arith))

  lengths_kept : payload_length q ≡ payload_length p
  lengths_kept = rw (header-kept protocol side a' port p room, total_kept protocol side a' port p room)

  covered_congruent : (eqb protocol 6 ≡ false → transport_checksum protocol p ≢ 0)
      → Congruent (total (pseudo_header protocol q ++ words_of (payload q))) (total (pseudo_header protocol p ++ words_of (payload p)))
  covered_congruent udp =
      let at = address_place side in
      let tq = covered_total protocol q in
      let tp = covered_total protocol p in
      let long = lengths_kept in
      let sq = addresses_split side q in
      let sp = addresses_split side p in
      let high' = redirected_high protocol side a' port p room in
      let low' = redirected_low protocol side a' port p room in
      let oh = other_high in
      let ol = other_low in
      let high = address_high p at bytes in
      let low = address_low p at bytes in
      let part = ap (λ (t : List ℕ). total (words_of t)) (redirected-payload protocol side a' port p room) in
      let c = transport_edited_congruent protocol (port_place side) (address_at p at) a' port (payload p) (port_place_lem side)
      (payload_room protocol side a' port p room) (payload-bytes p bytes) (address_below p at bytes) new hp udp in
      record { x = c.x; y = c.y; balanced = omega arith }

  pub transport_verifies_lem : protocol < 65536 → (eqb protocol 6 ≡ false → transport_checksum protocol p ≢ 0) → transport_verifies protocol q ≡ transport_verifies protocol p
  transport_verifies_lem small udp =
      let vs = pseudo_header protocol q ++ words_of (payload q) in
      let ws = pseudo_header protocol p ++ words_of (payload p) in
      let tq = covered_total protocol q in
      let tp = covered_total protocol p in
      let long = lengths_kept in
      let some = room.transport in
      verify_alike vs ws (covered_words protocol q small (redirected-bytes protocol side a' port p room bytes new hp)) (covered_words protocol p small bytes)
      (omega arith) (omega arith) (covered_congruent udp)
