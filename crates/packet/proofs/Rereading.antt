-- Reading a redirected packet finds the address and the port that were set, and all else as before.
use mathlib.Core.Path.{◌≡◌, ap, ◌∙◌}
use mathlib.Core.Logic.{⊎_elim}
use mathlib.Core.List.{List}
use mathlib.Core.Bool.{true, false}
use Prim.Native.Nat.{ℕ, ◌+◌, ◌≤◌, ◌<◌}
use native.Mathlib.Omega.{arith}
use lib.ListN.{length, get_or}
use lib.Dec.{eqb, lit<}
use borrow.Author.Tests.{eq-eqb}
use Rattle.std.proofs.Common.{Ok}
use Rattle.lists.proofs.Cases.{truth, second}
use Rattle.checksum.specs.Ones.{word_at}
use Rattle.packet.specs.declared.read.Fault.{Fault}
use Rattle.packet.specs.declared.read.Flags.{Flags}
use Rattle.packet.specs.declared.read.Packet.{Packet}
use Rattle.packet.specs.declared.read.TransportHeader.{TransportHeader}
use Rattle.packet.specs.declared.redirect.Side.{Side}
use Rattle.packet.specs.declared.redirect.Side.TheVariants.{Source, Destination}
use Rattle.packet.specs.Bytes.{address_at, header_length, total_length, payload}
use Rattle.packet.specs.Reading.{broken, header_verifies, fragment, header_of, flags_of, no_flags, tcp_malformed, udp_malformed, ports_of, read_transport, packet_with, with_transport, read_packet}
use Rattle.packet.specs.Redirect.{address_place, port_place, sum_place, transport_edited, redirected, Redirectable}
use Rattle.packet.specs.Laws.{Given, with_port, with_side}
use Rattle.packet.proofs.Places.{port_place_lem, sum_place_lem, other, port_apart}
use Rattle.packet.proofs.Whole.{whole}
use Rattle.packet.proofs.Segment.{transport_edited-length, transport_edited_other, transport_edited_port}
use Rattle.packet.proofs.Redirected.{redirected-length, redirected_high, redirected_low, redirected-payload, first-kept, header-kept, total_kept}
use Rattle.packet.proofs.Verified.{header-verifies, other_high, other_low}
use Rattle.packet.proofs.Taken.{refused, accepted, carried_room, redirectable}

-- ---- the transport part

-- the tests of refusal 9 read the length and a few bytes
tcp_alike : (s t : List ℕ) → length s ≡ length t → get_or s 12 0 ≡ get_or t 12 0 → tcp_malformed s ≡ tcp_malformed t
unfolding tcp_malformed
tcp_alike s t l b = rw (l, b)

udp_alike : (s t : List ℕ) → length s ≡ length t → get_or s 4 0 ≡ get_or t 4 0 → get_or s 5 0 ≡ get_or t 5 0 → udp_malformed s ≡ udp_malformed t
unfolding udp_malformed
udp_alike s t l b c = rw (l, b, c)

-- one port set and the other as it was
ports-set : (side : Side) (port : ℕ) (s t : List ℕ) (flags : Flags) → word_at s (port_place side) ≡ port → word_at s (port_place (other side)) ≡ word_at t (port_place (other side))
    → ports_of s flags ≡ with_port side port (ports_of t flags)
ports-set Source port s t flags own kept = rw (own, kept)
ports-set Destination port s t flags own kept = rw (own, kept)

module _ (protocol : ℕ) (side : Side) (a a' port : ℕ) (t : List ℕ) (h : TransportHeader) (read : read_transport protocol t ≡ Ok h) where
  abbrev s : List ℕ
  s = transport_edited protocol (port_place side) a a' port t

  room : sum_place protocol + 1 < length t
  room = carried_room protocol t h read

  long : length s ≡ length t
  long = transport_edited-length protocol (port_place side) a a' port t (port_place_lem side)

  -- a byte past the ports and before UDP's checksum, or before TCP's
  byte : (i : ℕ) → 4 ≤ i → i < sum_place protocol → get_or s i 0 ≡ get_or t i 0
  byte i l u =
      let place = port_place_lem side in
      transport_edited_other protocol (port_place side) a a' port t (port_place_lem side) i (λ j b. omega arith) (λ j b. omega arith)

  other_port : (i : ℕ) → port_place (other side) ≤ i → i < port_place (other side) + 2 → get_or s i 0 ≡ get_or t i 0
  other_port i l u =
      let place = port_place_lem (other side) in
      let past = sum_place_lem protocol in
      transport_edited_other protocol (port_place side) a a' port t (port_place_lem side) i (port_apart side i l u) (λ j b. omega arith)

  ports_again : (flags : Flags) → ports_of s flags ≡ with_port side port (ports_of t flags)
  ports_again flags =
      ports-set side port s t flags (transport_edited_port protocol (port_place side) a a' port t (port_place_lem side) room)
      (rw (other_port (port_place (other side)) (omega arith) (omega arith), other_port (port_place (other side) + 1) (omega arith) (omega arith)))

  transport_again : read_transport protocol s ≡ Ok (with_port side port h)
  transport_again =
      ⊎_elim
      (λ tcp. let past : sum_place protocol ≡ 16 = rw tcp in
      let was = second (tcp_malformed t) _ _ _ (refused Fault.MalformedTransport h) (rw tcp at read) in
      let old : ports_of t (flags_of (get_or t 13 0)) ≡ h = cc was.1 in
      rw (tcp, tcp_alike s t long (byte 12 (omega arith) (omega arith)) ∙ was.0, byte 13 (omega arith) (omega arith))
      (ap Ok (ports_again (flags_of (get_or t 13 0)) ∙ ap (with_port side port) old)))
      (λ udp. let past : sum_place protocol ≡ 6 = rw udp in
      let was = second (udp_malformed t) _ _ _ (refused Fault.MalformedTransport h) (rw udp at read) in
      let old : ports_of t no_flags ≡ h = cc was.1 in
      rw (udp, udp_alike s t long (byte 4 (omega arith) (omega arith)) (byte 5 (omega arith) (omega arith)) ∙ was.0)
      (ap Ok (ports_again no_flags ∙ ap (with_port side port) old)))
      (truth (eqb protocol 6))

-- ---- the packet

-- one address set and the other as it was
addresses_set : (side : Side) (a' port : ℕ) (q p : List ℕ) (t : TransportHeader) → header_length q ≡ header_length p → total_length q ≡ total_length p
    → address_at q (address_place side) ≡ a' → address_at q (address_place (other side)) ≡ address_at p (address_place (other side))
    → packet_with (header_of q) (with_port side port t) ≡ with_side side a' port (packet_with (header_of p) t)
addresses_set Source a' port q p t header total own kept = rw (header, total, own, kept)
addresses_set Destination a' port q p t header total own kept = rw (header, total, own, kept)

module _ (protocol : ℕ) (side : Side) (a' port : ℕ) (p : List ℕ) (r : Packet) (given : Given protocol a' port p r) where
  abbrev q : List ℕ
  q = redirected protocol side a' port p

  can : Redirectable protocol p
  can = redirectable protocol p r given.taken

  -- refusals 6, 20 and 7 do not name it afterwards either
  intact_still : broken q ≡ false
  unfolding broken
  intact_still =
      rw (
        redirected-length protocol side a' port p can,
        first-kept protocol side a' port p can 0 (lit< tt),
        first-kept protocol side a' port p can 2 (lit< tt),
        first-kept protocol side a' port p can 3 (lit< tt),
      ) (accepted protocol p r given.taken).intact

  valid_still : header_verifies q ≡ true
  valid_still =
      let was = accepted protocol p r given.taken in
      let first : 0 < get_or p 0 0 = omega (arith, whole p was.intact) in
      header-verifies protocol side a' port p can given.bytes given.address_fits given.port_fits first ∙ was.valid

  unfragmented_still : fragment q ≡ false
  unfolding fragment
  unfragmented_still =
      rw (first-kept protocol side a' port p can 6 (lit< tt), first-kept protocol side a' port p can 7 (lit< tt)) (accepted protocol p r given.taken).unfragmented

  described_again : packet_with (header_of q) (with_port side port r.transport) ≡ with_side side a' port r
  described_again =
      let fits = given.address_fits in
      let own : address_at q (address_place side) ≡ a' = rw (redirected_high protocol side a' port p can, redirected_low protocol side a' port p can) (omega arith) in
      let bytes = given.bytes in
      let kept : address_at q (address_place (other side)) ≡ address_at p (address_place (other side)) =
      rw (other_high protocol side a' port p can bytes fits given.port_fits, other_low protocol side a' port p can bytes fits given.port_fits) in
      addresses_set side a' port q p r.transport (header-kept protocol side a' port p can) (total_kept protocol side a' port p can) own kept
      ∙ ap (with_side side a' port) (accepted protocol p r given.taken).fields

  pub read_again : read_packet protocol q ≡ Ok (with_side side a' port r)
  unfolding read_packet
  read_again =
      let was = accepted protocol p r given.taken in
      let own = eq-eqb (get_or q 9 0) protocol (first-kept protocol side a' port p can 9 (lit< tt) ∙ was.own) in
      let part = redirected-payload protocol side a' port p can in
      let read = transport_again protocol side (address_at p (address_place side)) a' port (payload p) r.transport was.carried in
      rw (intact_still, valid_still, unfragmented_still, own)
      (ap (λ (t : List ℕ). with_transport (header_of q) (read_transport protocol t)) part ∙ ap (with_transport (header_of q)) read ∙ ap Ok described_again)
