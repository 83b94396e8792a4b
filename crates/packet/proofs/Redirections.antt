-- The laws of specs/Laws.antt, for a packet that was taken: its checksums verify exactly if they did, and valid ones leave as fresh ones.
use mathlib.Core.Path.{◌≡◌, refl, sym, ap, ◌∙◌}
use mathlib.Core.Logic.{◌≢◌}
use mathlib.Core.List.{List, []}
use mathlib.Core.Bool.{true, false}
use Prim.Native.Nat.{ℕ, ◌+◌, ◌≤◌, ◌<◌}
use native.Mathlib.Omega.{arith}
use lib.ListN.{length}
use lib.Seq.{length-take-le}
use lib.Dec.{eqb, lit<}
use borrow.Author.Tests.{eqb-false}
use Rattle.lists.proofs.Below.{below_take}
use Rattle.checksum.specs.Ones.{word_at, Bytes}
use Rattle.checksum.proofs.Words.{words_fit}
use Rattle.checksum.proofs.Edits.{edited-fits}
use Rattle.packet.specs.Bytes.{address_at, header_length, payload_length, header, payload}
use Rattle.packet.specs.Reading.{header_verifies}
use Rattle.packet.specs.Redirect.{address_place, port_place, sum_place, edited_address, transmitted, sum_written, transport_sum, redirected, Redirectable}
use Rattle.packet.specs.Laws.{pseudo_header, transport_checksum, transport_verifies, fresh_header, fresh_transport, Given, VerifiesExactly, LeavesFresh, Laws}
use Rattle.packet.specs.declared.read.Packet.{Packet}
use Rattle.packet.specs.declared.redirect.Side.{Side}
use Rattle.packet.proofs.Places.{port_place_lem, sum_place_lem}
use Rattle.packet.proofs.Whole.{whole}
use Rattle.packet.proofs.Written.{word_below, address_below, take-word}
use Rattle.packet.proofs.Segment.{tcp_written, udp_none, udp_some, transport_edited-sum}
use Rattle.packet.proofs.Redirected.{kept, payload-length, payload_room, redirected-length, redirected-sum, redirected-payload, redirected-bytes, header-kept, total_kept}
use Rattle.packet.proofs.Taken.{accepted, redirectable}
use Rattle.packet.proofs.Verified.{payload-bytes, covered_words, header-verifies, transport_verifies_lem}
use Rattle.packet.proofs.PastTotal.{read_alike, past_total}
use Rattle.packet.proofs.Rereading.{read_again}
use Rattle.packet.proofs.Fresh.{valid_fresh, valid_transmitted, word_not_ones, address_not_ones}

module _ (protocol : ℕ) (side : Side) (a' port : ℕ) (p : List ℕ) (r : Packet) (given : Given protocol a' port p r) where
  abbrev q : List ℕ
  q = redirected protocol side a' port p

  can : Redirectable protocol p
  can = redirectable protocol p r given.taken

  small : protocol < 65536
  small = omega (arith, (accepted protocol p r given.taken).own, given.bytes.at 9)

  -- ---- both checksums verify exactly if they did

  header_exactly : header_verifies q ≡ header_verifies p
  header_exactly =
      let w = whole p (accepted protocol p r given.taken).intact in
      header-verifies protocol side a' port p can given.bytes given.address_fits given.port_fits (omega arith)

  transport_exactly : (eqb protocol 6 ≡ false → transport_checksum protocol p ≢ 0) → transport_verifies protocol q ≡ transport_verifies protocol p
  transport_exactly = transport_verifies_lem protocol side a' port p can given.bytes given.address_fits given.port_fits small

  tcp_exactly : protocol ≡ 6 → transport_verifies protocol q ≡ transport_verifies protocol p
  tcp_exactly tcp = transport_exactly (λ e. absurd (eqb-false protocol 6 e tcp))

  verifies_exactly : VerifiesExactly protocol p q
  verifies_exactly = record { header = header_exactly; tcp = tcp_exactly; udp = λ udp some. transport_exactly (λ e. some) }

  -- ---- valid ones leave as fresh ones

  bytes_after : Bytes q
  bytes_after = redirected-bytes protocol side a' port p can given.bytes given.address_fits given.port_fits

  header-fresh : 0 < a' → word_at q 10 ≡ fresh_header q
  header-fresh some =
      let n = header_length q in
      let long : 20 ≤ n = rw (header-kept protocol side a' port p can) can.header in
      let within : length (header q) ≡ n = length-take-le n q (rw (header-kept protocol side a' port p can, redirected-length protocol side a' port p can) (omega (arith, can))) in
      let found = take-word n q 10 (omega arith) in
      let ne : word_at q 10 ≢ 65535 = rw (redirected-sum protocol side a' port p can)
      (address_not_ones (word_at p 10) (address_at p (address_place side)) a' (word_below p 10 given.bytes) (address_below p (address_place side) given.bytes) some) in
      let valid = header_exactly ∙ (accepted protocol p r given.taken).valid in
      sym found ∙ valid_fresh [] (header q) 5 10 refl (rw within (omega arith)) (words_fit (header q) (below_take n bytes_after)) valid (rw found ne)

  -- the transport checksum that is written
  written : transport_checksum protocol q ≡ sum_written protocol (transport_checksum protocol p) (transport_sum protocol (port_place side) (address_at p (address_place side)) a' port (payload p))
  written =
      ap (λ (t : List ℕ). word_at t (sum_place protocol)) (redirected-payload protocol side a' port p can)
      ∙ transport_edited-sum protocol (port_place side) (address_at p (address_place side)) a' port (payload p) (port_place_lem side) (payload_room protocol side a' port p can)

  transport_room : sum_place protocol + 1 < length (payload q)
  transport_room =
      rw (
        payload-length q (rw (header-kept protocol side a' port p can, total_kept protocol side a' port p can) (omega (arith, can)))
            (rw (total_kept protocol side a' port p can, redirected-length protocol side a' port p can) can.within),
        header-kept protocol side a' port p can,
        total_kept protocol side a' port p can,
      ) can.transport

  tcp-fresh : 0 < port → protocol ≡ 6 → transport_verifies protocol p ≡ true → transport_checksum protocol q ≡ fresh_transport protocol q
  tcp-fresh some tcp v =
      let even = sum_place_lem protocol in
      let ne = word_not_ones (edited_address (transport_checksum protocol p) (address_at p (address_place side)) a') (word_at (payload p) (port_place side)) port (edited-fits _ _ _)
      (word_below (payload p) (port_place side) (payload-bytes p given.bytes)) some in
      valid_fresh (pseudo_header protocol q) (payload q) even.half (sum_place protocol) even.even transport_room (covered_words protocol q small bytes_after)
      (tcp_exactly tcp ∙ v) (λ e. ne (sym (written ∙ tcp_written protocol _ _ tcp) ∙ e))

  udp_fresh : protocol ≢ 6 → transport_checksum protocol p ≢ 0 → transport_verifies protocol p ≡ true → transport_checksum protocol q ≡ transmitted (fresh_transport protocol q)
  udp_fresh udp sum v =
      let even = sum_place_lem protocol in
      let long : 0 < payload_length q = rw (header-kept protocol side a' port p can, total_kept protocol side a' port p can) (omega (arith, can)) in
      valid_transmitted (pseudo_header protocol q) (payload q) even.half (sum_place protocol) even.even transport_room (covered_words protocol q small bytes_after)
      5 (lit< tt) long (transport_exactly (λ e. sum) ∙ v) (λ e. udp_some protocol _ _ udp sum (sym written ∙ e))

  -- the new address and port are not 0: setup refuses those
  leaves_fresh : 0 < a' → 0 < port → LeavesFresh protocol p q
  leaves_fresh address some = record { header = header-fresh address; tcp = tcp-fresh some; udp = udp_fresh; none = λ udp zero. written ∙ udp_none protocol _ _ udp zero }

pub laws : Laws
laws = record {
  redirectable = redirectable;
  kept = kept;
  verifies_exactly = verifies_exactly;
  leaves_fresh = leaves_fresh;
  read_again = read_again;
  read_alike = read_alike;
  past_total = past_total;
}
