-- What is known of a packet that was taken: it passed each of refusals 6, 20, 7, 8, 9, and it can be redirected.
use mathlib.Core.Path.{◌≡◌, refl, sym, ap, ◌∙◌}
use mathlib.Core.List.{List}
use mathlib.Core.Bool.{Bool, true, false, cond, not}
use Prim.Native.Nat.{ℕ, ◌+◌, ◌≤◌, ◌<◌}
use native.Mathlib.Omega.{arith}
use lib.ListN.{length, get_or}
use lib.Dec.{eqb}
use borrow.Author.Tests.{ltb-false, eqb-true, not-false}
use Rattle.std.proofs.Common.{Result, Ok, Err}
use Rattle.lists.proofs.Cases.{second}
use Rattle.packet.specs.declared.read.Fault.{Fault}
use Rattle.packet.specs.declared.read.Header.{Header}
use Rattle.packet.specs.declared.read.Packet.{Packet}
use Rattle.packet.specs.declared.read.TransportHeader.{TransportHeader}
use Rattle.packet.specs.Bytes.{payload}
use Rattle.packet.specs.Reading.{broken, header_verifies, fragment, header_of, read_header, on_header, tcp_tests, tcp_malformed, udp_tests, udp_malformed, read_tcp, read_udp, read_transport, packet_with, with_transport, read_packet}
use Rattle.packet.specs.Redirect.{sum_place, Redirectable}
use Rattle.packet.proofs.Whole.{none, whole}
use Rattle.packet.proofs.Redirected.{payload-length}

-- a refusal is not a value
pub refused : {A : Type 0} (f : Fault) (a : A) → ◌≡◌ {A = Result A Fault} (Err f) (Ok a) → ⊥
refused f a e = let z : ◌≡◌ {A = ℕ} 0 1 = cc in omega arith

-- what is known of a packet whose header was read: refusals 6, 20 and 7 do not name it
pub record HeaderRead (p : List ℕ) (h : Header) : Type 0 where
  pub intact : broken p ≡ false
  pub valid : header_verifies p ≡ true
  pub unfragmented : fragment p ≡ false
  pub fields : header_of p ≡ h

pub header_read : (p : List ℕ) (h : Header) → read_header p ≡ Ok h → HeaderRead p h
header_read p h e =
    let s₁ = second (broken p) _ _ _ (refused Fault.MalformedHeader h) e in
    let s₂ = second (not (header_verifies p)) _ _ _ (refused Fault.BadChecksum h) s₁.1 in
    let s₃ = second (fragment p) _ _ _ (refused Fault.Fragment h) s₂.1 in
    record { intact = s₁.0; valid = not-false _ s₂.0; unfragmented = s₃.0; fields = cc s₃.1 }

-- its lengths are in order
pub lengths_read : (p : List ℕ) (h : Header) → read_header p ≡ Ok h → (h.length ≤ h.total) × (h.total ≤ length p)
lengths_read p h e =
    let was = header_read p h e in
    let w = whole p was.intact in
    rw (← was.fields) (w.ordered, w.within)

pub record Accepted (protocol : ℕ) (p : List ℕ) (r : Packet) : Type 0 where
  pub intact : broken p ≡ false
  pub valid : header_verifies p ≡ true
  pub unfragmented : fragment p ≡ false
  pub own : get_or p 9 0 ≡ protocol
  pub carried : read_transport protocol (payload p) ≡ Ok r.transport
  pub fields : packet_with (header_of p) r.transport ≡ r

with_transport_lem : (h : Header) (t : Result TransportHeader Fault) (r : Packet) → with_transport h t ≡ Ok r
    → (t ≡ Ok r.transport) × (packet_with h r.transport ≡ r)
with_transport_lem h (Err f) r e = absurd (refused f r e)
with_transport_lem h (Ok t) r e =
    let whole : packet_with h t ≡ r = cc in
    let same : t ≡ r.transport = ap (λ (x : Packet). x.transport) whole in
    (ap Ok same, ap (packet_with h) (sym same) ∙ whole)

pub accepted : (protocol : ℕ) (p : List ℕ) (r : Packet) → read_packet protocol p ≡ Ok r → Accepted protocol p r
unfolding read_packet
accepted protocol p r e = by_header (read_header p) refl e
  where
    by_header : (x : Result Header Fault) → read_header p ≡ x → on_header protocol p x ≡ Ok r → Accepted protocol p r
    by_header (Err f) read e = absurd (refused f r e)
    by_header (Ok h) read e =
        let was = header_read p h read in
        let (own, rest) = second (not (eqb (get_or p 9 0) protocol)) _ _ _ (refused Fault.OtherProtocol r) (rw (← was.fields) at e) in
        let (carried, fields) = with_transport_lem (header_of p) (read_transport protocol (payload p)) r rest in
        record { intact = was.intact; valid = was.valid; unfragmented = was.unfragmented; own = eqb-true _ _ (not-false _ own); carried = carried; fields = fields }

-- a transport part that was read has room for its checksum
pub carried_room : (protocol : ℕ) (t : List ℕ) (h : TransportHeader) → read_transport protocol t ≡ Ok h → sum_place protocol + 1 < length t
unfolding tcp_malformed udp_malformed
carried_room protocol t h e = by_protocol (eqb protocol 6) e
  where
    by_protocol : (b : Bool) → cond b (read_tcp t) (read_udp t) ≡ Ok h → cond b 16 6 + 1 < length t
    by_protocol true e = omega (arith, ltb-false (length t) 20 (none (tcp_tests t) (second (tcp_malformed t) _ _ _ (refused Fault.MalformedTransport h) e).0 0))
    by_protocol false e = omega (arith, ltb-false (length t) 8 (none (udp_tests t) (second (udp_malformed t) _ _ _ (refused Fault.MalformedTransport h) e).0 0))

-- a packet that was taken can be redirected
pub redirectable : (protocol : ℕ) (p : List ℕ) (r : Packet) → read_packet protocol p ≡ Ok r → Redirectable protocol p
redirectable protocol p r e =
    let a = accepted protocol p r e in
    let w = whole p a.intact in
    record {
      header = w.header;
      transport = rw (payload-length p w.ordered w.within) at (carried_room protocol (payload p) r.transport a.carried);
      within = w.within;
    }
