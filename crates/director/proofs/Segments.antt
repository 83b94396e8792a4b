-- What is known of a packet that the director takes: it can be redirected, its client's port fits, and in UDP it has no flags. Assumes nothing.
use Rattle.std.specs.Prelude.{Ok, Err, Some, None, Option, Result}
use Rattle.packet.specs.declared.read.Fault.{Fault}
use Prim.Native.Nat.{ℕ, ◌<◌}
use mathlib.Core.Bool.{Bool, true, false, cond, ◌&&◌}
use mathlib.Core.List.{List}
use mathlib.Core.Logic.{◌⊎◌, inl, inr, ⊎_elim}
use mathlib.Core.Path.{◌≡◌, refl, sym, ap, subst, ◌∙◌}
use native.Mathlib.Omega.{arith}
use lib.Dec.{eqb}
use lib.ListN.{get_or}
use borrow.Author.Tests.{eqb-true}
use Rattle.lists.proofs.Cases.{second}
use Rattle.checksum.specs.Ones.{Bytes}
use Rattle.packet.specs.declared.read.Flags.{Flags}
use Rattle.packet.specs.declared.read.Packet.{Packet}
use Rattle.packet.specs.declared.read.TransportHeader.{TransportHeader}
use Rattle.packet.specs.Bytes.{payload}
use Rattle.packet.specs.Reading.{tcp_malformed, udp_malformed, flags_of, no_flags, ports_of, read_tcp, read_udp, read_transport, read_packet}
use Rattle.packet.specs.Redirect.{Redirectable}
use Rattle.packet.proofs.Written.{word_below}
use Rattle.packet.proofs.Verified.{payload-bytes}
use Rattle.packet.proofs.Taken.{refused as unread, accepted, redirectable}
use Rattle.servers.specs.declared.Server.{Server}
use Rattle.servers.specs.declared.ServerNo.{ServerNo}
use Rattle.servers.specs.Rules.{number_of}
use Rattle.director.specs.declared.state.Service.{Service}
use Rattle.director.specs.declared.state.Director.{Director}
use Rattle.director.specs.declared.state.Refusal.{Refusal}
use Rattle.director.specs.declared.state.Way.{Way}
use Rattle.director.specs.declared.segment.Sender.{Sender}
use Rattle.director.specs.declared.segment.Segment.{Segment}
use Rattle.director.specs.Segment.{Read, inbound_segment, on_number, on_reading, segment_read}

-- the packet that a segment was read from
pub record ReadFrom (protocol : ℕ) (p : List ℕ) (m : Segment) : Type 0 where
  pub packet : Packet
  pub taken : read_packet protocol p ≡ Ok packet
  pub flags : m.flags ≡ packet.transport.flags
  pub port : (m.port ≡ packet.transport.source) ⊎ (m.port ≡ packet.transport.destination)

refused : (why : Refusal) (m : Segment) → ◌≡◌ {A = Read} (Err why) (Ok m) → ⊥
refused why m e = let z : ◌≡◌ {A = ℕ} 0 1 = cc in omega arith

same_segment : (x m : Segment) → ◌≡◌ {A = Read} (Ok x) (Ok m) → x ≡ m
same_segment x m e = cc

-- what holds of each segment that a packet can be read as holds of the one that it is read as
module _ (g : Service) (servers : List Server) (p : List ℕ) (P : Way → Segment → Type 0)
    (inbound : (r : Packet) → read_packet g.protocol p ≡ Ok r
    → P Way.Inbound (record { address = r.source; port = r.transport.source; sender = Sender.Client; flags = r.transport.flags }))
    (outbound : (r : Packet) → read_packet g.protocol p ≡ Ok r
    → (i : ServerNo) → number_of servers r.source r.transport.source g.servers ≡ Some i
    → P Way.Outbound (record { address = r.destination; port = r.transport.destination; sender = Sender.Server i; flags = r.transport.flags })) where
  by_endpoint : (r : Packet) → read_packet g.protocol p ≡ Ok r → (m : Segment)
      → (to : Bool) → cond to (inbound_segment r) (Err Refusal.OtherEndpoint) ≡ Ok m → P Way.Inbound m
  by_endpoint r taken m true e = subst (P Way.Inbound) (same_segment _ m e) (inbound r taken)
  by_endpoint r taken m false e = absurd (refused Refusal.OtherEndpoint m e)

  by_number : (r : Packet) → read_packet g.protocol p ≡ Ok r → (m : Segment)
      → (f : Option ServerNo) → number_of servers r.source r.transport.source g.servers ≡ f → on_number r f ≡ Ok m → P Way.Outbound m
  by_number r taken m None number e = absurd (refused Refusal.OtherEndpoint m e)
  by_number r taken m (Some i) number e = subst (P Way.Outbound) (same_segment _ m e) (outbound r taken i number)

  by_reading : (way : Way) (m : Segment) (r : Result Packet Fault) → read_packet g.protocol p ≡ r → on_reading way g servers r ≡ Ok m → P way m
  by_reading way m (Err fault) taken e = absurd (refused (Refusal.Packet fault) m e)
  by_reading Way.Inbound m (Ok r) taken e =
      by_endpoint r taken m (eqb r.destination g.address && eqb r.transport.destination g.port) e
  by_reading Way.Outbound m (Ok r) taken e = by_number r taken m _ refl e

  pub read_by : (way : Way) (m : Segment) → segment_read way g servers p ≡ Ok m → P way m
  unfolding segment_read
  read_by way m e = by_reading way m (read_packet g.protocol p) refl e

module _ (d : Director) (p : List ℕ) (m : Segment) where
  pub read_from : (way : Way) → segment_read way d.service d.servers p ≡ Ok m → ReadFrom d.service.protocol p m
  read_from way =
      read_by d.service d.servers p (λ _. ReadFrom d.service.protocol p)
      (λ r taken. record { packet = r; taken = taken; flags = refl; port = inl refl })
      (λ r taken i number. record { packet = r; taken = taken; flags = refl; port = inr refl }) way m

  -- it can be redirected
  pub segment_redirectable : (way : Way) → segment_read way d.service d.servers p ≡ Ok m → Redirectable d.service.protocol p
  segment_redirectable way e = let from = read_from way e in redirectable d.service.protocol p from.packet from.taken

-- a transport header that was read: its ports are words of the transport part, and UDP has no flags
module _ (t : List ℕ) (h : TransportHeader) where
  same_header : (flags : Flags) → ◌≡◌ {A = Result TransportHeader Fault} (Ok (ports_of t flags)) (Ok h) → ports_of t flags ≡ h
  same_header flags e = cc

  tcp-header : read_tcp t ≡ Ok h → ports_of t (flags_of (get_or t 13 0)) ≡ h
  tcp-header e = same_header (flags_of (get_or t 13 0)) (second (tcp_malformed t) _ _ _ (unread Fault.MalformedTransport h) e).1

  udp_header : read_udp t ≡ Ok h → ports_of t no_flags ≡ h
  udp_header e = same_header no_flags (second (udp_malformed t) _ _ _ (unread Fault.MalformedTransport h) e).1

  ports_below : (protocol : ℕ) → Bytes t → read_transport protocol t ≡ Ok h → (h.source < 65536) × (h.destination < 65536)
  ports_below protocol bytes e = by_protocol (eqb protocol 6) e
    where
      Fit : TransportHeader → Type 0
      Fit x = (x.source < 65536) × (x.destination < 65536)

      by_protocol : (b : Bool) → cond b (read_tcp t) (read_udp t) ≡ Ok h → Fit h
      by_protocol true e = subst Fit (tcp-header e) (word_below t 0 bytes, word_below t 2 bytes)
      by_protocol false e = subst Fit (udp_header e) (word_below t 0 bytes, word_below t 2 bytes)

module _ (protocol : ℕ) (p : List ℕ) (m : Segment) (from : ReadFrom protocol p m) where
  carried : read_transport protocol (payload p) ≡ Ok from.packet.transport
  carried = (accepted protocol p from.packet from.taken).carried

  -- the client's port is a port
  pub port_below : Bytes p → m.port < 65536
  port_below bytes =
      let (source, destination) = ports_below (payload p) from.packet.transport protocol (payload-bytes p bytes) carried in
      ⊎_elim (λ (e : m.port ≡ from.packet.transport.source). rw e source) (λ (e : m.port ≡ from.packet.transport.destination). rw e destination) from.port

  -- UDP has no flags
  pub no_flags_lem : eqb protocol 6 ≡ false → m.flags ≡ no_flags
  no_flags_lem udp = from.flags ∙ ap (λ (x : TransportHeader). x.flags) (sym (udp_header (payload p) from.packet.transport (rw udp at carried)))

  -- and so no FIN
  pub udp_unfinished : eqb protocol 17 ≡ true → m.flags.fin ≡ false
  udp_unfinished udp = ap (λ (f : Flags). f.fin) (no_flags_lem (rw (eqb-true protocol 17 udp)))
