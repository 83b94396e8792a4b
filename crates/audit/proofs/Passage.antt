-- What a packet says does not change with the servers' weights and counts; and an accepted packet, sent on, goes between its client and the
-- server that the answer names. Assumes nothing.
use Rattle.std.specs.Prelude.{Ok, Err, Some, Result}
use Rattle.packet.specs.declared.read.Fault.{Fault}
use Prim.Native.Nat.{ℕ, ◌<◌}
use mathlib.Core.Bool.{true}
use mathlib.Core.List.{List}
use mathlib.Core.Path.{◌≡◌, refl, sym, ap, ◌∙◌}
use borrow.Author.Tests.{eqb-true}
use lib.Dec.{eqb}
use Rattle.lists.proofs.Cases.{both}
use Rattle.checksum.specs.Ones.{Bytes}
use Rattle.packet.specs.declared.read.Packet.{Packet}
use Rattle.packet.specs.declared.redirect.Side.{Side}
use Rattle.packet.specs.Reading.{read_packet}
use Rattle.packet.specs.Laws.{Given, with_side}
use Rattle.packet.proofs.Redirections.{laws}
use Rattle.servers.specs.declared.Server.{Server}
use Rattle.servers.specs.declared.ServerNo.{ServerNo}
use Rattle.servers.specs.Servers.{server_at}
use Rattle.servers.specs.Rules.{number_of}
use Rattle.servers.proofs.Ends.{SameEnds, number_same}
use Rattle.servers.proofs.Endpoints.{number_found}
use Rattle.director.specs.declared.state.Service.{Service}
use Rattle.director.specs.declared.state.Director.{Director}
use Rattle.director.specs.declared.state.Way.{Way}
use Rattle.director.specs.declared.segment.Sender.{Sender}
use Rattle.director.specs.declared.segment.Segment.{Segment}
use Rattle.director.specs.Segment.{on_number, on_reading, segment_read}
use Rattle.director.specs.Decide.{belongs}
use Rattle.director.specs.Carry.{forwarded}
use Rattle.director.proofs.Segments.{read_by}
use Rattle.audit.specs.Calls.{set_up, Fits}
use Rattle.audit.specs.Book.{Entry}
use Rattle.audit.specs.Claim.{Goes}

-- 1. What a packet says

-- a packet says the same to servers at the same addresses and ports
pub read_same : (way : Way) (g : Service) (s t : List Server) (p : List ℕ) → SameEnds g.servers s t → segment_read way g s p ≡ segment_read way g t p
unfolding segment_read
read_same way g s t p same = by_reading way (read_packet g.protocol p)
  where
    by_reading : (way : Way) (r : Result Packet Fault) → on_reading way g s r ≡ on_reading way g t r
    by_reading way (Err fault) = refl
    by_reading Way.Inbound (Ok r) = refl
    by_reading Way.Outbound (Ok r) = ap (on_number r) (number_same s t g.servers r.source r.transport.source same)

-- 2. Where it goes

module _ (d : Director) (given : List Server) (clock : ℕ) (es : List Entry) (fits : Fits (set_up d.service given))
    (same : SameEnds d.service.servers d.servers given) (p : List ℕ) (bytes : Bytes p) (k : ℕ) (exists : k < d.service.servers) where
  -- a segment's packet goes where it should, if it is of the server's connection
  abbrev Goal : Way → Segment → Type 0
  Goal way m =
      belongs m.sender (record { 0 = k }) ≡ true
      → Goes way (record { service = d.service; servers = given; clock = clock; entries = es }) m k p (forwarded d k p m.sender)

  module _ (r : Packet) (taken : read_packet d.service.protocol p ≡ Ok r) where
    inbound : Goal Way.Inbound (record { address = r.source; port = r.transport.source; sender = Sender.Client; flags = r.transport.flags })
    inbound mine =
        let protocol = d.service.protocol in
        let address = (server_at d.servers k).address in
        let port = (server_at d.servers k).port in
        let to : Given protocol address port p r = record {
          bytes = bytes;
          taken = taken;
          address_fits = rw (same.address k exists) (fits.2 k).0;
          port_fits = rw (same.port k exists) (fits.2 k).1;
        } in
        record {
          read_in = r;
          read_out = with_side Side.Destination address port r;
          as_in = taken;
          as_out = laws.read_again protocol Side.Destination address port p r to;
          between = record { from_address = refl; from_port = refl; to_address = same.address k exists; to_port = same.port k exists };
        }

    outbound : (i : ServerNo) → number_of given r.source r.transport.source d.service.servers ≡ Some i
        → Goal Way.Outbound (record { address = r.destination; port = r.transport.destination; sender = Sender.Server i; flags = r.transport.flags })
    outbound i number mine =
        let g = d.service in
        let from : Given g.protocol g.address g.port p r = record { bytes = bytes; taken = taken; address_fits = fits.0; port_fits = fits.1 } in
        let there = number_found given r.source r.transport.source g.servers i number in
        let v = server_at given i.0 in
        let (address, port) = both (eqb v.address r.source) (eqb v.port r.transport.source) there in
        let named : i.0 ≡ k = eqb-true i.0 k mine in
        record {
          read_in = r;
          read_out = with_side Side.Source g.address g.port r;
          as_in = taken;
          as_out = laws.read_again g.protocol Side.Source g.address g.port p r from;
          between = record {
            came_address = sym (eqb-true _ _ address) ∙ ap (λ (j : ℕ). (server_at given j).address) named;
            came_port = sym (eqb-true _ _ port) ∙ ap (λ (j : ℕ). (server_at given j).port) named;
            to_address = refl;
            to_port = refl;
          };
        }

  pub goes : (way : Way) (m : Segment) → segment_read way d.service given p ≡ Ok m → Goal way m
  goes = read_by d.service given p Goal inbound outbound
