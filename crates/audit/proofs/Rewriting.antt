-- An accepted packet leaves as demand 2 says: read again, its checksums, and every byte that is not set. Assumes nothing.
use Rattle.std.specs.Prelude.{Ok, Some}
use Prim.Native.Nat.{ℕ, ◌<◌}
use mathlib.Core.Bool.{true, not, ◌&&◌}
use mathlib.Core.List.{List}
use mathlib.Core.Path.{◌≡◌, refl, subst}
use native.Mathlib.Omega.{arith}
use borrow.Author.Tests.{eqb-false, not-true}
use lib.Dec.{eqb}
use Rattle.lists.proofs.Cases.{both}
use Rattle.lists.proofs.Numbers.{all_below_lem}
use Rattle.checksum.specs.Ones.{Bytes}
use Rattle.packet.specs.declared.read.Packet.{Packet}
use Rattle.packet.specs.Reading.{read_packet}
use Rattle.packet.specs.Redirect.{redirected}
use Rattle.packet.specs.Laws.{Given, VerifiesExactly, LeavesFresh, Kept, with_side}
use Rattle.packet.proofs.Redirections.{laws}
use Rattle.servers.specs.declared.Server.{Server}
use Rattle.servers.specs.declared.ServerNo.{ServerNo}
use Rattle.servers.specs.declared.rules.Rule.{Rule}
use Rattle.servers.specs.Servers.{server_at}
use Rattle.servers.specs.Rules.{keeps, number_of}
use Rattle.servers.proofs.Ends.{SameEnds}
use Rattle.scheduler.specs.ByNumber.{is_scheduler}
use Rattle.director.specs.declared.state.Service.{Service}
use Rattle.director.specs.declared.state.Director.{Director}
use Rattle.director.specs.declared.state.Way.{Way}
use Rattle.director.specs.declared.segment.Sender.{Sender}
use Rattle.director.specs.declared.segment.Segment.{Segment}
use Rattle.director.specs.Judge.{is_protocol}
use Rattle.director.specs.Segment.{segment_read}
use Rattle.director.specs.Carry.{sent_on}
use Rattle.director.proofs.Sound.{Accepted}
use Rattle.director.proofs.Segments.{read_by}
use Rattle.audit.specs.Calls.{EndsFit}
use Rattle.audit.specs.Demand2.{side_set, address_set, port_set, Rewritten}

-- what is not 0 is above 0
above : (x : ℕ) → not (eqb x 0) ≡ true → 0 < x
above x e = let some = eqb-false x 0 (not-true (eqb x 0) e) in omega arith

-- an accepted service's address and port are not 0, nor are its servers'
module _ (g : Service) (servers : List Server) (row : List ℕ) (a : Accepted g servers row) where
  virtual_set : (0 < g.address) × (0 < g.port)
  virtual_set =
      let (front, scheduler) = both (not (eqb g.address 0) && not (eqb g.port 0) && is_protocol g.protocol) (is_scheduler g.scheduler) a.right in
      let (ends, protocol) = both (not (eqb g.address 0) && not (eqb g.port 0)) (is_protocol g.protocol) front in
      let (address, port) = both (not (eqb g.address 0)) (not (eqb g.port 0)) ends in
      (above _ address, above _ port)

  server-set : (k : ℕ) → k < g.servers → (0 < (server_at servers k).address) × (0 < (server_at servers k).port)
  server-set k h =
      let v = server_at servers k in
      let (address, port) = both (not (eqb v.address 0)) (not (eqb v.port 0)) (all_below_lem (keeps Rule.Set servers) g.servers k a.set h) in
      (above _ address, above _ port)

module _ (d : Director) (row p : List ℕ) (a : Accepted d.service d.servers row) (fits : EndsFit d.service d.servers) (bytes : Bytes p)
    (k : ℕ) (exists : k < d.service.servers) (servers : List Server) (same : SameEnds d.service.servers servers d.servers) where
  abbrev g : Service
  g = d.service

  -- a segment's packet, sent on by servers at the same addresses and ports
  abbrev Goal : Way → Segment → Type 0
  Goal way m = Rewritten way d k p (sent_on g (server_at servers k) p m.sender)

  module _ (r : Packet) (taken : read_packet g.protocol p ≡ Ok r) where
    by_side : (way : Way) → (q : List ℕ) → redirected g.protocol (side_set way) (address_set way d k) (port_set way d k) p ≡ q
        → (address_set way d k < 4294967296) × (port_set way d k < 65536) → (0 < address_set way d k) × (0 < port_set way d k) → Rewritten way d k p q
    by_side way q e (address, port) (some, any) =
        let protocol = g.protocol in
        let side = side_set way in
        let to : Given protocol (address_set way d k) (port_set way d k) p r = record { bytes = bytes; taken = taken; address_fits = address; port_fits = port } in
        let can = laws.redirectable protocol p r taken in
        record {
          read_in = r;
          as_in = taken;
          as_out = subst (λ (x : List ℕ). read_packet protocol x ≡ Ok (with_side side (address_set way d k) (port_set way d k) r)) e
              (laws.read_again protocol side (address_set way d k) (port_set way d k) p r to);
          fresh = subst (LeavesFresh protocol p) e (laws.leaves_fresh protocol side (address_set way d k) (port_set way d k) p r to some any);
          exact = subst (VerifiesExactly protocol p) e (laws.verifies_exactly protocol side (address_set way d k) (port_set way d k) p r to);
          kept = subst (Kept protocol side p) e (laws.kept protocol side (address_set way d k) (port_set way d k) p can);
        }

    inbound : Goal Way.Inbound (record { address = r.source; port = r.transport.source; sender = Sender.Client; flags = r.transport.flags })
    inbound = by_side Way.Inbound _ (rw (same.address k exists, same.port k exists)) (fits.2 k) (server-set g d.servers row a k exists)

    outbound : (i : ServerNo) → number_of d.servers r.source r.transport.source g.servers ≡ Some i
        → Goal Way.Outbound (record { address = r.destination; port = r.transport.destination; sender = Sender.Server i; flags = r.transport.flags })
    outbound i number = by_side Way.Outbound _ refl (fits.0, fits.1) (virtual_set g d.servers row a)

  pub rewritten : (way : Way) (m : Segment) → segment_read way g d.servers p ≡ Ok m → Goal way m
  rewritten = read_by g d.servers p Goal inbound outbound
