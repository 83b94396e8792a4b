-- A packet call leaves as many bytes as it was handed. Assumes nothing.
use lib.ListN.{get_or}
use Rattle.servers.specs.Servers.{server_at}
use Rattle.table.specs.Slots.{free_slot, slots}
use Rattle.std.proofs.Common.{◌≡◌, ℕ, Bool, true, false, ltb, List, length, refl, ⊎_elim, Ok, Err}
use Rattle.lists.proofs.Cases.{truth}
use Rattle.packet.specs.declared.redirect.Side.{Side}
use Rattle.packet.specs.Redirect.{Redirectable}
use Rattle.packet.proofs.Redirected.{redirected-length}
use Rattle.servers.specs.declared.Server.{Server}
use Rattle.table.specs.declared.slot.Slot.{Slot}
use Rattle.director.specs.declared.state.Service.{Service}
use Rattle.director.specs.declared.state.Director.{Director}
use Rattle.director.specs.declared.state.Way.{Way}
use Rattle.director.specs.declared.segment.Sender.{Sender}
use Rattle.director.specs.declared.segment.Segment.{Segment}
use Rattle.director.specs.Segment.{Read, segment_read}
use Rattle.director.specs.declared.decide.Decision.{Decision}
use Rattle.director.specs.State.{Lent, lent, with_one_less, with_one_more}
use Rattle.director.specs.Judge.{sound_of}
use Rattle.director.specs.Tick.{settled, settled_lent}
use Rattle.director.specs.Decide.{decided}
use Rattle.director.specs.Carry.{sent_on, carried_out}
use Rattle.director.specs.Packets.{routed, on_clock, on_seen, packet_held, packet_of}
use Rattle.director.proofs.Segments.{segment_redirectable}

sent-length : (g : Service) (v : Server) (p : List ℕ) (sender : Sender) → Redirectable g.protocol p → length (sent_on g v p sender) ≡ length p
sent-length g v p Sender.Client can = redirected-length g.protocol Side.Destination v.address v.port p can
sent-length g v p (Sender.Server i) can = redirected-length g.protocol Side.Source g.address g.port p can

carried-length : (d : Director) (x : Lent (List Slot)) (m : Segment) (a : Decision) → Redirectable d.service.protocol x.packet
    → length (carried_out d x m a).lent.packet ≡ length x.packet
carried-length d x m (Decision.Refuse why) can = refl
carried-length d x m (Decision.Keep k) can = sent-length d.service (server_at d.servers (get_or x.table k.0 free_slot).server.0) x.packet m.sender can
carried-length d x m (Decision.End k) can = sent-length d.service (server_at (with_one_less d (get_or x.table k.0 free_slot).server.0).servers (get_or x.table k.0 free_slot).server.0) x.packet m.sender can
carried-length d x m (Decision.Open k i walk) can = sent-length d.service (server_at (with_one_more d i.0 walk).servers i.0) x.packet m.sender can
carried-length d x m (Decision.Renew old k i walk) can =
    let ended = with_one_less d (get_or x.table old.0 free_slot).server.0 in
    sent-length d.service (server_at (with_one_more ended i.0 walk).servers i.0) x.packet m.sender can

module _ (d : Director) (row p : List ℕ) (now : ℕ) where
  abbrev x : Lent (List Slot)
  x = lent (slots row) p

  by_clock : (m : Segment) → Redirectable d.service.protocol p → (early : Bool) → length (on_clock d x m now early).lent.packet ≡ length p
  unfolding routed
  by_clock m can true = refl
  by_clock m can false =
      let d' = settled d (slots row) now in
      let y = settled_lent d x now in
      carried-length d' y m (decided d' y.table m) can

  by_seen : (way : Way) (s : Read) → segment_read way d.service d.servers p ≡ s → length (on_seen d x now s).lent.packet ≡ length p
  by_seen way (Err why) e = refl
  by_seen way (Ok m) e = by_clock m (segment_redirectable d p m way e) (ltb now d.clock)

  pub packet_length : (way : Way) → length (packet_of way d row p now).lent.packet ≡ length p
  unfolding packet_of packet_held
  packet_length way =
      ⊎_elim
      (λ (e : sound_of d row ≡ true). rw e (by_seen way (segment_read way d.service d.servers p) refl))
      (λ (e : sound_of d row ≡ false). rw e)
      (truth (sound_of d row))
