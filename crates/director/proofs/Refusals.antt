-- Which refusals arise before the clock is accepted: they change nothing, and are not 15. Assumes nothing.
use Rattle.std.specs.Prelude.{Ok, Err, Some, None, Option, Result}
use Rattle.servers.specs.declared.ServerNo.{ServerNo}
use Prim.Native.Nat.{ℕ}
use mathlib.Core.Bool.{false, ◌&&◌}
use mathlib.Core.List.{List}
use mathlib.Core.Path.{◌≡◌, refl}
use lib.Dec.{eqb}
use Rattle.lists.proofs.Cases.{by_test}
use Rattle.packet.specs.declared.read.Fault.{Fault}
use Rattle.packet.specs.declared.read.Packet.{Packet}
use Rattle.packet.specs.Reading.{read_packet}
use Rattle.servers.specs.declared.Server.{Server}
use Rattle.servers.specs.declared.rules.Rule.{Rule}
use Rattle.servers.specs.Rules.{all_keep, number_of}
use Rattle.director.specs.declared.state.Service.{Service}
use Rattle.director.specs.declared.state.Refusal.{Refusal}
use Rattle.director.specs.declared.state.Way.{Way}
use Rattle.director.specs.Judge.{Judged, service_right, sizes_right, settings_judged}
use Rattle.director.specs.Segment.{Read, inbound_segment, on_number, on_reading, segment_read}
use Rattle.director.specs.State.{refusal_number, keeps_clock}

-- a refusal that changes nothing and is not 15
pub record Early (why : Refusal) : Type 0 where
  pub back : keeps_clock why ≡ false
  pub not15 : eqb (refusal_number why) 15 ≡ false

abbrev pub EarlyVerdict : Judged → Type 0
EarlyVerdict (Ok done) = Unit {0}
EarlyVerdict (Err why) = Early why

abbrev pub EarlySeen : Read → Type 0
EarlySeen (Err why) = Early why
EarlySeen (Ok m) = Unit {0}

-- 1 to 4
pub settings_early : (g : Service) (given : List Server) (row : List ℕ) → EarlyVerdict (settings_judged g given row)
unfolding settings_judged
settings_early g given row =
    by_test EarlyVerdict (sizes_right g.servers row) _ _
    (λ _. by_test EarlyVerdict (service_right g) _ _
    (λ _. by_test EarlyVerdict (all_keep Rule.Set given g.servers) _ _
    (λ _. by_test EarlyVerdict (all_keep Rule.New given g.servers) _ _ (λ _. tt) (λ _. record { back = refl; not15 = refl }))
    (λ _. record { back = refl; not15 = refl }))
    (λ _. record { back = refl; not15 = refl }))
    (λ _. record { back = refl; not15 = refl })

-- 6, 20, 7, 8, 9
fault_early : (fault : Fault) → Early (Refusal.Packet fault)
fault_early Fault.MalformedHeader = record { back = refl; not15 = refl }
fault_early Fault.BadChecksum = record { back = refl; not15 = refl }
fault_early Fault.Fragment = record { back = refl; not15 = refl }
fault_early Fault.OtherProtocol = record { back = refl; not15 = refl }
fault_early Fault.MalformedTransport = record { back = refl; not15 = refl }

-- 6 to 10 and 20: what refuses a packet's reading
pub read_early : (way : Way) (g : Service) (servers : List Server) (p : List ℕ) → EarlySeen (segment_read way g servers p)
unfolding segment_read
read_early way g servers p = by_reading way (read_packet g.protocol p)
  where
    by_number : (r : Packet) (f : Option ServerNo) → EarlySeen (on_number r f)
    by_number r None = record { back = refl; not15 = refl }
    by_number r (Some i) = tt

    by_reading : (way : Way) (r : Result Packet Fault) → EarlySeen (on_reading way g servers r)
    by_reading way (Err fault) = fault_early fault
    by_reading Way.Inbound (Ok r) =
        by_test EarlySeen (eqb r.destination g.address && eqb r.transport.destination g.port) (inbound_segment r) (Err Refusal.OtherEndpoint)
        (λ _. tt) (λ _. record { back = refl; not15 = refl })
    by_reading Way.Outbound (Ok r) = by_number r (number_of servers r.source r.transport.source g.servers)
