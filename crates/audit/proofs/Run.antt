-- The runs answer and count as printed, and one meets demand 3's premise, by computation. Assumes nothing.
use Prim.Native.Nat.{ℕ, ◌<◌}
use mathlib.Core.Bool.{Bool, true, ◌&&◌}
use mathlib.Core.List.{List, [], ◌∷◌}
use mathlib.Core.Path.{◌≡◌, refl}
use borrow.Author.Tests.{ltb-true}
use lib.Dec.{ltb}
use lib.ListN.{get_or}
use Rattle.lists.specs.Fold.{fold_below, all_below}
use Rattle.lists.specs.Tests.{count_of, all_of, keep}
use Rattle.lists.proofs.Cases.{both}
use Rattle.checksum.specs.Ones.{Bytes}
use Rattle.packet.specs.Reading.{broken, fragment, tcp_malformed, udp_malformed, read_packet}
use Rattle.servers.specs.declared.Server.{Server}
use Rattle.servers.specs.Servers.{unused, server_at}
use Rattle.scheduler.specs.Ring.{ring_from}
use Rattle.scheduler.specs.Weights.{euclid, gcd_of}
use Rattle.table.specs.Slots.{slots, words}
use Rattle.table.specs.Find.{first_from}
use Rattle.table.specs.Expire.{cleared, lowered_by}
use Rattle.table.specs.Sound.{counts_are}
use Rattle.director.specs.Judge.{settings_judged, parts_sound, sound_of}
use Rattle.director.specs.Setup.{setup_of}
use Rattle.director.specs.Control.{number_judged, weight_of, count_call_of}
use Rattle.director.specs.Tick.{tick_of}
use Rattle.director.specs.Segment.{segment_read}
use Rattle.director.specs.Decide.{decided}
use Rattle.director.specs.Packets.{routed, packet_held, packet_of}
use Rattle.audit.specs.Calls.{Call, set_up, set_weight, count, tick, packet, Fits, AllFit}
use Rattle.audit.specs.Run.{first, rest, Runs}
use Rattle.lists.proofs.Selecting.{all_places}

-- a packet whose bytes pass the test has bytes
are_bytes : (p : List ℕ) → all_of (λ x. ltb x 256) p ≡ true → Bytes p
are_bytes p all = record { at = λ (k : ℕ). ltb-true (get_or p k 0) 256 (all_places (λ x. ltb x 256) p 0 all refl k) }

abbrev end_fits : Server → Bool
end_fits v = ltb v.address 4294967296 && ltb v.port 65536

-- servers that pass the test fit
ends_fit : (given : List Server) → all_of end_fits given ≡ true → (i : ℕ) → ((server_at given i).address < 4294967296) × ((server_at given i).port < 65536)
ends_fit given all i =
    let v = server_at given i in
    let (address, port) = both (ltb v.address 4294967296) (ltb v.port 65536) (all_places end_fits given unused all refl i) in
    (ltb-true _ _ address, ltb-true _ _ port)

-- the numbers of a call fit, as a test
abbrev call_fits : Call → Bool
call_fits (set_up g given) = ltb g.address 4294967296 && (ltb g.port 65536 && all_of end_fits given)
call_fits (set_weight k w) = true
call_fits (count k) = true
call_fits (tick now) = true
call_fits (packet way p now) = all_of (λ x. ltb x 256) p

call_fits_lem : (c : Call) → call_fits c ≡ true → Fits c
call_fits_lem (set_up g given) fits =
    let (address, others) = both (ltb g.address 4294967296) _ fits in
    let (port, ends) = both (ltb g.port 65536) _ others in
    (ltb-true _ _ address, ltb-true _ _ port, ends_fit given ends)
call_fits_lem (set_weight k w) fits = tt
call_fits_lem (count k) fits = tt
call_fits_lem (tick now) fits = tt
call_fits_lem (packet way p now) fits = are_bytes p fits

calls_fit : (cs : List Call) → all_of call_fits cs ≡ true → AllFit cs
unfolding all_of
calls_fit [] fits = tt
calls_fit (c ∷ cs) fits = let (one, others) = both (call_fits c) (all_of call_fits cs) fits in (call_fits_lem c one, calls_fit cs others)

pub runs : Runs
unfolding fold_below all_below count_of all_of keep broken fragment tcp_malformed udp_malformed read_packet ring_from euclid gcd_of slots words first_from cleared lowered_by counts_are settings_judged parts_sound sound_of setup_of number_judged weight_of count_call_of tick_of segment_read decided routed packet_held packet_of
runs = record {
  premise = record { fits = call_fits_lem first refl; all_fit = calls_fit rest refl; accepted = refl };
  tcp = refl;
  renewal = refl;
  renewed = record { row = refl; entries = λ b. refl };
  udp = refl;
  restart = refl;
  weighted = refl;
}
