-- The laws of specs/Laws.antt: over every set of flags and every refusal; the tables by computation. Those of the order are proved beside the
-- calls that they are about, those of the weights in Weights.antt. Assumes nothing.
use Prim.Native.Nat.{ℕ}
use mathlib.Core.Bool.{Bool, true, false, and-false, false≢true}
use mathlib.Core.Path.{◌≡◌, refl}
use borrow.Author.Tests.{eqb-true}
use lib.Dec.{eqb}
use lib.ListN.{get_or}
use Rattle.lists.proofs.Cases.{both}
use Rattle.lists.specs.Tests.{keep}
use Rattle.packet.specs.declared.read.Fault.{Fault}
use Rattle.packet.specs.declared.read.Flags.{Flags}
use Rattle.scheduler.proofs.Largest.{no_weight_lem}
use Rattle.director.specs.declared.state.Refusal.{Refusal}
use Rattle.director.specs.declared.segment.Sender.{Sender}
use Rattle.director.specs.declared.segment.Segment.{Segment}
use Rattle.director.specs.Decide.{is_syn, opens, renews}
use Rattle.director.specs.Laws.{syn_alone, refusals, Laws}
use Rattle.director.proofs.Sound.{sound_parts}
use Rattle.director.proofs.Keeping.{unsound_first}
use Rattle.director.proofs.Decisions.{full_first, never_full, somebody}
use Rattle.director.proofs.KeepingPackets.{unread_first}
use Rattle.director.proofs.Weights.{weights_true, weights_judged, weights_left}

abbrev flags : (syn ack rst fin : Bool) → Flags
flags syn ack rst fin = record { syn = syn; ack = ack; rst = rst; fin = fin }

-- of the 16 sets of flags one is a SYN
alone : (syn ack rst fin : Bool) → is_syn (flags syn ack rst fin) ≡ true → flags syn ack rst fin ≡ syn_alone
alone syn true rst fin e = absurd (false≢true e)
alone syn false true fin e = absurd (false≢true e)
alone syn false false true e = absurd (false≢true e)
alone false false false false e = absurd (false≢true e)
alone true false false false e = refl

finished : (m : Segment) (phase : ℕ) → m.sender ≡ Sender.Client → renews m phase ≡ true → (phase ≡ 4) × (m.flags ≡ syn_alone)
finished m phase client e =
    let (last, syn) = both (eqb phase 4) (opens 6 m) e in
    (eqb-true _ _ last, alone m.flags.syn m.flags.ack m.flags.rst m.flags.fin (rw client at syn))

named : (why : Refusal) → (k : ℕ) × (get_or refusals k Refusal.Size ≡ why)
named Refusal.Size = (0, refl)
named Refusal.Service = (1, refl)
named Refusal.ServerUnset = (2, refl)
named Refusal.ServerRepeated = (3, refl)
named Refusal.NoServer = (4, refl)
named (Refusal.Packet Fault.MalformedHeader) = (5, refl)
named (Refusal.Packet Fault.Fragment) = (6, refl)
named (Refusal.Packet Fault.OtherProtocol) = (7, refl)
named (Refusal.Packet Fault.MalformedTransport) = (8, refl)
named Refusal.OtherEndpoint = (9, refl)
named Refusal.EarlierClock = (10, refl)
named Refusal.NoConnection = (11, refl)
named Refusal.TableFull = (12, refl)
named Refusal.NoWeight = (13, refl)
named Refusal.Unsound = (14, refl)
named (Refusal.Packet Fault.BadChecksum) = (15, refl)

pub laws : Laws
unfolding keep
laws = record {
  opens_tcp = λ m client. rw client (λ e. alone m.flags.syn m.flags.ack m.flags.rst m.flags.fin e, λ q. rw q);
  opens_udp = λ m client. rw client;
  opens_none = λ protocol m i server. rw server;
  renews_finished = λ m phase client. (λ e. finished m phase client e, λ q. rw (q.0, q.1, client));
  renews_none = λ m phase i server. rw (server, and-false);
  fin_inbound = refl;
  fin_outbound = λ i. refl;
  fin_clear = λ sender. refl;
  all_named = named;
  numbers = refl;
  clock_kept = refl;
  unsound_first = unsound_first;
  unread_first = unread_first;
  full_first = full_first;
  never_full = never_full;
  weights_true = weights_true;
  weights_judged = weights_judged;
  weights_left = weights_left;
  no_weight_exactly = λ d row sound. (no_weight_lem d.weights d.servers d.service.servers (sound_parts d row sound).weights).0;
  somebody = λ d row sound. somebody d row (sound_parts d row sound);
}
