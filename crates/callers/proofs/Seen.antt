-- What a program sees of a call is the director's result: the three numbers tell the answer, and the struct is the director's state.
-- Assumes nothing.
use Rattle.std.specs.Prelude.{Ok, Err}
use Prim.Native.Nat.{ℕ}
use mathlib.Core.Bool.{Bool, true, false}
use mathlib.Core.List.{List, []}
use mathlib.Core.Path.{◌≡◌, refl}
use lib.Dec.{ltb}
use Rattle.servers.specs.declared.Server.{Server}
use Rattle.table.specs.declared.slot.Slot.{Slot}
use Rattle.table.specs.Slots.{slots}
use Rattle.director.specs.declared.state.Service.{Service}
use Rattle.director.specs.declared.state.Director.{Director}
use Rattle.director.specs.declared.state.Refusal.{Refusal}
use Rattle.director.specs.declared.state.Answer.{Answer}
use Rattle.director.specs.declared.state.Way.{Way}
use Rattle.director.specs.Judge.{Judged}
use Rattle.director.specs.declared.segment.Segment.{Segment}
use Rattle.director.specs.Segment.{Read}
use Rattle.director.specs.declared.decide.Decision.{Decision}
use Rattle.director.specs.State.{Lent, lent}
use Rattle.director.specs.Judge.{settings_judged, sound_of}
use Rattle.director.specs.Setup.{on_verdict, setup_of}
use Rattle.director.specs.Control.{number_judged, on_weight, weight_of, on_count, count_call_of}
use Rattle.director.specs.Tick.{settled, settled_lent, tick_on_clock, tick_on_sound, tick_of}
use Rattle.director.specs.Segment.{segment_read}
use Rattle.director.specs.Decide.{decided}
use Rattle.director.specs.Carry.{carried_out}
use Rattle.director.specs.Packets.{routed, on_clock, on_seen, packet_held, packet_on_sound, packet_of}
use Rattle.audit.specs.Calls.{Call, set_up, set_weight, count, tick, packet, Fits, packet_in, State as DirectorState, called}
use Rattle.audit.proofs.Numbers.{each-refusal}
use Rattle.audit.proofs.Leaving.{called-leaves}
use Rattle.serving.specs.Told.{told_by}
use Rattle.nidhaaguf.proofs.Handed.{handed_on_lem}
use Rattle.callers.specs.Calls.{Handed, decoded_state, answer_of, seen}

-- 1. The three numbers tell the answer

-- an answer that its numbers tell
abbrev Tells : Call → Answer → Type 0
Tells c a = let t = told_by a in answer_of c t.refusal t.number t.change ≡ a

tells_refused : (c : Call) (why : Refusal) → Tells c (Answer.Refused why)
tells_refused c = each-refusal (λ why. let t = told_by (Answer.Refused why) in answer_of c t.refusal t.number t.change) Answer.Refused refl

module _ (d : Director) (row : List ℕ) where
  setup_tells : (g : Service) (given : List Server) (v : Judged) → Tells (set_up g given) (on_verdict d g given row v).answer
  setup_tells g given (Err why) = tells_refused (set_up g given) why
  setup_tells g given (Ok done) = refl

  weight_tells : (k w : ℕ) (v : Judged) → Tells (set_weight k w) (on_weight d row k w v).answer
  weight_tells k w (Err why) = tells_refused (set_weight k w) why
  weight_tells k w (Ok done) = refl

  count_tells : (k : ℕ) (v : Judged) → Tells (count k) (on_count d row k v).answer
  count_tells k (Err why) = tells_refused (count k) why
  count_tells k (Ok done) = refl

  tick_tells : (now : ℕ) (sound : Bool) → Tells (tick now) (tick_on_sound d (lent row []) now sound).answer
  tick_tells now false = tells_refused (tick now) Refusal.Unsound
  tick_tells now true = by_clock (ltb now d.clock)
    where
      by_clock : (earlier : Bool) → Tells (tick now) (tick_on_clock d (lent (slots row) []) now earlier).answer
      by_clock true = tells_refused (tick now) Refusal.EarlierClock
      by_clock false = refl

module _ (way : Way) (p : List ℕ) (now : ℕ) where
  decision_tells : (d : Director) (x : Lent (List Slot)) (m : Segment) (a : Decision) → Tells (packet way p now) (carried_out d x m a).answer
  decision_tells d x m (Decision.Refuse why) = tells_refused (packet way p now) why
  decision_tells d x m (Decision.Keep k) = refl
  decision_tells d x m (Decision.End k) = refl
  decision_tells d x m (Decision.Open k i walk) = refl
  decision_tells d x m (Decision.Renew old k i walk) = refl

  clock_tells : (d : Director) (x : Lent (List Slot)) (m : Segment) (earlier : Bool) → Tells (packet way p now) (on_clock d x m now earlier).answer
  unfolding routed
  clock_tells d x m true = tells_refused (packet way p now) Refusal.EarlierClock
  clock_tells d x m false = decision_tells (settled d x.table now) (settled_lent d x now) m (decided (settled d x.table now) (settled_lent d x now).table m)

  seen_tells : (d : Director) (x : Lent (List Slot)) (s : Read) → Tells (packet way p now) (on_seen d x now s).answer
  seen_tells d x (Err why) = tells_refused (packet way p now) why
  seen_tells d x (Ok m) = clock_tells d x m (ltb now d.clock)

  packet_tells : (d : Director) (row : List ℕ) (sound : Bool) → Tells (packet way p now) (packet_on_sound way d (lent row p) now sound).answer
  unfolding packet_held
  packet_tells d row false = tells_refused (packet way p now) Refusal.Unsound
  packet_tells d row true = seen_tells d (lent (slots row) p) (segment_read way d.service d.servers p)

pub called_tells : (s : DirectorState) (c : Call) → Tells c (called s c).answer
unfolding setup_of weight_of count_call_of tick_of packet_of
called_tells s (set_up g given) = setup_tells s.director s.row g given (settings_judged g given s.row)
called_tells s (set_weight k w) = weight_tells s.director s.row k w (number_judged s.director s.row k)
called_tells s (count k) = count_tells s.director s.row k (number_judged s.director s.row k)
called_tells s (tick now) = tick_tells s.director s.row now (sound_of s.director s.row)
called_tells s (packet way p now) = packet_tells way p now s.director s.row (sound_of s.director s.row)

-- 2. What is seen is the director's result

pub seen-called : (h : Handed) (c : Call) → Fits c → seen h c ≡ called (decoded_state h) c
seen-called h c fits =
    let s = decoded_state h in
    let r = called s c in
    rw (called_tells s c, handed_on_lem h.state (lent h.row (packet_in c)) r (called-leaves s c fits))
