-- The largest weight and the divisor that a state holds: true in a sound state and judged by it, and left as they are by ticks and packets. Assumes
-- nothing.
use Rattle.std.specs.Prelude.{Ok, Err}
use Prim.Native.Nat.{ℕ}
use mathlib.Core.Bool.{Bool, true, false}
use mathlib.Core.List.{List, []}
use mathlib.Core.Path.{◌≡◌, refl, sym, ◌∙◌}
use lib.Dec.{ltb}
use Rattle.table.specs.declared.slot.Slot.{Slot}
use Rattle.director.specs.declared.state.Director.{Director}
use Rattle.director.specs.declared.state.Way.{Way}
use Rattle.director.specs.declared.segment.Segment.{Segment}
use Rattle.director.specs.Segment.{Read, segment_read}
use Rattle.director.specs.declared.decide.Decision.{Decision}
use Rattle.director.specs.State.{Lent, lent, in_slots}
use Rattle.director.specs.Judge.{sound_of}
use Rattle.director.specs.Decide.{decided}
use Rattle.director.specs.Carry.{carried_out}
use Rattle.director.specs.Tick.{settled, settled_lent, tick_on_clock, tick_on_sound, tick_of}
use Rattle.director.specs.Packets.{routed, on_clock, on_seen, packet_held, packet_on_sound, packet_of}
use Rattle.director.specs.Laws.{with_weights, WeightsTrue, WeightsJudged, WeightsLeft}
use Rattle.director.proofs.Sound.{Sound, sound_parts}

pub weights_true : WeightsTrue
weights_true d row sound = let e = (sound_parts d row sound).weights in (e, rw e refl)

pub weights_judged : WeightsJudged
weights_judged d row held sound = (agreed, judged)
  where
    whole : Sound d row
    whole = sound_parts d row sound

    agreed : sound_of (with_weights d held) row ≡ true → held ≡ d.weights
    agreed e = (sound_parts (with_weights d held) row e).weights ∙ sym whole.weights

    judged : held ≡ d.weights → sound_of (with_weights d held) row ≡ true
    judged e = rw e sound

carried-left : (d : Director) (x : Lent (List Slot)) (m : Segment) (q : Decision) → (carried_out d x m q).director.weights ≡ d.weights
carried-left d x m (Decision.Refuse why) = refl
carried-left d x m (Decision.Keep k) = refl
carried-left d x m (Decision.End k) = refl
carried-left d x m (Decision.Open k i walk) = refl
carried-left d x m (Decision.Renew old k i walk) = refl

module _ (d : Director) (now : ℕ) where
  ticked_left : (x : Lent (List Slot)) (early : Bool) → (tick_on_clock d x now early).director.weights ≡ d.weights
  ticked_left x true = refl
  ticked_left x false = refl

  clock_left : (x : Lent (List Slot)) (m : Segment) (early : Bool) → (on_clock d x m now early).director.weights ≡ d.weights
  unfolding routed
  clock_left x m true = refl
  clock_left x m false =
      let after = settled_lent d x now in
      carried-left (settled d x.table now) after m (decided (settled d x.table now) after.table m)

  seen-left : (x : Lent (List Slot)) (s : Read) → (on_seen d x now s).director.weights ≡ d.weights
  seen-left x (Err why) = refl
  seen-left x (Ok m) = clock_left x m (ltb now d.clock)

  tick-left : (x : Lent (List ℕ)) (sound : Bool) → (tick_on_sound d x now sound).director.weights ≡ d.weights
  tick-left x true = ticked_left (in_slots x) (ltb now d.clock)
  tick-left x false = refl

  packet_left : (way : Way) (x : Lent (List ℕ)) (sound : Bool) → (packet_on_sound way d x now sound).director.weights ≡ d.weights
  unfolding packet_held
  packet_left way x true = seen-left (in_slots x) (segment_read way d.service d.servers x.packet)
  packet_left way x false = refl

pub weights_left : WeightsLeft
unfolding tick_of packet_of
weights_left d row now = (tick-left d now (lent row []) (sound_of d row), λ way p. packet_left d now way (lent row p) (sound_of d row))
