-- The packet calls. Assumes nothing: these are definitions.
use Rattle.std.specs.Prelude.{ℕ, Bool, true, false, List, ltb, Ok, Err}
use Rattle.table.specs.declared.slot.Slot.{Slot}
use Rattle.director.specs.declared.state.Director.{Director}
use Rattle.director.specs.declared.state.Refusal.{Refusal}
use Rattle.director.specs.declared.state.Way.{Way}
use Rattle.director.specs.declared.segment.Segment.{Segment}
use Rattle.director.specs.State.{Lent, lent, Result, Held, in_slots, in_words, refusal}
use Rattle.director.specs.Judge.{sound_of}
use Rattle.director.specs.Tick.{settled, settled_lent}
use Rattle.director.specs.Segment.{Read, segment_read}
use Rattle.director.specs.Decide.{decided}
use Rattle.director.specs.Carry.{carried_out}

-- a packet that got past 11, in a state whose clock is stored and whose idle connections are gone
unfoldable pub routed : Director → Lent (List Slot) → Segment → Held
routed d x m = carried_out d x m (decided d x.table m)

-- is the clock earlier than the stored one? 11
abbrev pub on_clock : Director → Lent (List Slot) → Segment → ℕ → Bool → Held
on_clock d x m now true = refusal Refusal.EarlierClock d x
on_clock d x m now false = routed (settled d x.table now) (settled_lent d x now) m

-- 6 to 10 and 20 as the reading has them
abbrev pub on_seen : Director → Lent (List Slot) → ℕ → Read → Held
on_seen d x now (Err why) = refusal why d x
on_seen d x now (Ok m) = on_clock d x m now (ltb now d.clock)

-- a packet call of a sound state
unfoldable pub packet_held : Way → Director → Lent (List Slot) → ℕ → Held
packet_held way d x now = on_seen d x now (segment_read way d.service d.servers x.packet)

abbrev pub packet_on_sound : Way → Director → Lent (List ℕ) → ℕ → Bool → Result
packet_on_sound way d x now true = in_words (packet_held way d (in_slots x) now)
packet_on_sound way d x now false = refusal Refusal.Unsound d x

-- a packet call: "Packets 15, 6, 20, 7 to 11, then 12 to 14." (SCOPE 5.1)
unfoldable pub packet_of : Way → Director → (row packet : List ℕ) → ℕ → Result
packet_of way d row packet now = packet_on_sound way d (lent row packet) now (sound_of d row)
