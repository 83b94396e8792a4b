-- The clock: storing it and removing idle connections, and the tick call. Assumes nothing: these are definitions.
use Rattle.std.specs.Prelude.{ℕ, Bool, true, false, List, [], ltb}
use Rattle.lists.specs.Tests.{count_of}
use Rattle.table.specs.declared.slot.Slot.{Slot}
use Rattle.table.specs.Expire.{is_idle, lowered_by}
use Rattle.table.specs.Changes.{idle_removed}
use Rattle.director.specs.declared.state.Director.{Director}
use Rattle.director.specs.declared.state.Refusal.{Refusal}
use Rattle.director.specs.declared.state.Answer.{Answer}
use Rattle.director.specs.State.{Lent, lent, with_table, Result, Held, in_slots, in_words, refusal}
use Rattle.director.specs.Judge.{sound_of}

-- a connection that is idle at a clock
abbrev pub idle_now : Director → ℕ → Slot → Bool
idle_now d now s = is_idle d.service.protocol now s

-- "After 11 is passed, the clock is stored and idle connections are removed" (SCOPE 5.4): the state, whose weights are the same, and the slots
abbrev pub settled : Director → List Slot → ℕ → Director
settled d l now =
    record { service = d.service; servers = lowered_by (idle_now d now) l d.servers; weights = d.weights; walk = d.walk; clock = now }

abbrev pub settled_slots : Director → List Slot → ℕ → List Slot
settled_slots d l now = idle_removed d.service.protocol now l

abbrev pub settled_lent : Director → Lent (List Slot) → ℕ → Lent (List Slot)
settled_lent d x now = with_table x (settled_slots d x.table now)

-- is the clock earlier than the stored one?
abbrev pub tick_on_clock : Director → Lent (List Slot) → ℕ → Bool → Held
tick_on_clock d x now true = refusal Refusal.EarlierClock d x
tick_on_clock d x now false =
    record { answer = Answer.Number (count_of (idle_now d now) x.table); director = settled d x.table now; lent = settled_lent d x now }

-- a tick of a sound state
abbrev pub tick_held : Director → Lent (List Slot) → ℕ → Held
tick_held d x now = tick_on_clock d x now (ltb now d.clock)

abbrev pub tick_on_sound : Director → Lent (List ℕ) → ℕ → Bool → Result
tick_on_sound d x now true = in_words (tick_held d (in_slots x) now)
tick_on_sound d x now false = refusal Refusal.Unsound d x

-- the tick call: "Tick 15, 11." (SCOPE 5.1)
unfoldable pub tick_of : Director → List ℕ → ℕ → Result
tick_of d row now = tick_on_sound d (lent row []) now (sound_of d row)
