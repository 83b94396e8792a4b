-- The four changes of the connection table, as functions on its slots. Assumes nothing: these are definitions.
use Rattle.std.specs.Prelude.{ℕ, List, get_or, set}
use Rattle.table.specs.declared.slot.Slot.{Slot}
use Rattle.table.specs.Slots.{slot_of, free_slot}
use Rattle.table.specs.Expire.{is_idle, cleared}

-- the slot of an opening: "phase 1, last-seen the clock" (SCOPE 8.4)
abbrev pub opened_slot : (address port server clock : ℕ) → Slot
opened_slot address port server clock = slot_of 1 address port server clock

-- a connection's slot after a packet of it: the phase that it is in then, and "Every accepted packet sets last-seen." (SCOPE 8.10)
abbrev pub touched_slot : (phase clock : ℕ) → Slot → Slot
touched_slot phase clock s = record { phase = phase; address = s.address; port = s.port; server = s.server; seen = clock }

-- a connection is opened in slot k
abbrev pub opened : List Slot → (k address port server clock : ℕ) → List Slot
opened l k address port server clock = set l k (opened_slot address port server clock)

-- the connection in slot k is touched by a packet of it
abbrev pub touched : List Slot → (k phase clock : ℕ) → List Slot
touched l k phase clock = set l k (touched_slot phase clock (get_or l k free_slot))

-- the connection in slot k is ended: "the slot zeroed" (SCOPE 8.8)
abbrev pub freed : List Slot → (k : ℕ) → List Slot
freed l k = set l k free_slot

-- the connections that are idle at a clock are removed
abbrev pub idle_removed : (protocol clock : ℕ) → List Slot → List Slot
idle_removed protocol clock l = cleared (is_idle protocol clock) l
