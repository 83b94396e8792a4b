-- What a serve tells of each packet that it has taken. Assumes nothing: these are definitions.
use Rattle.std.specs.Prelude.{ℕ, ◌+◌, ◌*◌, ◌/◌, ◌%◌, ◌^◌, min, List, length, slice_index, slice_set}
use Rattle.director.specs.declared.state.Way.{Way}
use Rattle.serving.specs.declared.told.Told.{Told}
use Rattle.serving.specs.Told.{told_behind, told_in}

-- a way's number
abbrev pub way_number : Way → ℕ
way_number Way.Inbound = 0
way_number Way.Outbound = 1

-- where the record of packet k begins
abbrev pub record_start : ℕ → ℕ
record_start k = 5 * k

-- the records with that of packet k, of n bytes: five words, its length (of 32 bits), its way, then what its answer tells
abbrev pub traced : (records : List ℕ) → (k n : ℕ) → Way → Told → List ℕ
traced records k n way t = told_behind (slice_set (slice_set records (record_start k) (n % 2 ^ 32)) (record_start k + 1) (way_number way)) (record_start k + 1) t

-- what a record tells of its packet
pub record Trace : Type 0 where
  pub length : ℕ
  pub way : ℕ
  pub told : Told

-- of one of n bytes, so answered
abbrev pub trace_of : (n : ℕ) → Way → Told → Trace
trace_of n way t = record { length = n % 2 ^ 32; way = way_number way; told = t }

-- the record of packet k
abbrev pub trace_at : (records : List ℕ) → ℕ → Trace
trace_at records k = record { length = slice_index records (record_start k); way = slice_index records (record_start k + 1); told = told_in records (record_start k + 1) }

-- how many packets are taken at most: each has a whole record
abbrev pub packets_traced : (records : List ℕ) → ℕ → ℕ
packets_traced records most = min most (length records / 5)
