-- Packets in one lent buffer, taken one after another. Assumes nothing: these are definitions.
use Rattle.std.specs.Prelude.{ℕ, zero, suc, ◌*◌, ◌/◌, min, List, [], ◌∷◌, ◌++◌, length, take, drop, slice_index}
use Rattle.lists.specs.Fold.{fold_below}
use Rattle.packet.specs.Bytes.{on_part}
use Rattle.director.specs.declared.state.Director.{Director}
use Rattle.director.specs.declared.state.Answer.{Answer}
use Rattle.director.specs.declared.state.Outcome.{Outcome}
use Rattle.director.specs.Tick.{tick_of}
use Rattle.serving.specs.declared.told.Told.{Told}
use Rattle.serving.specs.Told.{told_by, told_behind, told_in}
use Rattle.serving.specs.Way.{taken_of}
use Rattle.serving.specs.Serve.{packets_after}

-- what a burst works on: packet k stands at byte 2,048 k, and has four words of the records: its length, then what its answer tells
pub record Burst : Type 0 where
  pub director : Director
  pub row : List ℕ
  pub packets : List ℕ
  pub records : List ℕ

abbrev pub bursting : Director → (row packets records : List ℕ) → Burst
bursting d row packets records = record { director = d; row = row; packets = packets; records = records }

-- how many packets there are: each has a whole place and a whole record
abbrev pub packets_in : (packets records : List ℕ) → ℕ
packets_in packets records = min (length packets / 2048) (length records / 4)

-- the length of packet k: no more than its place holds
abbrev pub length_of : (records : List ℕ) → ℕ → ℕ
length_of records k = min (slice_index records (4 * k)) 2048

-- packet k
abbrev pub packet_at : (packets records : List ℕ) → ℕ → List ℕ
packet_at packets records k = take (length_of records k) (drop (2048 * k) packets)

-- the first m packets
unfoldable pub packets_below : (packets records : List ℕ) → ℕ → List (List ℕ)
packets_below packets records zero = []
packets_below packets records (suc k) = packets_below packets records k ++ (packet_at packets records k ∷ [])

-- the records with the answer to packet k
abbrev pub recorded : (records : List ℕ) → ℕ → Told → List ℕ
recorded records k t = told_behind records (4 * k) t

-- what the records tell of packet k
abbrev pub told_at : (records : List ℕ) → ℕ → Told
told_at records k = told_in records (4 * k)

-- packet k, of n bytes, by the single call that it is given to
abbrev pub burst_taken : Burst → (k n : ℕ) → Burst
burst_taken b k n =
    let r = taken_of b.director b.row (take n (drop (2048 * k) b.packets)) in
    bursting r.director r.lent.table (on_part (2048 * k) n (λ _. r.lent.packet) b.packets) (recorded b.records k (told_by r.answer))

unfoldable pub burst_step : Burst → ℕ → Burst
burst_step b k = burst_taken b k (length_of b.records k)

-- the first m packets one after another
abbrev pub burst_of : Burst → ℕ → Burst
burst_of b m = fold_below burst_step b m

-- all that a burst call settles: its answer, and what it leaves
pub record BurstResult : Type 0 where
  pub answer : Answer
  pub left : Burst

-- what a function gives back, with what it was lent at its exit
abbrev pub burst_result : Outcome → (row packets records : List ℕ) → BurstResult
burst_result o row packets records = record { answer = o.answer; left = bursting o.director row packets records }

-- the burst call: a tick, and then all packets, or none where it is refused
unfoldable pub burst_call_of : Director → (row packets records : List ℕ) → ℕ → BurstResult
burst_call_of d row packets records now =
    let t = tick_of d row now in
    record {
      answer = t.answer;
      left = burst_of (bursting t.director t.lent.table packets records) (packets_after t.answer (packets_in packets records));
    }
