-- Packets served one after another at one clock. Assumes nothing: these are definitions.
use Rattle.std.specs.Prelude.{◌≡◌, ℕ, ◌+◌, cond, List, [], ◌∷◌, ◌++◌, length}
use Rattle.checksum.specs.Ones.{Bytes}
use Rattle.director.specs.declared.state.Director.{Director}
use Rattle.director.specs.declared.state.Answer.{Answer}
use Rattle.director.specs.State.{is_accepted}
use Rattle.director.specs.Tick.{tick_of}
use Rattle.serving.specs.Way.{way_of, taken_of}
use Rattle.serving.specs.Told.{told_by}
use Rattle.serving.specs.Counters.{counted}
use Rattle.serving.specs.Trace.{traced}

-- what packet calls leave behind: the state, the row, the counters, the records of so many packets, and these packets, one behind the other
pub record Standing : Type 0 where
  pub director : Director
  pub row : List ℕ
  pub counters : List ℕ
  pub records : List ℕ
  pub taken : ℕ
  pub packets : List ℕ

abbrev pub standing : Director → (row counters records : List ℕ) → ℕ → (packets : List ℕ) → Standing
standing d row counters records taken packets = record { director = d; row = row; counters = counters; records = records; taken = taken; packets = packets }

-- one packet, by the single call that it is given to
abbrev pub once_served : Standing → List ℕ → Standing
once_served s p =
    let r = taken_of s.director s.row p in
    let way = way_of s.director.service.address p in
    standing r.director r.lent.table (counted s.counters way r.answer) (traced s.records s.taken (length p) way (told_by r.answer)) (s.taken + 1)
    (s.packets ++ r.lent.packet)

-- packets one after another
unfoldable pub served_by : Standing → List (List ℕ) → Standing
served_by s [] = s
served_by s (p ∷ ps) = served_by (once_served s p) ps

-- each packet is of bytes
abbrev pub AllBytes : List (List ℕ) → Type 0
AllBytes [] = Unit {0}
AllBytes (p ∷ ps) = Bytes p × AllBytes ps

-- there are so many packets that lead from one standing to the other
pub record Served (s t : Standing) (n : ℕ) : Type 0 where
  pub packets : List (List ℕ)
  pub bytes : AllBytes packets
  pub number : length packets ≡ n
  pub leads : t ≡ served_by s packets

-- how many packets are taken at most, by the answer to the tick that comes first: none where it is refused
abbrev pub packets_after : Answer → ℕ → ℕ
packets_after a most = cond (is_accepted a) most 0

-- what the tick leaves
abbrev pub after_tick : Director → (row counters records : List ℕ) → ℕ → Standing
after_tick d row counters records now = let t = tick_of d row now in standing t.director t.lent.table counters records 0 []
