-- The six calls, a run of them, and its record. Assumes nothing: these are definitions.
use Rattle.std.specs.Prelude.{ℕ, ◌<◌, List, [], ◌∷◌}
use Rattle.checksum.specs.Ones.{Bytes}
use Rattle.servers.specs.declared.Server.{Server}
use Rattle.servers.specs.Servers.{server_at}
use Rattle.director.specs.declared.state.Service.{Service}
use Rattle.director.specs.declared.state.Director.{Director}
use Rattle.director.specs.declared.state.Answer.{Answer}
use Rattle.director.specs.declared.state.Way.{Way}
use Rattle.director.specs.State.{Result}
use Rattle.director.specs.Setup.{setup_of}
use Rattle.director.specs.Control.{weight_of, count_call_of}
use Rattle.director.specs.Tick.{tick_of}
use Rattle.director.specs.Packets.{packet_of}

-- a call's "arguments without state and rows, a packet as it was handed in" (SCOPE 9.1)
pub data Call : Type 0 where
  set_up : Service → List Server → Call
  set_weight : ℕ → ℕ → Call
  count : ℕ → Call
  tick : ℕ → Call
  packet : Way → List ℕ → ℕ → Call

-- addresses and ports fit their types, as they do in the code
abbrev pub EndsFit : Service → List Server → Type 0
EndsFit g servers =
    (g.address < 4294967296) × (g.port < 65536)
    × ((i : ℕ) → ((server_at servers i).address < 4294967296) × ((server_at servers i).port < 65536))

-- the numbers of a call fit their types
abbrev pub Fits : Call → Type 0
Fits (set_up g given) = EndsFit g given
Fits (set_weight k w) = Unit {0}
Fits (count k) = Unit {0}
Fits (tick now) = Unit {0}
Fits (packet way p now) = Bytes p

-- the packet that a call brings: none but a packet call brings one
abbrev pub packet_in : Call → List ℕ
packet_in (set_up g given) = []
packet_in (set_weight k w) = []
packet_in (count k) = []
packet_in (tick now) = []
packet_in (packet way p now) = p

-- what passes from call to call: "each is handed the state and row that the one before gave back" (SCOPE 3.1)
pub record State : Type 0 where
  pub director : Director
  pub row : List ℕ

-- one call: the outcome that its function's contract equals
abbrev pub called : State → Call → Result
called s (set_up g given) = setup_of s.director g given s.row
called s (set_weight k w) = weight_of s.director s.row k w
called s (count k) = count_call_of s.director s.row k
called s (tick now) = tick_of s.director s.row now
called s (packet way p now) = packet_of way s.director s.row p now

abbrev pub next : State → Call → State
next s c = let r = called s c in record { director = r.director; row = r.lent.table }

-- a call and its answer
pub record Line : Type 0 where
  pub call : Call
  pub answer : Answer

-- the state that calls in a row leave
abbrev pub after : State → List Call → State
after s [] = s
after s (c ∷ cs) = after (next s c) cs

-- their record
abbrev pub record_of : State → List Call → List Line
record_of s [] = []
record_of s (c ∷ cs) = record { call = c; answer = (called s c).answer } ∷ record_of (next s c) cs

-- every call of a list fits
abbrev pub AllFit : List Call → Type 0
AllFit [] = Unit {0}
AllFit (c ∷ cs) = Fits c × AllFit cs
