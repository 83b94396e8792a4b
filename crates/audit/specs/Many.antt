-- Runs in which calls stand that take many packets: each stands for a tick and the packet calls that come after it. Assumes nothing: these
-- are definitions.
use Rattle.std.specs.Prelude.{ℕ, ◌+◌, ◌*◌, ◌<◌, true, cond, List, [], ◌∷◌, ◌++◌, map, ◌≡◌, length}
use Rattle.checksum.specs.Ones.{Bytes}
use Rattle.servers.specs.declared.Server.{Server}
use Rattle.director.specs.declared.state.Service.{Service}
use Rattle.director.specs.declared.state.Answer.{Answer}
use Rattle.director.specs.State.{is_accepted}
use Rattle.director.specs.Tick.{tick_of}
use Rattle.serving.specs.Told.{told_by}
use Rattle.serving.specs.Way.{way_of}
use Rattle.serving.specs.Trace.{trace_at, trace_of}
use Rattle.serving.specs.Serve.{AllBytes, served_by, after_tick}
use Rattle.serving.specs.Burst.{packets_in, packet_at, packets_below, told_at, burst_call_of}
use Rattle.audit.specs.Calls.{Call, set_up, tick, packet, Fits, State, called, next, after, record_of}
use Rattle.audit.specs.Book.{Book, book_of}
use Rattle.audit.specs.Claim.{Claim}

-- a step of a run: one of the six calls; a burst, with the packets and the records that it is lent; or serving, with the packets that it took
pub data Step : Type 0 where
  one : Call → Step
  burst : (packets records : List ℕ) → (now : ℕ) → Step
  serve : (packets : List (List ℕ)) → (now : ℕ) → Step

-- the numbers of a step fit their types
abbrev pub StepFits : Step → Type 0
StepFits (one c) = Fits c
StepFits (burst packets records now) = Bytes packets
StepFits (serve packets now) = AllBytes packets

abbrev pub AllStepsFit : List Step → Type 0
AllStepsFit [] = Unit {0}
AllStepsFit (m ∷ ms) = StepFits m × AllStepsFit ms

-- the packets that are taken after a tick: none where it is refused
abbrev pub packets_taken : State → ℕ → List (List ℕ) → List (List ℕ)
packets_taken s now ps = cond (is_accepted (tick_of s.director s.row now).answer) ps []

-- what a step leaves: what its function's contract says (of serving, the packets that it took lead there, whatever the counters were)
abbrev pub left : State → Step → State
left s (one c) = next s c
left s (burst packets records now) =
    let b = (burst_call_of s.director s.row packets records now).left in
    record { director = b.director; row = b.row }
left s (serve packets now) =
    let t = served_by (after_tick s.director s.row [] [] now) (packets_taken s now packets) in
    record { director = t.director; row = t.row }

-- the single calls that packets at a clock are given to, where the virtual address is this
abbrev pub packet_calls : (address now : ℕ) → List (List ℕ) → List Call
packet_calls address now ps = map (λ (p : List ℕ). packet (way_of address p) p now) ps

abbrev pub tick_and_packets : State → ℕ → List (List ℕ) → List Call
tick_and_packets s now ps = tick now ∷ packet_calls s.director.service.address now (packets_taken s now ps)

-- the single calls that a step stands for; the packets of a burst are those that it was handed
abbrev pub calls_of : State → Step → List Call
calls_of s (one c) = c ∷ []
calls_of s (burst packets records now) = tick_and_packets s now (packets_below packets records (packets_in packets records))
calls_of s (serve packets now) = tick_and_packets s now packets

-- the state that steps in a row leave, and the single calls that they stand for
abbrev pub left_by : State → List Step → State
left_by s [] = s
left_by s (m ∷ ms) = left_by (left s m) ms

abbrev pub calls_in : State → List Step → List Call
calls_in s [] = []
calls_in s (m ∷ ms) = calls_of s m ++ calls_in (left s m) ms

-- Demand 3 of such a run: after an accepted setup and any steps the claim holds of the state that they leave and of the book of the single calls
-- that they stand for
abbrev pub Demand3Many : Type 0
Demand3Many =
    (s : State) (b : Book) (g : Service) (given : List Server) (ms : List Step)
    → Fits (set_up g given) → AllStepsFit ms → (called s (set_up g given)).answer ≡ Answer.Done
    → Claim (left_by s (one (set_up g given) ∷ ms)) (book_of b (record_of s (calls_in s (one (set_up g given) ∷ ms))))

-- The records of a burst tell the answers: of packet k, that to the single call of it, after the tick and the packets before it
abbrev pub RecordsTell : Type 0
RecordsTell =
    (s : State) (packets records : List ℕ) (now k : ℕ) → Bytes packets → is_accepted (tick_of s.director s.row now).answer ≡ true
    → k < packets_in packets records
    → let address = s.director.service.address in
    let before = after s (tick now ∷ packet_calls address now (packets_below packets records k)) in
    let p = packet_at packets records k in
    told_at (burst_call_of s.director s.row packets records now).left.records k ≡ told_by (called before (packet (way_of address p) p now)).answer

-- The records of a serve tell its packets: of each its length, its way and the answer to the single call of it, after the tick and the packets
-- before it
abbrev pub TracesTell : Type 0
TracesTell =
    (s : State) (counters records : List ℕ) (now : ℕ) (ps : List (List ℕ)) (p : List ℕ) (qs : List (List ℕ)) → AllBytes ps
    → is_accepted (tick_of s.director s.row now).answer ≡ true
    → 5 * length ps + 4 < length records
    → let address = s.director.service.address in
    let before = after s (tick now ∷ packet_calls address now ps) in
    trace_at (served_by (after_tick s.director s.row counters records now) (ps ++ p ∷ qs)).records (length ps)
    ≡ trace_of (length p) (way_of address p) (told_by (called before (packet (way_of address p) p now)).answer)
