-- The six exported functions called in a row, and what a program in C or Rust sees of them. Assumes nothing: these are definitions.
use Rattle.std.specs.Prelude.{ℕ, cond, List, [], ◌∷◌, eqb}
use Rattle.packet.specs.declared.read.Fault.{Fault}
use Rattle.director.specs.declared.state.Refusal.{Refusal}
use Rattle.director.specs.declared.state.Change.{Change}
use Rattle.director.specs.declared.state.Answer.{Answer}
use Rattle.director.specs.State.{Result}
use Rattle.audit.specs.Calls.{Call, set_up, set_weight, count, tick, packet, Line, called, State as DirectorState}
use Rattle.nidhaaguf.specs.declared.state.State.{State}
use Rattle.nidhaaguf.specs.declared.reply.Reply.{Reply}
use Rattle.nidhaaguf.specs.State.{decoded}
use Rattle.nidhaaguf.specs.Reply.{Replied, exported}

-- what a program passes from call to call: "each is handed the state and row that the one before gave back" (SCOPE 3.1)
pub record Handed : Type 0 where
  pub state : State
  pub row : List ℕ

-- the same as the director has it
abbrev pub decoded_state : Handed → DirectorState
decoded_state h = record { director = decoded h.state; row = h.row }

-- one call: what its exported function's contract equals
abbrev pub reply_to : Handed → Call → Replied
reply_to h c = exported h.state (called (decoded_state h) c)

abbrev pub handed_on : Handed → Call → Handed
handed_on h c = let r = reply_to h c in record { state = r.reply.state; row = r.lent.table }

-- what calls in a row leave in the program's hands
abbrev pub after_calls : Handed → List Call → Handed
after_calls h [] = h
after_calls h (c ∷ cs) = after_calls (handed_on h c) cs

-- The three numbers of a reply, read back

-- `change`: 1 opened, 2 kept, 3 ended
abbrev pub change_of : ℕ → Change
change_of n = cond (eqb n 1) Change.Opened (cond (eqb n 3) Change.Ended Change.Kept)

-- `refusal`, where it is not 0
abbrev pub refusal_of : ℕ → Refusal
refusal_of n =
    cond (eqb n 1) Refusal.Size
    (cond (eqb n 2) Refusal.Service
    (cond (eqb n 3) Refusal.ServerUnset
    (cond (eqb n 4) Refusal.ServerRepeated
    (cond (eqb n 5) Refusal.NoServer
    (cond (eqb n 6) (Refusal.Packet Fault.MalformedHeader)
    (cond (eqb n 7) (Refusal.Packet Fault.Fragment)
    (cond (eqb n 8) (Refusal.Packet Fault.OtherProtocol)
    (cond (eqb n 9) (Refusal.Packet Fault.MalformedTransport)
    (cond (eqb n 10) Refusal.OtherEndpoint
    (cond (eqb n 11) Refusal.EarlierClock
    (cond (eqb n 12) Refusal.NoConnection
    (cond (eqb n 13) Refusal.TableFull
    (cond (eqb n 14) Refusal.NoWeight
    (cond (eqb n 20) (Refusal.Packet Fault.BadChecksum) Refusal.Unsound))))))))))))))

-- `number` and `change`, where `refusal` is 0, by the call that is answered
abbrev pub accepted_by : Call → (number change : ℕ) → Answer
accepted_by (set_up g given) number change = Answer.Done
accepted_by (set_weight k w) number change = Answer.Done
accepted_by (count k) number change = Answer.Number number
accepted_by (tick now) number change = Answer.Number number
accepted_by (packet way p now) number change = Answer.Passed (record { 0 = number }) (change_of change)

abbrev pub answer_of : Call → (refusal number change : ℕ) → Answer
answer_of c refusal number change = cond (eqb refusal 0) (accepted_by c number change) (Answer.Refused (refusal_of refusal))

abbrev pub answer_in : Call → Reply → Answer
answer_in c r = answer_of c r.refusal r.number r.change

-- what a program sees of a call: the reply's numbers and struct, the row and the packet
abbrev pub seen : Handed → Call → Result
seen h c = let r = reply_to h c in record { answer = answer_in c r.reply; director = decoded r.reply.state; lent = r.lent }

-- the record of calls and what was seen of their answers
abbrev pub seen_record : Handed → List Call → List Line
seen_record h [] = []
seen_record h (c ∷ cs) = record { call = c; answer = (seen h c).answer } ∷ seen_record (handed_on h c) cs
