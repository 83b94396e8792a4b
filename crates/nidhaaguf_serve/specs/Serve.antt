-- What serving gives back to C. Assumes nothing: these are definitions.
use Rattle.std.specs.Prelude.{ℕ, ◌≤◌, false, List, ◌≡◌, take}
use Rattle.director.specs.declared.state.Director.{Director}
use Rattle.director.specs.declared.state.Answer.{Answer}
use Rattle.director.specs.State.{is_accepted}
use Rattle.director.specs.Tick.{tick_of}
use Rattle.serving.specs.Trace.{packets_traced}
use Rattle.serving.specs.Serve.{standing, Served as ServedBy, packets_after, after_tick}
use Rattle.nidhaaguf.specs.declared.state.State.{State}
use Rattle.nidhaaguf.specs.declared.reply.Reply.{Reply}
use Rattle.nidhaaguf.specs.State.{decoded}
use Rattle.nidhaaguf.specs.Reply.{reply_of}
use Rattle.nidhaaguf_serve.specs.declared.Served.{Served}

-- a reply, with how many packets there were
abbrev pub counting : Reply → (taken unsent : ℕ) → Served
counting r taken unsent = record { state = r.state; refusal = r.refusal; removed = r.number; taken = taken; unsent = unsent }

-- the reply: that of a tick with this answer, with the state after the packets; the state handed in, in every field, where the tick is refused
abbrev pub served_reply : State → Director → Answer → (taken unsent : ℕ) → Served
served_reply given d a taken unsent = counting (reply_of given d a) taken unsent

-- what serving came to: packets, as many as it says, none where the tick is refused, that the single calls one after another after the tick lead
-- from what it was handed to what it left: state, row, counters, the records of them, and up to some end the buffer, in which they stand one behind
-- the other as they left; where the tick is refused the buffer is as it came
pub record ServedFrom (given : State) (row buffer records counters : List ℕ) (clock most : ℕ) (r : Served) (row' buffer' records' counters' : List ℕ) : Type 0 where
  pub director : Director
  pub end : ℕ
  pub few : r.taken ≤ packets_after (tick_of (decoded given) row clock).answer (packets_traced records most)
  pub unread : is_accepted (tick_of (decoded given) row clock).answer ≡ false → buffer' ≡ buffer
  pub unsent : r.unsent ≤ r.taken
  pub served : ServedBy (after_tick (decoded given) row counters records clock) (standing director row' counters' records' r.taken (take end buffer')) r.taken
  pub reply : r ≡ served_reply given director (tick_of (decoded given) row clock).answer r.taken r.unsent
