-- What a call gives back to C: the director's answer in numbers (SCOPE section 4), beside the state. Assumes nothing: these are definitions.
use Rattle.std.specs.Prelude.{ℕ, true, cond, List, ◌≡◌}
use Rattle.director.specs.declared.state.Director.{Director}
use Rattle.director.specs.declared.state.Answer.{Answer}
use Rattle.director.specs.State.{changes_nothing, Lent, lent, Result}
use Rattle.serving.specs.declared.told.Told.{Told}
use Rattle.serving.specs.Told.{told_by}
use Rattle.nidhaaguf.specs.declared.state.State.{State}
use Rattle.nidhaaguf.specs.declared.reply.Reply.{Reply}
use Rattle.nidhaaguf.specs.State.{decoded, encoded}

-- what is told, with "the state .. beside it" (SCOPE 5.5)
abbrev pub beside : State → Told → Reply
beside s t = record { state = s; refusal = t.refusal; number = t.number; change = t.change }

-- the state that was handed in, in every field, where the refusal changes nothing; else the director's
abbrev pub state_after : State → Director → Answer → State
state_after given d a = cond (changes_nothing a) given (encoded d)

-- the reply to a call that was handed a state
abbrev pub reply_of : State → Director → Answer → Reply
reply_of given d a = beside (state_after given d a) (told_by a)

-- what is known of the state that was handed in where its place alone is at hand: after a refusal that changes nothing the director's is the
-- one handed in, decoded
pub record HandedIn (given : State) (place : ℕ) (d : Director) (a : Answer) : Type 0 where
  pub its_place : given.place ≡ place
  pub back : changes_nothing a ≡ true → d ≡ decoded given

-- everything that a call settles: its reply, and what it was lent as it leaves that
pub record Replied : Type 0 where
  pub reply : Reply
  pub lent : Lent (List ℕ)

-- what an exported function gives back, with the row and the packet at its exit
abbrev pub replied : Reply → (row packet : List ℕ) → Replied
replied r row packet = record { reply = r; lent = lent row packet }

-- the director's result as C gets it, of the state that C handed in
abbrev pub exported : State → Result → Replied
exported given r = record { reply = reply_of given r.director r.answer; lent = r.lent }
