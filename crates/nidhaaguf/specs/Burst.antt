-- What a burst gives back to C. Assumes nothing: these are definitions.
use Rattle.std.specs.Prelude.{ℕ, List}
use Rattle.serving.specs.Burst.{BurstResult}
use Rattle.nidhaaguf.specs.declared.state.State.{State}
use Rattle.nidhaaguf.specs.declared.reply.Reply.{Reply}
use Rattle.nidhaaguf.specs.Reply.{reply_of}

-- everything that a burst settles: its reply, and what it was lent as it leaves that
pub record BurstReplied : Type 0 where
  pub reply : Reply
  pub row : List ℕ
  pub packets : List ℕ
  pub records : List ℕ

-- what the exported function gives back, with what it was lent at its exit
abbrev pub burst_replied : Reply → (row packets records : List ℕ) → BurstReplied
burst_replied r row packets records = record { reply = r; row = row; packets = packets; records = records }

-- the burst's result as C gets it, of the state that C handed in
abbrev pub burst_exported : State → BurstResult → BurstReplied
burst_exported given r = burst_replied (reply_of given r.left.director r.answer) r.left.row r.left.packets r.left.records
