-- The reply to a burst, made from the handed state's place alone, is the one that C gets. Assumes nothing.
use Prim.Native.Nat.{ℕ}
use mathlib.Core.Bool.{true}
use mathlib.Core.List.{List}
use mathlib.Core.Path.{◌≡◌, refl, ap}
use Rattle.director.specs.declared.state.Outcome.{Outcome}
use Rattle.director.specs.State.{changes_nothing}
use Rattle.serving.specs.Burst.{Burst, BurstResult, bursting, burst_result}
use Rattle.nidhaaguf.specs.declared.state.State.{State}
use Rattle.nidhaaguf.specs.declared.reply.Reply.{Reply}
use Rattle.nidhaaguf.specs.State.{decoded}
use Rattle.nidhaaguf.specs.Reply.{reply_of, HandedIn}
use Rattle.nidhaaguf.specs.Burst.{burst_replied, burst_exported}

pub burst-exported : (given : State) (o : Outcome) (row packets records row' packets' records' : List ℕ) (r : BurstResult) → burst_result o row' packets' records' ≡ r
    → (changes_nothing r.answer ≡ true → r.left ≡ bursting (decoded given) row packets records)
    → (reply : Reply) → ((s : State) → HandedIn s given.place o.director o.answer → reply ≡ reply_of s o.director o.answer)
    → burst_replied reply row' packets' records' ≡ burst_exported given r
burst-exported given o row packets records row' packets' records' r e back reply made =
    rw (made given (record { its_place = refl; back = λ nothing. ap (λ (b : Burst). b.director) ((rw (← e) at back) nothing) }), ← e)
