-- The state that C hands from call to call is the director's: decoded, the state of a reply is the one that the director's call left, so what is
-- proved of the director's calls in a row holds of C's. By what a call leaves (`Leaves`). Assumes nothing.
use Prim.Native.Nat.{ℕ}
use mathlib.Core.List.{List}
use mathlib.Core.Path.{◌≡◌, refl, sym}
use native.Mathlib.Omega.{arith}
use Rattle.lists.proofs.Cases.{by_test}
use Rattle.director.specs.declared.state.Outcome.{Outcome}
use Rattle.director.specs.State.{changes_nothing, Lent, Result, result_of}
use Rattle.director.proofs.Leaving.{Leaves}
use Rattle.nidhaaguf.specs.declared.state.State.{State}
use Rattle.nidhaaguf.specs.State.{decoded, encoded}
use Rattle.nidhaaguf.specs.declared.reply.Reply.{Reply}
use Rattle.nidhaaguf.specs.Reply.{reply_of, HandedIn, replied, exported}
use Rattle.nidhaaguf.proofs.States.{sound_place, decoded-encoded}

-- the state that is handed on after a call is the director's
pub handed_on_lem : (given : State) (x : Lent (List ℕ)) (r : Result) → Leaves (decoded given) x r → decoded (exported given r).reply.state ≡ r.director
handed_on_lem given x r left =
    by_test (λ (s : State). decoded s ≡ r.director) (changes_nothing r.answer) given (encoded r.director)
    (λ e. sym (left.back e).0)
    (λ e. let place = sound_place r.director r.lent.table (left.sound e) in decoded-encoded r.director (omega (arith, place)))

-- the reply to a call with this outcome, row and packet, made from the handed state's place alone, is the one that C gets
pub as_exported : (given : State) (o : Outcome) (row p : List ℕ) (x : Lent (List ℕ)) (r : Result) → result_of o row p ≡ r → Leaves (decoded given) x r
    → (reply : Reply) → ((s : State) → HandedIn s given.place o.director o.answer → reply ≡ reply_of s o.director o.answer)
    → replied reply row p ≡ exported given r
as_exported given o row p x r e left reply made =
    rw (made given (record { its_place = refl; back = λ nothing. ((rw (← e) at left.back) nothing).0 }), ← e)
