-- Demand 3 as a program in C or Rust sees it: what it passes from call to call is the director's state, so the director's claim holds of it.
-- Assumes nothing.
use mathlib.Core.Bool.{false}
use mathlib.Core.List.{List, [], ◌∷◌}
use mathlib.Core.Path.{◌≡◌, refl, sym, ap, subst, ◌∙◌}
use lib.Dec.{eqb}
use Rattle.director.specs.declared.state.Answer.{Answer}
use Rattle.director.specs.State.{Result}
use Rattle.audit.specs.Calls.{Call, set_up, AllFit, Fits, State as DirectorState, called, next, after, record_of}
use Rattle.audit.specs.Book.{Book}
use Rattle.audit.specs.Claim.{refused, CallClaim, Claim as DirectorClaim}
use Rattle.audit.proofs.Demand3.{demand3}
use Rattle.serving.specs.Told.{told_by}
use Rattle.callers.specs.Calls.{Handed, decoded_state, handed_on, after_calls, seen_record}
use Rattle.callers.specs.Claim.{Claim, Demand3}
use Rattle.callers.proofs.Seen.{called_tells, seen-called}

-- what a result passes on to the next call
abbrev passed_on : Result → DirectorState
passed_on r = record { director = r.director; row = r.lent.table }

next-called : (h : Handed) (c : Call) → Fits c → decoded_state (handed_on h c) ≡ next (decoded_state h) c
next-called h c fits = ap passed_on (seen-called h c fits)

after-called : (cs : List Call) (h : Handed) → AllFit cs → decoded_state (after_calls h cs) ≡ after (decoded_state h) cs
after-called [] h fits = refl
after-called (c ∷ cs) h fits = after-called cs (handed_on h c) fits.1 ∙ ap (λ (s : DirectorState). after s cs) (next-called h c fits.0)

record_called : (cs : List Call) (h : Handed) → AllFit cs → seen_record h cs ≡ record_of (decoded_state h) cs
record_called [] h fits = refl
record_called (c ∷ cs) h fits = rw (called_tells (decoded_state h) c, record_called cs (handed_on h c) fits.1, next-called h c fits.0)

-- a reply's refusal is 15 where the answer's is
told_15 : (a : Answer) → refused 15 a ≡ false → eqb (told_by a).refusal 15 ≡ false
told_15 Answer.Done e = refl
told_15 (Answer.Number n) e = refl
told_15 (Answer.Passed i change) e = refl
told_15 (Answer.Refused why) e = e

-- the director's claim, as it is seen
claim_seen : (h : Handed) (b : Book) → DirectorClaim (decoded_state h) b → Claim h b
claim_seen h b claim = record {
  counts = claim.counts;
  once = claim.once;
  never15 = λ c. told_15 (called (decoded_state h) c).answer (claim.never15 c);
  calls = λ c fits. subst (CallClaim (decoded_state h) b c) (sym (seen-called h c fits)) (claim.calls c fits);
}

pub demand3-seen : Demand3
demand3-seen h b g given cs fits all accepted =
    let first = set_up g given in
    let done : (called (decoded_state h) first).answer ≡ Answer.Done = sym (called_tells (decoded_state h) first) ∙ rw accepted in
    let claim = demand3 (decoded_state h) b g given cs fits all done in
    claim_seen _ _ (rw (after-called (first ∷ cs) h (fits, all), record_called (first ∷ cs) h (fits, all)) claim)
