-- Demand 3: an accepted setup makes state and book agree, whatever they were; every call keeps them in agreement; and agreement gives the claim.
-- Assumes nothing.
use Rattle.std.specs.Prelude.{Ok, Err}
use mathlib.Core.Bool.{true}
use mathlib.Core.List.{List, [], ◌∷◌}
use mathlib.Core.Path.{◌≡◌, refl, sym, ap, subst}
use Prim.Native.Nat.{ℕ}
use native.Mathlib.Omega.{arith}
use Rattle.servers.specs.declared.Server.{Server}
use Rattle.table.specs.Slots.{slots}
use Rattle.director.specs.declared.state.Service.{Service}
use Rattle.director.specs.declared.state.Refusal.{Refusal}
use Rattle.director.specs.declared.state.Answer.{Answer}
use Rattle.director.specs.Judge.{Judged, settings_judged, sound_of}
use Rattle.director.specs.State.{changes_nothing, lent}
use Rattle.director.specs.Setup.{on_verdict, setup_of}
use Rattle.director.proofs.Sound.{judged}
use Rattle.director.proofs.Leaving.{leaves_sound}
use Rattle.director.proofs.Keeping.{setup_leaves}
use Rattle.audit.specs.Calls.{Call, set_up, Fits, AllFit, packet_in, State, called, next, after, record_of}
use Rattle.audit.specs.Book.{Book, note_setup, note, book_of}
use Rattle.audit.specs.Claim.{Claim, Demand3}
use Rattle.audit.proofs.Leaving.{called-leaves}
use Rattle.audit.proofs.Agreement.{Agree, agreed, once, matches_new}
use Rattle.audit.proofs.Steps.{counts, on_call}

-- a sound state that agrees with its book
record Audited (s : State) (b : Book) : Type 0 where
  sound : sound_of s.director s.row ≡ true
  agree : Agree s.director (slots s.row) b

-- 1. The calls of a list

audited_call : (s : State) (b : Book) (c : Call) → Audited s b → Fits c → Audited (next s c) (note b c (called s c).answer)
audited_call s b c a fits = record {
  sound = leaves_sound s.director (lent s.row (packet_in c)) (called s c) (called-leaves s c fits) a.sound;
  agree =
      subst (λ (x : Book). Agree (next s c).director (slots (next s c).row) (note x c (called s c).answer)) (sym a.agree.book)
      ((on_call s a.agree.given a.agree.entries a.sound a.agree.matches c).agree fits);
}

audited_calls : (cs : List Call) (s : State) (b : Book) → Audited s b → AllFit cs → Audited (after s cs) (book_of b (record_of s cs))
audited_calls [] s b a fits = a
audited_calls (c ∷ cs) s b a fits = audited_calls cs (next s c) (note b c (called s c).answer) (audited_call s b c a fits.0) fits.1

-- 2. What agreement says

claimed : (s : State) (b : Book) → Audited s b → Claim s b
claimed s b a =
    let g = a.agree in
    let right = on_call s g.given g.entries a.sound g.matches in
    subst (Claim s) (sym g.book) (record {
      counts = counts s g.given g.entries a.sound g.matches;
      once = once s.director (slots s.row) g.given g.entries g.matches;
      never15 = λ c. (right c).not15;
      calls = λ c. (right c).claim;
    })

-- 3. An accepted setup

refused-done : (why : Refusal) → Answer.Refused why ≡ Answer.Done → ⊥
refused-done why e = let z : ◌≡◌ {A = ℕ} 0 1 = cc in omega arith

audited_setup : (s : State) (b : Book) (g : Service) (given : List Server) → Fits (set_up g given) → (called s (set_up g given)).answer ≡ Answer.Done
    → Audited (next s (set_up g given)) (note b (set_up g given) (called s (set_up g given)).answer)
unfolding setup_of
audited_setup s b g given fits accepted =
    record { sound = (setup_leaves s.director g given s.row).sound (ap changes_nothing accepted); agree = by_verdict _ refl accepted }
  where
    by_verdict : (v : Judged) → settings_judged g given s.row ≡ v
        → let r = on_verdict s.director g given s.row v in r.answer ≡ Answer.Done → Agree r.director (slots r.lent.table) (note_setup b g given r.answer)
    by_verdict (Ok unit) e done = agreed _ _ _ _ (matches_new g given s.row (judged g given s.row e) fits)
    by_verdict (Err why) e done = absurd (refused-done why done)

pub demand3 : Demand3
demand3 s b g given cs fits all accepted =
    let first = set_up g given in
    claimed _ _ (audited_calls cs (next s first) (note b first (called s first).answer) (audited_setup s b g given fits accepted) all)
