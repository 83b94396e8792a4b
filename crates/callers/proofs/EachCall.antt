-- Demands 1 and 2 as a program in C or Rust sees them: what it sees of a call is the director's result. Assumes nothing.
use Prim.Native.Nat.{ℕ, ◌≤◌}
use mathlib.Core.Path.{◌≡◌, refl, sym, subst, ◌∙◌}
use native.Mathlib.Omega.{arith}
use Rattle.director.specs.declared.state.Answer.{Answer}
use Rattle.audit.specs.Calls.{packet, called}
use Rattle.packet.specs.Bytes.{total_length}
use Rattle.director.specs.State.{Result}
use Rattle.audit.specs.Demand2.{ResultClaim, Alike}
use Rattle.audit.specs.Demand1.{RefusalClaim, number_given}
use Rattle.audit.proofs.Demand1.{Other, demand1, nothing_changed}
use Rattle.audit.proofs.Demand2.{demand2}
use Rattle.serving.specs.Told.{told_by}
use Rattle.callers.specs.Calls.{decoded_state, reply_to, seen}
use Rattle.callers.specs.Claim.{Demand1, Demand2}
use Rattle.callers.proofs.Seen.{seen-called}

-- a reply's refusal is the number that is given
told-given : (a : Answer) → (told_by a).refusal ≡ number_given a
told-given Answer.Done = refl
told-given (Answer.Number n) = refl
told-given (Answer.Passed i change) = refl
told-given (Answer.Refused why) = refl

pub demand1-seen : Demand1
demand1-seen h c fits = record {
  claim = subst (RefusalClaim (decoded_state h) c) (sym (seen-called h c fits)) (demand1 (decoded_state h) c fits);
  to11 = λ n low high e. same n low (λ q. omega arith, λ q. omega arith, λ q. omega arith) e;
  at15 = λ e. same 15 (omega arith) (λ q. omega arith, λ q. omega arith, λ q. omega arith) e;
  at20 = λ e. same 20 (omega arith) (λ q. omega arith, λ q. omega arith, λ q. omega arith) e;
}
  where
    same : (n : ℕ) → 1 ≤ n → Other n → (reply_to h c).reply.refusal ≡ n → (reply_to h c).reply.state ≡ h.state
    same n low other e =
        let a = (called (decoded_state h) c).answer in
        rw (nothing_changed a n low other (sym (told-given a) ∙ e))

pub demand2-seen : Demand2
demand2-seen h way p now fits bytes =
    let s = decoded_state h in
    let claim = demand2 way s.director s.row p now fits bytes in
    let here = sym (seen-called h (packet way p now) bytes) in
    record {
      result = subst (ResultClaim way s.director s.row p now) here claim.result;
      unread = λ p' fit same.
          subst (λ (r : Result). Alike (total_length p) r (seen h (packet way p' now))) here
          (subst (Alike (total_length p) (called s (packet way p now))) (sym (seen-called h (packet way p' now) fit)) (claim.unread p' fit same));
    }
