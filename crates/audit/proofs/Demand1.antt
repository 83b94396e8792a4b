-- Demand 1 holds of every call: the refusal is exactly that of the lowest-placed failing test, and it leaves what it should. Assumes nothing.
use Rattle.std.specs.Prelude.{Ok, Err}
use Prim.Native.Nat.{ℕ, ◌≤◌}
use mathlib.Core.Bool.{Bool, true, false, ◌||◌, true≢false}
use mathlib.Core.List.{List, [], ◌∷◌}
use mathlib.Core.Path.{◌≡◌, refl, sym, subst, ◌∙◌}
use mathlib.Core.Logic.{◌≢◌}
use native.Mathlib.Omega.{arith}
use borrow.Author.Tests.{eqb-false, ne_eqb}
use lib.Dec.{eqb, ltb}
use Rattle.lists.proofs.Cases.{by_test}
use Rattle.table.specs.Slots.{slots}
use Rattle.director.specs.declared.state.Director.{Director}
use Rattle.director.specs.declared.state.Refusal.{Refusal}
use Rattle.director.specs.declared.state.Answer.{Answer}
use Rattle.director.specs.declared.state.Way.{Way}
use Rattle.director.specs.declared.segment.Segment.{Segment}
use Rattle.director.specs.Segment.{Read, segment_read}
use Rattle.director.specs.declared.decide.Decision.{Decision}
use Rattle.director.specs.State.{refusal_number, keeps_clock, changes_nothing, lent, Held, in_words}
use Rattle.director.specs.Judge.{sound_of}
use Rattle.director.specs.Tick.{settled_slots}
use Rattle.director.specs.Decide.{decided}
use Rattle.director.specs.Carry.{carried_out}
use Rattle.director.specs.Packets.{routed, on_clock, on_seen, packet_held, packet_on_sound, packet_of}
use Rattle.director.proofs.Refusals.{EarlySeen, read_early}
use Rattle.audit.specs.Calls.{Call, set_up, set_weight, count, tick, packet, packet_in, State, called}
use Rattle.audit.specs.Demand1.{Test, lowest_failing, tests, number_given, Left, settled_at, LeftSettled, Demand1}
use Rattle.audit.proofs.Numbers.{numbers_agree}
use Rattle.audit.proofs.Leaving.{called-leaves}
use Rattle.audit.proofs.Exactly.{exactly}

-- 1. The numbers that keep the clock

-- 12, 13 and 14, and no others
abbrev pub Other : ℕ → Type 0
Other n = (n ≢ 12) × (n ≢ 13) × (n ≢ 14)

neither : (a b : Bool) → (a || b) ≡ false → (a ≡ false) × (b ≡ false)
neither true b e = absurd (true≢false e)
neither false b e = (refl, e)

module _ (why : Refusal) (n : ℕ) (e : refusal_number why ≡ n) where
  others_back : Other n → keeps_clock why ≡ false
  others_back (a, b, c) = sym (numbers_agree why) ∙ rw (e, ne_eqb n 12 a, ne_eqb n 13 b, ne_eqb n 14 c)

  back_others : keeps_clock why ≡ false → Other n
  back_others back =
      let (a, rest) = neither (eqb n 12) _ (rw e at (numbers_agree why ∙ back)) in
      let (b, last) = neither (eqb n 13) _ rest in
      (eqb-false n 12 a, eqb-false n 13 b, eqb-false n 14 (neither (eqb n 14) false last).0)

-- a number that is given is a refusal's
given_why : (a : Answer) → 1 ≤ number_given a → (why : Refusal) × (a ≡ Answer.Refused why) × (refusal_number why ≡ number_given a)
given_why Answer.Done h = absurd (omega arith)
given_why (Answer.Number n) h = absurd (omega arith)
given_why (Answer.Passed i change) h = absurd (omega arith)
given_why (Answer.Refused why) h = (why, refl, refl)

-- any other number is of a refusal that changes nothing
pub nothing_changed : (a : Answer) (n : ℕ) → 1 ≤ n → Other n → number_given a ≡ n → changes_nothing a ≡ true
nothing_changed a n low other e =
    let (why, answer, number) = given_why a (omega arith) in
    rw (answer, others_back why n (number ∙ e) other)

-- 2. What 12 to 14 leave

-- one of the three is given
pub record Late (n : ℕ) : Type 0 where
  pub low : 12 ≤ n
  pub high : n ≤ 14

-- a call whose tests have none of the three gives none
abbrev NoneLate : List Test → Type 0
NoneLate [] = Unit {0}
NoneLate (t ∷ ts) = (Late t.number → ⊥) × NoneLate ts

none_late : (ts : List Test) → NoneLate ts → Late (lowest_failing ts) → ⊥
none_late [] none = λ (late : Late 0). omega (arith, late.low)
none_late (t ∷ ts) (here, none) =
    by_test (λ (n : ℕ). Late n → ⊥) t.fails t.number (lowest_failing ts) (λ _. here) (λ _. none_late ts none)

early : (n : ℕ) → n ≤ 11 → Late n → ⊥
early n h late = omega (arith, late.low)

module _ (s : State) (way : Way) (p : List ℕ) (now : ℕ) where
  abbrev d : Director
  d = s.director

  abbrev Goal : Held → Type 0
  Goal h = Late (number_given h.answer) → Left (settled_at s now) p (in_words h)

  -- a refusal that keeps no clock is none of the three
  back : (why : Refusal) → keeps_clock why ≡ false → Late (refusal_number why) → ⊥
  back why e late = let (a, b, c) = back_others why (refusal_number why) refl e in omega (arith, late.low, late.high)

  by_decision : (m : Segment) (a : Decision) → Goal (carried_out (settled_at s now).director (lent (settled_slots d (slots s.row) now) p) m a)
  by_decision m (Decision.Refuse why) late = record { director = refl; lent = refl }
  by_decision m (Decision.Keep k) late = absurd (early 0 (omega arith) late)
  by_decision m (Decision.End k) late = absurd (early 0 (omega arith) late)
  by_decision m (Decision.Open k i walk) late = absurd (early 0 (omega arith) late)
  by_decision m (Decision.Renew old k i walk) late = absurd (early 0 (omega arith) late)

  by_clock : (m : Segment) (earlier : Bool) → Goal (on_clock d (lent (slots s.row) p) m now earlier)
  unfolding routed
  by_clock m true late = absurd (early 11 (omega arith) late)
  by_clock m false late = by_decision m (decided (settled_at s now).director (settled_slots d (slots s.row) now) m) late

  by_seen : (x : Read) → EarlySeen x → Goal (on_seen d (lent (slots s.row) p) now x)
  by_seen (Err why) known late = absurd (back why known.back late)
  by_seen (Ok m) known late = by_clock m (ltb now d.clock) late

  packet_settled : Late (number_given (packet_of way d s.row p now).answer) → Left (settled_at s now) p (packet_of way d s.row p now)
  unfolding packet_of packet_held
  packet_settled = by_sound (sound_of d s.row)
    where
      by_sound : (sound : Bool) → Late (number_given (packet_on_sound way d (lent s.row p) now sound).answer) → Left (settled_at s now) p (packet_on_sound way d (lent s.row p) now sound)
      by_sound true late = by_seen (segment_read way d.service d.servers p) (read_early way d.service d.servers p) late
      by_sound false late = absurd (omega (arith, late.high))

left-settled : (s : State) (c : Call) → Late (number_given (called s c).answer) → LeftSettled s c (called s c)
left-settled s c late = by_call c (subst Late (exactly s c) late) late
  where
    by_call : (c : Call) → Late (lowest_failing (tests s c)) → Late (number_given (called s c).answer) → LeftSettled s c (called s c)
    by_call (set_up g given) late _ =
        none_late (tests s (set_up g given)) (early 1 (omega arith), (early 2 (omega arith), (early 3 (omega arith), (early 4 (omega arith), tt)))) late
    by_call (set_weight k w) late _ = none_late (tests s (set_weight k w)) ((λ l. omega (arith, l.high)), (early 5 (omega arith), tt)) late
    by_call (count k) late _ = none_late (tests s (count k)) ((λ l. omega (arith, l.high)), (early 5 (omega arith), tt)) late
    by_call (tick now) late _ = none_late (tests s (tick now)) ((λ l. omega (arith, l.high)), (early 11 (omega arith), tt)) late
    by_call (packet way p now) _ late = packet_settled s way p now late

-- 3. The demand

pub demand1 : Demand1
demand1 s c fits = record {
  exactly = exactly s c;
  to11 = λ n low high e. unchanged n low (λ q. omega arith, λ q. omega arith, λ q. omega arith) e;
  at15 = λ e. unchanged 15 (omega arith) (λ q. omega arith, λ q. omega arith, λ q. omega arith) e;
  at20 = λ e. unchanged 20 (omega arith) (λ q. omega arith, λ q. omega arith, λ q. omega arith) e;
  to14 = λ n low high e. left-settled s c (record { low = omega arith; high = omega arith });
}
  where
    unchanged : (n : ℕ) → 1 ≤ n → Other n → number_given (called s c).answer ≡ n → Left s (packet_in c) (called s c)
    unchanged n low other e =
        let (director, lent) = (called-leaves s c fits).back (nothing_changed (called s c).answer n low other e) in
        record { director = director; lent = lent }
