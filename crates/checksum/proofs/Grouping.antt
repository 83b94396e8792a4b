-- The law of a sum by groups of specs/Laws.antt. A group is its two words and 65535 times the first, and a fold takes off 65535 times its carry.
use mathlib.Core.Path.{◌≡◌, refl, sym, ap, ◌∙◌}
use mathlib.Core.List.{List, [], ◌∷◌}
use Prim.Native.Nat.{ℕ, zero, suc, ◌+◌, ◌-◌, ◌*◌, ◌^◌, ◌/◌, ◌%◌, ◌≤◌, ◌<◌}
use native.Mathlib.Nat.{suc-add, add-suc}
use native.Mathlib.Omega.{arith}
use lib.ListN.{length, take, drop}
use lib.Seq.{length-take-le}
use Rattle.lists.proofs.Below.{below_tail, below_take}
use Rattle.std.proofs.Common.{map}
use Rattle.std.specs.Simd.{first_chunks}
use Rattle.checksum.specs.Ones.{Bytes, carried, words_of, sum_from, ones_sum, group_of, groups_of, group_at, WholeGroups, total, Foldable, folded}
use Rattle.checksum.specs.Laws.{GroupLaw}
use Rattle.checksum.proofs.Words.{words_fit, pairs_sum, words_odd, words_none}
use Rattle.checksum.proofs.Reduced.{reduced, reduced_small, reduced_more, reduced_carried, ones_sum_reduced}

-- the groups' sum beside the words': 65535 times the sum of the first words more
record Beside (b : List ℕ) : Type 0 where
  firsts : ℕ
  balanced : total (groups_of b) ≡ total (words_of b) + 65535 * firsts
  within : firsts ≤ total (words_of b)

beside : (b : List ℕ) → length b % 4 ≡ 0 → Beside b
beside [] h = record { firsts = 0; balanced = refl; within = omega arith }
beside (a ∷ []) h = absurd (omega arith)
beside (a ∷ b ∷ []) h = absurd (omega arith)
beside (a ∷ b ∷ c ∷ []) h = absurd (omega arith)
beside (a ∷ b ∷ c ∷ d ∷ bs) h =
    let rest = beside bs (omega arith) in
    record {
      firsts = a * 256 + b + rest.firsts;
      balanced = omega (arith, rest.balanced);
      within = omega (arith, rest.within);
    }

-- each group is below 2^32
groups_most : (b : List ℕ) → Bytes b → total (groups_of b) ≤ length b / 4 * (2 ^ 32 - 1)
groups_most [] all = omega arith
groups_most (a ∷ []) all = omega arith
groups_most (a ∷ b ∷ []) all = omega arith
groups_most (a ∷ b ∷ c ∷ []) all = omega arith
groups_most (a ∷ b ∷ c ∷ d ∷ bs) all =
    omega (arith, all.at 0, all.at 1, all.at 2, all.at 3, groups_most bs (below_tail (below_tail (below_tail (below_tail all)))))

-- so the sum of whole groups is below 2^46
pub groups_below : (b : List ℕ) → Bytes b → WholeGroups (length b) → Foldable (total (groups_of b))
groups_below b all whole = omega (arith, whole.1, groups_most b all)

-- and three folds of it give a word
pub folds_fit : (s : ℕ) → Foldable s → carried (carried (carried s)) < 65536
folds_fit s h = third (carried (carried s)) (second (carried s) (omega arith))
  where
    second : (t : ℕ) → t < 2 ^ 30 + 2 ^ 16 → carried t < 2 ^ 14 + 2 ^ 16 + 1
    second t l = omega arith

    third : (t : ℕ) → t < 2 ^ 14 + 2 ^ 16 + 1 → carried t < 65536
    third t l = omega arith

folded_reduced : (s : ℕ) → Foldable s → folded s ≡ reduced s
unfolding folded
folded_reduced s h =
    reduced_small (carried (carried (carried s))) (folds_fit s h)
    ∙ reduced_carried (carried (carried s)) ∙ reduced_carried (carried s) ∙ reduced_carried s

pub grouping : GroupLaw
grouping b all whole =
    let both = beside b whole.0 in
    folded_reduced (total (groups_of b)) (groups_below b all whole)
    ∙ ap reduced both.balanced
    ∙ reduced_more (total (words_of b)) both.firsts (λ e. omega (arith, both.within))
    ∙ sym (ones_sum_reduced (words_of b) (words_fit b all))

-- the groups of fours of bytes
abbrev pub groups_in : List (List ℕ) → List ℕ
groups_in fours = map (λ (x : List ℕ). group_at x 0) fours

pub fours_groups : (k : ℕ) (b : List ℕ) → k ≡ length b / 4 → groups_in (first_chunks 4 k b) ≡ groups_of b
fours_groups zero [] h = refl
fours_groups zero (a ∷ []) h = refl
fours_groups zero (a ∷ b ∷ []) h = refl
fours_groups zero (a ∷ b ∷ c ∷ []) h = refl
fours_groups zero (a ∷ b ∷ c ∷ d ∷ bs) h = absurd (omega arith)
fours_groups (suc k) [] h = absurd (omega arith)
fours_groups (suc k) (a ∷ []) h = absurd (omega arith)
fours_groups (suc k) (a ∷ b ∷ []) h = absurd (omega arith)
fours_groups (suc k) (a ∷ b ∷ c ∷ []) h = absurd (omega arith)
fours_groups (suc k) (a ∷ b ∷ c ∷ d ∷ bs) h = ap (λ (gs : List ℕ). group_of a b c d ∷ gs) (fours_groups k bs (omega arith))

-- words added to a sum: those of the bytes before an even place, and then those after it
cut_sum : (k s : ℕ) (b : List ℕ) → sum_from (sum_from s (words_of (take (k + k) b))) (words_of (drop (k + k) b)) ≡ sum_from s (words_of b)
cut_sum zero s b = refl
cut_sum (suc k) s [] = simp suc-add refl
cut_sum (suc k) s (x ∷ []) = simp (suc-add, add-suc) refl
cut_sum (suc k) s (x ∷ y ∷ b) = simp (suc-add, add-suc) (cut_sum k (carried (s + (x * 256 + y))) b)

-- of the bytes before a place at which a group ends
module _ (b : List ℕ) (m : ℕ) (all : Bytes b) (whole : WholeGroups m) (within : m ≤ length b) where
  front : WholeGroups (length (take m b))
  front = rw (length-take-le m b within) whole

  pub front_below : Foldable (total (groups_of (take m b)))
  front_below = groups_below (take m b) (below_take m all) front

  -- the first bytes summed by groups, and then the others by words
  pub front_sum : sum_from (folded (total (groups_of (take m b)))) (words_of (drop m b)) ≡ ones_sum (words_of b)
  front_sum =
      let half : m / 2 + m / 2 ≡ m = omega (arith, whole.0) in
      rw (grouping (take m b) (below_take m all) front) (rw half at (cut_sum (m / 2) 0 b))

-- what `groups_sum` and `ones_sum` are proved by
pub ruleset whole_groups = (fours_groups, groups_below)

pub ruleset front_and_rest = (front_below, front_sum, pairs_sum, words_odd, words_none)

-- three equal calls in a row, each by what it promised
pub three_times : (s once twice r : ℕ) → once ≡ carried s → twice ≡ carried once → r ≡ carried twice → r ≡ carried (carried (carried s))
three_times s once twice r first second third = third ∙ ap carried (second ∙ ap carried first)
