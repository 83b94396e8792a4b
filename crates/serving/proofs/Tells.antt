-- An answer written into words is the one that is read, and no other word changes. Assumes nothing.
use Rattle.std.proofs.Common.{◌≡◌, ℕ, ◌+◌, ◌<◌, ◌≢◌, List, length, get_or, set, ◌∙◌, arith, length-set, get_or-set_other, get_or-set_same}
use Rattle.serving.specs.declared.told.Told.{Told}
use Rattle.serving.specs.Told.{told_behind, told_in}

module _ (words : List ℕ) (at : ℕ) (t : Told) where
  abbrev first : List ℕ
  first = set words (at + 1) t.refusal

  abbrev second : List ℕ
  second = set first (at + 2) t.number

  -- writing an answer leaves every other word
  pub elsewhere : (i : ℕ) → i ≢ at + 1 → i ≢ at + 2 → i ≢ at + 3 → get_or (told_behind words at t) i 0 ≡ get_or words i 0
  elsewhere i a b c =
      get_or-set_other second (at + 3) i t.change 0 c ∙ get_or-set_other first (at + 2) i t.number 0 b ∙ get_or-set_other words (at + 1) i t.refusal 0 a

  -- the answer that is written is the one that is read
  pub told_here : at + 3 < length words → told_in (told_behind words at t) at ≡ t
  told_here h = rw (refusal, number, change)
    where
      refusal : get_or (told_behind words at t) (at + 1) 0 ≡ t.refusal
      refusal =
          get_or-set_other second (at + 3) (at + 1) t.change 0 (λ q. omega arith)
          ∙ get_or-set_other first (at + 2) (at + 1) t.number 0 (λ q. omega arith)
          ∙ get_or-set_same words (at + 1) t.refusal 0 (omega (arith, h))

      number : get_or (told_behind words at t) (at + 2) 0 ≡ t.number
      number =
          get_or-set_other second (at + 3) (at + 2) t.change 0 (λ q. omega arith)
          ∙ get_or-set_same first (at + 2) t.number 0 (simp length-set (omega (arith, h)))

      change : get_or (told_behind words at t) (at + 3) 0 ≡ t.change
      change = get_or-set_same second (at + 3) t.change 0 (simp length-set (omega (arith, h)))

  -- what stands before the place stays
  pub told_before : (i : ℕ) → i < at + 1 → get_or (told_behind words at t) i 0 ≡ get_or words i 0
  told_before i h = elsewhere i (λ q. omega (arith, h, q)) (λ q. omega (arith, h, q)) (λ q. omega (arith, h, q))
