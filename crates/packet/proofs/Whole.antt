-- What is known of a packet that refusal 6 does not name.
use mathlib.Core.Path.{◌≡◌, refl}
use mathlib.Core.List.{List, [], ◌∷◌}
use mathlib.Core.Bool.{Bool, true, false, true≢false}
use Prim.Native.Nat.{ℕ, zero, suc, ◌/◌, ◌%◌}
use native.Mathlib.Omega.{arith}
use borrow.Author.Tests.{ltb-false, le-ltb, eqb-true, eq-eqb, not-false}
use lib.ListN.{length, get_or}
use Rattle.packet.specs.Bytes.{header_length, total_length}
use Rattle.packet.specs.Reading.{any_of, broken, broken_tests, Whole}

-- where not one test of a list holds, none at any place does
pub none : (ts : List Bool) → any_of ts ≡ false → (k : ℕ) → get_or ts k false ≡ false
none [] e k = refl
none (true ∷ ts) e k = absurd (true≢false e)
none (false ∷ ts) e zero = refl
none (false ∷ ts) e (suc k) = none ts e k

pub whole : (p : List ℕ) → broken p ≡ false → Whole p
unfolding broken
whole p e =
    let no = none (broken_tests p) e in
    let words = ltb-false (get_or p 0 0 % 16) 5 (no 2) in
    record {
      long = ltb-false _ _ (no 0);
      version = eqb-true _ _ (not-false _ (no 1));
      header = omega arith;
      ordered = ltb-false _ _ (no 3);
      within = ltb-false _ _ (no 4);
    }

-- and refusal 6 names no packet of which that is known
pub unbroken : (p : List ℕ) → Whole p → broken p ≡ false
unfolding broken
unbroken p w =
    simp (
      le-ltb (length p) 20 w.long,
      eq-eqb (get_or p 0 0 / 16) 4 w.version,
      le-ltb (get_or p 0 0 % 16) 5 (omega (arith, w.header)),
      le-ltb (total_length p) (header_length p) w.ordered,
      le-ltb (length p) (total_length p) w.within,
    )
