-- Decoding and encoding undo each other, and a place that no server number has makes a state unsound. Assumes nothing.
use Rattle.std.specs.Prelude.{Some, None, Option}
use Rattle.servers.specs.declared.ServerNo.{ServerNo}
use Prim.Native.Nat.{ℕ, ◌≤◌, ◌<◌, ◌+◌, ◌-◌}
use mathlib.Core.Bool.{true, false}
use mathlib.Core.List.{List}
use mathlib.Core.Logic.{⊎_elim}
use mathlib.Core.Path.{◌≡◌, refl}
use native.Mathlib.Omega.{arith}
use lib.Dec.{eqb, leb}
use borrow.Author.Tests.{ne_eqb, le-leb, lt-leb, leb-true, eqb-true, eqb-false}
use Rattle.lists.proofs.Cases.{truth, by_test}
use Rattle.scheduler.specs.Laws.{Within}
use Rattle.scheduler.proofs.Ranges.{place_in_range}
use Rattle.director.specs.declared.state.Director.{Director}
use Rattle.director.specs.Judge.{sound_of}
use Rattle.director.proofs.Sound.{sound_parts}
use Rattle.nidhaaguf.specs.declared.state.State.{State}
use Rattle.nidhaaguf.specs.State.{place_of, place_number, decoded, encoded}

-- a place that is -1 or at one of the first n servers has a number of at most n
within : (n : ℕ) (p : Option ServerNo) → Within n p → place_number p ≤ n
within n None h = omega arith
within n (Some i) h = omega arith

-- a sound state's place
pub sound_place : (d : Director) (row : List ℕ) → sound_of d row ≡ true → place_number d.walk.place ≤ 64
sound_place d row e =
    let s = sound_parts d row e in
    let n = d.service.servers in
    let placed = place_in_range d.service.scheduler d.servers n d.walk s.settings.some s.range in
    omega (arith, s.settings.most, within n d.walk.place placed)

less_one : (k : ℕ) → (k + 1) - 1 ≡ k
less_one k = omega arith

place_back : (p : Option ServerNo) → place_number p ≤ 4294967296 → place_of (place_number p) ≡ p
place_back None h = refl
place_back (Some i) h = simp (ne_eqb (i.0 + 1) 0 (omega arith), le-leb (i.0 + 1) 4294967296 h, less_one i.0)

-- the director's state comes back whole
pub decoded-encoded : (d : Director) → place_number d.walk.place ≤ 4294967296 → decoded (encoded d) ≡ d
decoded-encoded d h = rw (place_back d.walk.place h)

number_back : (n : ℕ) → n ≤ 4294967296 → place_number (place_of n) ≡ n
number_back n h =
    by_test (λ (p : Option ServerNo). place_number p ≡ n) (eqb n 0) _ _
    (λ e. omega (arith, eqb-true n 0 e))
    (λ e. simp (le-leb n 4294967296 h) (omega (arith, eqb-false n 0 e)))

-- and so does the state in plain numbers
pub encoded-decoded : (s : State) → s.place ≤ 4294967296 → encoded (decoded s) ≡ s
encoded-decoded s h = rw (number_back s.place h)

-- a decoded state comes back whole, whatever its place was
pub decoded_again : (s : State) → decoded (encoded (decoded s)) ≡ decoded s
decoded_again s = decoded-encoded (decoded s) (fits s.place)
  where
    fits : (n : ℕ) → place_number (place_of n) ≤ 4294967296
    fits n =
        by_test (λ (p : Option ServerNo). place_number p ≤ 4294967296) (eqb n 0) _ _
        (λ e. omega arith)
        (λ e. by_test (λ (k : ℕ). k + 1 ≤ 4294967296) (leb n 4294967296) _ _ (λ h. omega (arith, leb-true n 4294967296 h)) (λ h. omega arith))

-- a place that no server number has: 15
pub place_beyond : (s : State) (row : List ℕ) → 4294967296 < s.place → sound_of (decoded s) row ≡ false
place_beyond s row h =
    ⊎_elim (λ e. absurd (omega (arith, far s.place h, sound_place (decoded s) row e))) (λ e. e) (truth (sound_of (decoded s) row))
  where
    far : (n : ℕ) → 4294967296 < n → place_number (place_of n) ≡ 4294967296
    far n k = simp (ne_eqb n 0 (omega arith), lt-leb n 4294967296 k)
