-- An edit keeps the sum of the two words that it touches modulo 65535, and gives FFFF in one case only.
use mathlib.Core.Path.{◌≡◌}
use Prim.Native.Nat.{ℕ, ◌+◌, ◌*◌, ◌/◌, ◌%◌, ◌<◌}
use native.Mathlib.Omega.{arith}
use Rattle.checksum.specs.Ones.{carried, inverted, edited}
use Rattle.checksum.specs.Laws.{Exception}
use Rattle.checksum.proofs.Reduced.{carried-plain, carried-fits}

-- the multiples are written out, which `omega` reads
pub record Congruent (a b : ℕ) : Type 0 where
  pub x : ℕ
  pub y : ℕ
  pub balanced : a + 65535 * x ≡ b + 65535 * y

pub congruent_mod : (a b : ℕ) → Congruent a b → a % 65535 ≡ b % 65535
congruent_mod a b c = by_parts a b c.x c.y c.balanced
  where
    by_parts : (a b x y : ℕ) → a + 65535 * x ≡ b + 65535 * y → a % 65535 ≡ b % 65535
    by_parts a b x y e = omega arith

plain : (hc m m' x y c d : ℕ) → hc < 65536 → m < 65536 → x + 65535 * c ≡ inverted hc + inverted m → y + 65535 * d ≡ x + m' → y < 65536
    → inverted y + m' + 65535 * 1 ≡ hc + m + 65535 * (c + d)
plain hc m m' x y c d a b e f h = omega arith

-- an edit keeps the sum of the two words that it touches
pub edited_congruent : (hc m m' : ℕ) → hc < 65536 → m < 65536 → m' < 65536 → Congruent (edited hc m m' + m') (hc + m)
unfolding edited
edited_congruent hc m m' a b c =
    let s = inverted hc + inverted m in
    let x = carried s in
    let hx : x < 65536 = carried-fits s (omega arith) in
    let hy : carried (x + m') < 65536 = carried-fits (x + m') (omega arith) in
    record {
      x = 1;
      y = s / 65536 + (x + m') / 65536;
      balanced = plain hc m m' x (carried (x + m')) (s / 65536) ((x + m') / 65536) a b (carried-plain s) (carried-plain (x + m')) hy;
    }

pub edited-fits : (hc m m' : ℕ) → edited hc m m' < 65536
unfolding edited
edited-fits hc m m' = omega arith

carried-zero : (s : ℕ) → carried s ≡ 0 → s ≡ 0
carried-zero s e = omega arith

-- an edit gives FFFF only where the checksum and the old word are FFFF and the new word is 0
pub edited-ones : (hc m m' : ℕ) → hc < 65536 → m < 65536 → edited hc m m' ≡ 65535 → Exception hc m m'
unfolding edited
edited-ones hc m m' a b e =
    let s = inverted hc + inverted m in
    let outer : carried s + m' ≡ 0 = carried-zero (carried s + m') (omega arith) in
    let inner : s ≡ 0 = carried-zero s (omega arith) in
    omega arith
