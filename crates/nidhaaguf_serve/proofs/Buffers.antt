-- Where a packet stands in the buffer that it was read into. Assumes nothing.
use Prim.Native.Nat.{ℕ, ◌+◌, ◌≤◌}
use mathlib.Core.List.{List, [], ◌∷◌, ◌++◌}
use mathlib.Core.Path.{◌≡◌, refl, sym, ap, ◌∙◌}
use native.Mathlib.Omega.{arith}
use lib.ListN.{length, take}
use lib.Seq.{length-take-le, take-append_seam, take-append-le, take-append-add}
use Rattle.director.specs.declared.state.Director.{Director}
use Rattle.serving.specs.Serve.{Standing, standing, Served}

none_behind : (before : List ℕ) → before ++ [] ≡ before
none_behind [] = refl
none_behind (x ∷ l) = ap (λ (r : List ℕ). x ∷ r) (none_behind l)

none_more : (k : ℕ) → k + 0 ≡ k
none_more k = omega arith

placed : (buffer part tail : List ℕ) (at end : ℕ) → at ≤ length buffer → end ≤ length part
    → take (at + end) (take at buffer ++ (part ++ tail)) ≡ take at buffer ++ take end part
placed buffer part tail at end fits short =
    ap (λ (n : ℕ). take (n + end) (take at buffer ++ (part ++ tail))) (sym (length-take-le at buffer fits))
    ∙ take-append-add (take at buffer) (part ++ tail) end
    ∙ ap (λ (l : List ℕ). take at buffer ++ l) (take-append-le end part tail short)

module _ (s : Standing) (d : Director) (row counters records : List ℕ) (k : ℕ) where
  -- no packet was read
  pub nothing_read : (before : List ℕ) → Served s (standing d row counters records k before) 0 → Served s (standing d row counters records (k + 0) (before ++ [])) 0
  nothing_read before served = rw (none_more k, none_behind before) served

  -- a packet stands at the beginning of what was lent for it
  pub packet_read : (before p rest : List ℕ) (end taken : ℕ) → taken ≡ 1 → end ≡ length p
      → Served s (standing d row counters records (k + 1) (before ++ p)) 1
      → Served s (standing d row counters records (k + taken) (before ++ take end (p ++ rest))) taken
  packet_read before p rest end taken one long served = rw (one, long, take-append_seam p rest) served

  -- what was read from a place on stands behind what was there before
  pub read_behind : (buffer part tail : List ℕ) (at end n : ℕ) → at ≤ length buffer → end ≤ length part
      → Served s (standing d row counters records k (take at buffer ++ take end part)) n
      → Served s (standing d row counters records k (take (at + end) (take at buffer ++ (part ++ tail)))) n
  read_behind buffer part tail at end n fits short served = rw (placed buffer part tail at end fits short) served
