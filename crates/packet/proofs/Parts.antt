-- A list after a part of it was lent and came back changed.
use mathlib.Core.Path.{◌≡◌, sym, ap, ◌∙◌}
use mathlib.Core.List.{List, ◌++◌}
use Prim.Native.Nat.{ℕ, ◌+◌, ◌≤◌, ◌<◌}
use native.Mathlib.Omega.{arith}
use lib.ListN.{length, get_or, take, drop, length-append, length-drop, get_or-append}
use lib.Seq.{length-take-le, take-append-le, take_at, drop_at, drop-drop, take-take, get_or-take}
use Rattle.lists.specs.Below.{Below}
use Rattle.lists.proofs.Below.{below_append, below_take, below_drop}
use Rattle.packet.specs.Bytes.{on_part}

-- the k elements from place a on are changed by f, which keeps their number
module _ (a k : ℕ) (f : List ℕ → List ℕ) (l : List ℕ) (fits : a + k ≤ length l) (same : length (f (take k (drop a l))) ≡ k) where
  front : length (take a l) ≡ a
  front = length-take-le a l (omega arith)

  pub on_part-length : length (on_part a k f l) ≡ length l
  on_part-length = simp (length-append, front, same, length-drop) (omega arith)

  -- the elements before the part are as they were
  pub on_part_before : (n : ℕ) → n ≤ a → take n (on_part a k f l) ≡ take n l
  on_part_before n h =
      let within : n ≤ length (take a l) = rw front h in
      take-append-le n (take a l) _ within ∙ take-take n a l h

  -- the part is what f made of it
  pub on_part_part : take k (drop a (on_part a k f l)) ≡ f (take k (drop a l))
  on_part_part = rw (drop_at (take a l) (f (take k (drop a l)) ++ drop k (drop a l)) a front) (take_at _ _ k same)

  -- the elements after the part are as they were
  pub on_part-after : drop (a + k) (on_part a k f l) ≡ drop (a + k) l
  on_part-after =
      sym (drop-drop k a (on_part a k f l))
      ∙ ap (drop k) (drop_at (take a l) (f (take k (drop a l)) ++ drop k (drop a l)) a front)
      ∙ drop_at (f (take k (drop a l))) (drop k (drop a l)) k same
      ∙ drop-drop k a l

  pub on_part-at : (i : ℕ) → i < a → get_or (on_part a k f l) i 0 ≡ get_or l i 0
  on_part-at i h =
      let within : i < length (take a l) = rw front h in
      get_or-append (take a l) _ 0 i within ∙ get_or-take a l i 0 h

pub on_part_below : {m : ℕ} (a k : ℕ) (f : List ℕ → List ℕ) (l : List ℕ) → Below m l → Below m (f (take k (drop a l))) → Below m (on_part a k f l)
on_part_below a k f l all part = below_append (below_take a all) (below_append part (below_drop k (below_drop a all)))
