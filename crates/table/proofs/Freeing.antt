-- Laws of the lowest free slot where a used one counts as free: there always is one, and none lies above that slot. Assumes nothing.
use Prim.Native.Nat.{ℕ, ◌<◌, ◌≤◌}
use mathlib.Core.Bool.{true, false}
use mathlib.Core.List.{List}
use mathlib.Core.Path.{◌≡◌, sym, ap, ◌∙◌}
use native.Mathlib.Omega.{arith}
use lib.ListN.{length, get_or, length-set}
use lib.Seq.{get_or-set_same, get_or-set_other}
use Rattle.lists.proofs.Counting.{count_some}
use Rattle.table.specs.declared.slot.Slot.{Slot}
use Rattle.std.proofs.Common.{Some, None}
use mathlib.Core.Logic.{⊎_elim}
use borrow.Author.Tests.{ltb-true, ltb-false}
use lib.Dec.{ltb}
use Rattle.lists.proofs.Cases.{truth}
use Rattle.table.specs.Slots.{free_slot, is_unused}
use Rattle.table.specs.Find.{first_from, IsLowest}
use Rattle.table.specs.Changes.{freed}
use Rattle.table.proofs.Finding.{slot_no, lowest_found, nothing_passes}

module _ (l : List Slot) (k : ℕ) (within : k < length l) where
  -- slot k is free once it is freed
  freed_free : is_unused (get_or (freed l k) k free_slot) ≡ true
  freed_free = ap is_unused (get_or-set_same l k free_slot free_slot within)

  -- a lower slot is as it was
  lower_same : (i : ℕ) → i < k → is_unused (get_or (freed l k) i free_slot) ≡ is_unused (get_or l i free_slot)
  lower_same i h = ap is_unused (get_or-set_other l k i free_slot free_slot (λ q. omega arith))

  -- the lowest free slot is lower
  pub lower_free : (j : ℕ) → j < k → IsLowest is_unused l j → Some (record { 0 = j }) ≡ first_from is_unused 0 (freed l k)
  lower_free j below low =
      let then : IsLowest is_unused (freed l k) j = record {
        within = rw length-set low.within;
        passes = lower_same j below ∙ low.passes;
        lowest = λ i h. lower_same i (omega arith) ∙ low.lowest i h;
      } in
      sym (lowest_found is_unused (freed l k) j then)

  -- no lower slot is free
  pub itself_free : ((i : ℕ) → i < k → is_unused (get_or l i free_slot) ≡ false) → Some (record { 0 = k }) ≡ first_from is_unused 0 (freed l k)
  itself_free used =
      let then : IsLowest is_unused (freed l k) k = record {
        within = rw length-set within;
        passes = freed_free;
        lowest = λ i h. lower_same i h ∙ used i h;
      } in
      sym (lowest_found is_unused (freed l k) k then)

  -- the lower of the lowest free slot and k
  pub lower_of : (j m : ℕ) → IsLowest is_unused l j → (k ≤ j → m ≡ k) → (j < k → m ≡ j) → Some (slot_no m) ≡ first_from is_unused 0 (freed l k)
  lower_of j m low not_below below =
      ⊎_elim
      (λ (e : ltb j k ≡ true). let h = ltb-true j k e in rw (below h) (lower_free j h low))
      (λ (e : ltb j k ≡ false). let h = ltb-false j k e in rw (not_below h) (itself_free (λ i g. low.lowest i (omega arith))))
      (truth (ltb j k))

  -- so a slot is found: 13 can't arise
  pub freed_found : first_from is_unused 0 (freed l k) ≡ None → ⊥
  freed_found none =
      let some = count_some is_unused (freed l k) k free_slot (rw length-set within) freed_free in
      omega (arith, some, nothing_passes is_unused (freed l k) 0 none)
