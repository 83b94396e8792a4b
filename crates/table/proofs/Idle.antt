-- Where no connection is idle at a clock there is nothing to remove; and none is, once the idle ones are removed and after each change at
-- that clock. Assumes nothing.
use Prim.Native.Nat.{ℕ, ◌<◌}
use mathlib.Core.Bool.{Bool, true, false, ◌&&◌, and_self}
use mathlib.Core.List.{List, [], ◌∷◌}
use mathlib.Core.Logic.{⊎_elim}
use mathlib.Core.Path.{◌≡◌, refl}
use native.Mathlib.Omega.{arith}
use lib.ListN.{length, get_or, set}
use Rattle.lists.specs.Tests.{count_of}
use Rattle.lists.proofs.Cases.{truth}
use Rattle.lists.proofs.Counting.{count_set, count_same}
use Rattle.servers.specs.declared.Server.{Server}
use Rattle.table.specs.declared.slot.Slot.{Slot}
use Rattle.table.specs.Slots.{free_slot}
use Rattle.table.specs.Expire.{is_idle, NoneIdle, cleared, lowered_by}
use Rattle.table.specs.Changes.{opened_slot, touched_slot, opened, touched, freed, idle_removed}
use Rattle.table.proofs.Removal.{count-cleared}
use Rattle.table.proofs.Connections.{seen_now}

-- 1. Nothing idle, nothing to do

module _ (q : Slot → Bool) where
  -- no slot passes: neither the first nor one of the rest
  first_fails : (s : Slot) (l : List Slot) → count_of q (s ∷ l) ≡ 0 → (q s ≡ false) × (count_of q l ≡ 0)
  unfolding count_of
  first_fails s l none =
      ⊎_elim (λ (e : q s ≡ true). absurd (omega (arith, rw e at none))) (λ (e : q s ≡ false). (e, omega (arith, rw e at none))) (truth (q s))

  none_cleared : (l : List Slot) → count_of q l ≡ 0 → cleared q l ≡ l
  unfolding cleared
  none_cleared [] none = refl
  none_cleared (s ∷ l) none = let (here, rest) = first_fails s l none in rw (here, none_cleared l rest)

  none_lowered : (l : List Slot) (servers : List Server) → count_of q l ≡ 0 → lowered_by q l servers ≡ servers
  unfolding lowered_by
  none_lowered [] servers none = refl
  none_lowered (s ∷ l) servers none = let (here, rest) = first_fails s l none in rw here (none_lowered l servers rest)

module _ (protocol clock : ℕ) where
  pub none_removed : (l : List Slot) → NoneIdle protocol clock l → idle_removed protocol clock l ≡ l
  none_removed = none_cleared (is_idle protocol clock)

  pub none_counted : (l : List Slot) (servers : List Server) → NoneIdle protocol clock l → lowered_by (is_idle protocol clock) l servers ≡ servers
  none_counted = none_lowered (is_idle protocol clock)

  -- 2. Where none is idle

  pub removed_none_idle : (l : List Slot) → NoneIdle protocol clock (idle_removed protocol clock l)
  removed_none_idle l =
      let idle = is_idle protocol clock in
      let twice = count_same (λ s. idle s && idle s) idle l (λ s. and_self (idle s)) in
      omega (arith, count-cleared idle idle l refl, twice)

  module _ (l : List Slot) (k : ℕ) (h : k < length l) (none : NoneIdle protocol clock l) where
    -- a slot that is not idle is written
    written : (s : Slot) → is_idle protocol clock s ≡ false → NoneIdle protocol clock (set l k s)
    written s e = omega (arith, none, rw e at (count_set (is_idle protocol clock) l k s free_slot h))

    pub opened_none_idle : (address port server : ℕ) → NoneIdle protocol clock (opened l k address port server clock)
    opened_none_idle address port server = let s = opened_slot address port server clock in written s (seen_now protocol clock s refl)

    pub touched_none_idle : (phase : ℕ) → NoneIdle protocol clock (touched l k phase clock)
    touched_none_idle phase = let s = touched_slot phase clock (get_or l k free_slot) in written s (seen_now protocol clock s refl)

    pub freed_none_idle : NoneIdle protocol clock (freed l k)
    freed_none_idle = written free_slot refl
