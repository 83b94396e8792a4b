-- `find::find_client` meets its contract. The invariant: the slots of the pairs before i do not answer (`Passed`).
use Prim.Native.Nat.{ℕ, ◌*◌, ◌/◌}
use mathlib.Core.Bool.{Bool}
use mathlib.Core.List.{List}
use mathlib.Core.Path.{◌≡◌}
use native.Mathlib.Omega.{arith}
use lib.ListN.{length}
use Rattle.table.specs.Slots.{words_per_slot}
use Rattle.table.specs.declared.slot.Slot.{Slot}
use Rattle.table.proofs.Search.{Passed, start, hit, miss, miss_two, none}
use Rattle.table.proofs.find.find_client.Goals as goal
use Rattle.table.proofs.find.find_client.Goals.{else-last-end-via-then-last-end+else-is_of-3, else-last-end-via-else-last-end}

pub loop-i-init : goal.loop-i-init
loop-i-init c = (omega arith, start)

pub returns-then-is_of : goal.returns-then-is_of
returns-then-is_of c = hit c.loop-i.invariant.1 (omega arith) (cc)

pub returns-then-is_of-2 : goal.returns-then-is_of-2
returns-then-is_of-2 c = hit (miss c.loop-i.invariant.1 (omega arith) (cc)) (omega arith) (cc)

pub loop-i-preserved : goal.loop-i-preserved
loop-i-preserved c = (omega arith, miss_two _ c.loop-i.invariant.1 (omega arith) (cc) (cc))

module _ {row : List ℕ} {p : Slot → Bool} {i pairs : ℕ} (x : Passed p row (2 * i)) (all : i ≡ pairs) where
  pub passed_pairs : Passed p row (2 * pairs)
  passed_pairs = rw (← all) x

-- all pairs are passed
pub returns-then-is_of-3 : goal.returns-then-is_of-3
returns-then-is_of-3 c = hit (passed_pairs c.loop-i.invariant.1 (omega (arith, c.loop-i.invariant.0, c.loop-i-test.false))) (omega arith) (cc)

pub returns : goal.returns
returns c =
    let all = passed_pairs {pairs = length c.args.row.now / words_per_slot / 2} c.loop-i.invariant.1
    (omega (arith, c.loop-i.invariant.0, c.loop-i-test.false)) in
    elim c.else-last-end.branch [
      | else-last-end-via-then-last-end+else-is_of-3 w ↦ none (miss all (omega arith) (cc)) (omega arith)
      | else-last-end-via-else-last-end w ↦ none all (omega arith)
    ]
