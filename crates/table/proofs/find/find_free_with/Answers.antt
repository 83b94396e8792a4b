-- `find::find_free_with` meets its contract: each return by what the search for a free slot found.
use Rattle.std.proofs.Common.{rules}
use Prim.Native.Nat.{◌<◌, ◌≤◌}
use mathlib.Core.Path.{◌≡◌, sym, ◌∙◌}
use native.Mathlib.Omega.{arith}
use Rattle.table.specs.Slots.{slots, is_unused}
use Rattle.table.proofs.Rows.{length-slots}
use Rattle.table.proofs.Finding.{found_lowest, nothing_at}
use Rattle.table.proofs.Freeing.{lower_of, itself_free}
use Rattle.table.proofs.find.find_free_with.Goals as goal

pub returns-in-Some : goal.returns-in-Some
returns-in-Some c =
    let l = slots c.args.row.now in
    let low = found_lowest is_unused l _ (sym c.find_free.ensures ∙ c.in-Some.is) in
    let free = c.in-Some.free.0 in
    let k = c.args.k.0 in
    let not_below : k ≤ free → c.min.result.0 ≡ k = λ h. search rules in
    let below : free < k → c.min.result.0 ≡ free = λ h. search rules in
    lower_of l k (omega (arith, length-slots c.args.row.now)) free c.min.result.0 low not_below below

pub returns-in-None : goal.returns-in-None
returns-in-None c =
    let l = slots c.args.row.now in
    let none = sym c.find_free.ensures ∙ c.in-None.is in
    itself_free l c.args.k.0 (omega (arith, length-slots c.args.row.now))
    (λ i h. nothing_at is_unused l none i (omega (arith, length-slots c.args.row.now)))
