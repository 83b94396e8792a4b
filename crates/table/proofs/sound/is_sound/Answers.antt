-- `sound::is_sound` meets its contract, from what the length test, the pass and the comparison ensure.
use Prim.Native.Nat.{ℕ, ◌<◌, ◌≤◌}
use mathlib.Core.Path.{◌≡◌, sym, subst, ◌∙◌}
use native.Mathlib.Omega.{arith}
use lib.ListN.{length}
use Rattle.std.proofs.Common.{Some}
use Rattle.lists.proofs.Numbers.{all_same}
use Rattle.servers.specs.Servers.{count_at}
use Rattle.servers.proofs.Endpoints.{unused-count}
use Rattle.table.specs.Slots.{slots}
use Rattle.table.specs.Sound.{naming, Tallied}
use Rattle.table.proofs.Tallies.{none_past, counts_below}
use Rattle.table.proofs.sound.is_sound.Goals as goal

pub returns-in-Some : goal.returns-in-Some
returns-in-Some c =
    let a = c.args in
    let row = sym c.is_row.ensures ∙ c.if-not-is_row.false in
    let (all, counted) : Tallied a.protocol a.n a.clock (slots a.row.now) (Some c.in-Some.counts)
    = subst (Tallied a.protocol a.n a.clock (slots a.row.now)) c.in-Some.is c.tally_row.ensures in
    let past : (j : ℕ) → a.n ≤ j → j < length a.servers.now → count_at a.servers.now j ≡ naming (slots a.row.now) j = λ j h g.
    unused-count a.servers.now a.n 64 j c.requires.1 h (omega arith) ∙ sym (none_past a.protocol a.n a.clock j (slots a.row.now) h all) in
    rw (row, all) (c.counts_agree.ensures ∙ all_same _ _ _ (λ j h. rw (counted j (omega arith))) ∙ counts_below _ a.servers.now a.n (omega arith) past)
