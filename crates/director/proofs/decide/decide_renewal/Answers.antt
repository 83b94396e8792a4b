-- `decide::decide_renewal` meets its contract: each return rewrites with the slot found and the test of the weights, the second with the pick.
use Rattle.std.specs.Prelude.{Some}
use mathlib.Core.List.{List}
use mathlib.Core.Path.{◌≡◌, refl, sym, ap, ◌∙◌}
use lib.ListN.{get_or}
use Rattle.servers.specs.declared.ServerNo.{ServerNo}
use Rattle.table.specs.declared.slot.Slot.{Slot}
use Rattle.table.specs.declared.slot.SlotNo.{SlotNo}
use Rattle.table.specs.Slots.{slots, free_slot, is_unused}
use Rattle.table.specs.Find.{first_from}
use Rattle.table.specs.Changes.{freed}
use Rattle.director.specs.declared.state.Director.{Director}
use Rattle.director.specs.declared.decide.Decision.{Decision}
use Rattle.director.specs.State.{with_one_less}
use Rattle.director.specs.Decide.{on_weights, on_renewal}
use Rattle.director.proofs.Decisions.{on_pick}
use Rattle.director.proofs.decide.decide_renewal.Goals as goal

by_weights : (d ended : Director) (l : List Slot) (k j : SlotNo) (i : ServerNo)
    → i ≡ (get_or l k.0 free_slot).server → ended ≡ with_one_less d i.0 → Some j ≡ first_from is_unused 0 (freed l k.0)
    → on_weights ended (Decision.Renew k j) ≡ on_renewal d l k
by_weights d ended l k j i server less room = rw (less, server, ← room)

pub with_one_less-requires : goal.with_one_less-requires
with_one_less-requires c = rw c.slot_at.ensures c.requires.counted

pub returns-then-none_weighs : goal.returns-then-none_weighs
returns-then-none_weighs c =
    rw (sym c.none_weighs.ensures ∙ c.if-none_weighs.true) at
    (by_weights c.args.director.now _ (slots c.args.row.now) c.args.k _ _ refl refl c.find_free_with-free.ensures)

pub returns : goal.returns
returns c =
    let ended = c.with_one_less.new.director in
    on_pick ended (Decision.Renew c.args.k c.find_free_with-free.result) _ (rw c.with_one_less.ensures (sym c.none_weighs.ensures ∙ c.if-none_weighs.false)) c.next_pick.ensures
    ∙ by_weights c.args.director.now ended (slots c.args.row.now) c.args.k _ _
    (ap (λ (s : Slot). s.server) c.slot_at.ensures) c.with_one_less.ensures c.find_free_with-free.ensures
