-- `decide::decide_free` meets its contract: where some server weighs, the server and the walk are the pick's (`on_pick`).
use Rattle.std.proofs.Common.{sym, ◌∙◌}
use Rattle.director.specs.declared.decide.Decision.{Decision}
use Rattle.director.proofs.Decisions.{on_pick}
use Rattle.director.proofs.decide.decide_free.Goals as goal

pub returns : goal.returns
returns c = on_pick c.args.director.now (Decision.Open c.args.k) _ (sym c.none_weighs.ensures ∙ c.if-none_weighs.false) c.next_pick.ensures
