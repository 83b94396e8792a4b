-- `burst::burst` meets its contract: by whether the tick is accepted.
use Rattle.std.proofs.Common.{sym, ◌∙◌}
use Rattle.serving.proofs.Standings.{tick_current}
use Rattle.serving.proofs.Bursts.{burst_accepted, burst-refused}
use Rattle.serving.proofs.burst.burst.Goals as goal

pub burst_current-requires : goal.burst_current-requires
burst_current-requires c =
    tick_current c.args.director c.args.row.now c.args.clock c.tick-ticked.result _ c.tick-ticked.ensures (sym c.is_accepted.ensures ∙ c.if-is_accepted.true)

pub returns-then-is_accepted : goal.returns-then-is_accepted
returns-then-is_accepted c =
    burst_accepted c.args.director c.args.row.now _ _ c.args.clock c.tick-ticked.result _ c.tick-ticked.ensures _
    (sym c.is_accepted.ensures ∙ c.if-is_accepted.true) c.burst_current.ensures

pub returns-else-is_accepted : goal.returns-else-is_accepted
returns-else-is_accepted c =
    let t = c.tick-ticked in
    burst-refused c.args.director c.args.row.now _ _ c.args.clock t.result _ t.ensures (sym c.is_accepted.ensures ∙ c.if-is_accepted.false)
