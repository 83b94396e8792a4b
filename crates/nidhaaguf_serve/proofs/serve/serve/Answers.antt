-- `serve::serve` meets its contract: by whether the tick is accepted.
use Rattle.std.proofs.Common.{sym, ◌∙◌}
use Rattle.serving.proofs.Standings.{served_none, tick_current, tick-standing}
use Rattle.nidhaaguf_serve.proofs.serve.serve.Goals as goal

pub serve_current-progress-requires : goal.serve_current-progress-requires
serve_current-progress-requires c =
    tick_current c.args.director c.args.row.now c.args.clock c.tick-outcome.result _ c.tick-outcome.ensures (sym c.is_accepted.ensures ∙ c.if-is_accepted.true)

pub returns-else-is_accepted-clause-served : goal.returns-else-is_accepted-clause-served
returns-else-is_accepted-clause-served c =
    let t = c.tick-outcome in
    rw (← (tick-standing c.args.director c.args.row.now c.args.counters.now c.args.records.now c.args.clock t.result _ t.ensures).1) (served_none _)
