-- `serve::serve_current` meets its contract, by one packet more at each turn (`served_then`).
use Rattle.std.proofs.Common.{refl, arith, rules}
use Rattle.serving.proofs.Standings.{served_none, served_then, served_current}
use Rattle.nidhaaguf_serve.proofs.serve.serve_current.Goals as goal

pub loop-k-init : goal.loop-k-init
loop-k-init c = (refl, omega arith, omega arith, served_none _)

pub turn_from-requires : goal.turn_from-requires
turn_from-requires c =
    let i = c.loop-k.invariant in
    (served_current _ _ _ i.3 c.requires, omega (arith, c.packets_traced-k-end.ensures, c.loop-k-test.true, c.loop-k.auto.records), i.2)

pub loop-k-preserved : goal.loop-k-preserved
loop-k-preserved c = (refl, search rules, search rules, served_then _ _ _ _ _ _ c.loop-k.invariant.3 c.in-Some.ensures.served refl)

pub returns-then-is_last-clause-served : goal.returns-then-is_last-clause-served
returns-then-is_last-clause-served c = served_then _ _ _ _ _ _ c.loop-k.invariant.3 c.in-Some.ensures.served refl
