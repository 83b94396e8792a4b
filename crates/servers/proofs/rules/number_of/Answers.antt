-- `servers::rules::number_of` meets its contract: the first place at which the test passes.
use mathlib.Core.Path.{◌≡◌, sym, ◌∙◌}
use native.Mathlib.Omega.{arith}
use borrow.Author.Rules.{rules}
use Rattle.std.proofs.lemmas.Iterator.{YieldsList-from_slice}
use Rattle.std.proofs.lemmas.Iterator.Search.{position_from_yields_List}
use borrow.Author.Tests.{tests}
use lib.ListN.{take}
use Rattle.std.specs.List.{position}
use Rattle.servers.specs.Rules.{is_at}
use Rattle.servers.proofs.Chains.{placed, not_placed}
use Rattle.servers.proofs.rules.number_of.Goals as goal

pub returns-in_err-at : goal.returns-in_err-at
returns-in_err-at c =
    let s = c.args.servers.now in
    let found : c.position.result ≡ position (is_at c.args.address c.args.port) (take c.args.n s) =
    position_from_yields_List (is_at c.args.address c.args.port) _ _ _ c.position.ensures.ran (YieldsList-from_slice (take c.args.n s) cc) (λ x b q k. search (rules, tests)) in
    c.from_residual.ensures ∙ not_placed s c.args.address c.args.port c.args.n (omega arith) (sym found ∙ c.in_err-at.was)

pub returns : goal.returns
returns c =
    let s = c.args.servers.now in
    let found : c.position.result ≡ position (is_at c.args.address c.args.port) (take c.args.n s) =
    position_from_yields_List (is_at c.args.address c.args.port) _ _ _ c.position.ensures.ran (YieldsList-from_slice (take c.args.n s) cc) (λ x b q k. search (rules, tests)) in
    placed s c.args.address c.args.port c.args.n c.in_ok-at.at (omega arith) (sym found ∙ c.in_ok-at.was)
