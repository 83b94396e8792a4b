-- `servers::tally::counts_agree` meets its contract: the chain compares the places of the servers and of the counts side by side.
use mathlib.Core.Path.{◌≡◌, ◌∙◌}
use borrow.Author.Rules.{rules}
use Rattle.std.proofs.lemmas.Iterator.{YieldsList-from_slice, YieldsList-from_zip, YieldsList-from_take}
use Rattle.std.proofs.lemmas.Iterator.Search.{all_from_yields_List}
use borrow.Author.Tests.{tests}
use lib.ListN.{take}
use Rattle.std.specs.List.{list_all, zip}
use Rattle.servers.proofs.Chains.{agrees, agree_below}
use Rattle.servers.proofs.tally.counts_agree.Goals as goal

pub returns : goal.returns
returns c =
    let s = c.args.servers.now in
    let counts = c.args.counts.now in
    let found : c.all.result ≡ list_all agrees (take c.args.n (zip s counts)) =
    all_from_yields_List agrees c.all.new.self _ _ c.all.ensures.ran (YieldsList-from_take c.args.n (YieldsList-from_zip (YieldsList-from_slice s cc) (YieldsList-from_slice counts cc)) cc) (λ x b q k. search (rules, tests)) in
    found ∙ agree_below counts s c.args.n (search rules)
