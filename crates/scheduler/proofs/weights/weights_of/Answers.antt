-- `weights::weights_of` meets its contract: the chain folds both numbers over the first n servers.
use mathlib.Core.Path.{◌≡◌, ◌∙◌}
use borrow.Author.Rules.{rules}
use borrow.Author.Tests.{tests}
use lib.ListN.{take}
use Rattle.std.specs.List.{fold}
use Rattle.std.proofs.lemmas.Iterator.{YieldsList-from_slice, YieldsList-from_take}
use Rattle.std.proofs.lemmas.Iterator.Consumers.{fold_from_yields_List}
use Rattle.scheduler.proofs.Folding.{with_server, no_weights, weights_chained}
use Rattle.scheduler.proofs.weights.weights_of.Goals as goal

pub returns : goal.returns
returns c =
    let s = c.args.servers.now in
    let found : c.fold.result ≡ fold with_server no_weights (take c.args.n s) =
    fold_from_yields_List _ with_server no_weights c.fold.result c.fold.ensures.ran (YieldsList-from_take c.args.n (YieldsList-from_slice s cc) cc)
    (λ a x b q k. search (rules, tests)) in
    found ∙ weights_chained s c.args.n
