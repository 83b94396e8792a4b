-- `servers::fresh::fresh_servers` meets its contract: each place of the array is that of the fold. (That the closure keeps its state, and what it makes of a
-- place, go apart, so that an edit is refused with the one that it breaks.)
use borrow.Author.Rules.{rules}
use borrow.Author.Tests.{tests}
use Rattle.lists.proofs.Chains.{all_made}
use Rattle.servers.specs.Servers.{unused}
use Rattle.servers.proofs.Freshness.{fresh_place, fresh_whole}
use Rattle.servers.proofs.fresh.fresh_servers.Goals as goal

pub returns : goal.returns
returns c =
    let made = c.from_fn.ensures.items in
    fresh_whole c.args.given.now c.args.n c.from_fn.result made.long
    (λ j h. all_made _ (fresh_place c.args.given.now c.args.n) _ (λ i y q k. (search rules, search (k, rules, tests) fits 30000)) c.from_fn.result 64 j unused made h)
