-- `Server::is_among` meets its contract: the chain asks of each server whether it is at the address and port.
use borrow.Author.Rules.{rules}
use borrow.Author.Tests.{tests}
use Rattle.std.proofs.lemmas.Iterator.{YieldsList-from_slice}
use Rattle.std.proofs.lemmas.Iterator.Search.{any_from_yields_List}
use Rattle.servers.specs.Rules.{is_at}
use Rattle.servers.proofs.Server.is_among.Goals as goal

pub returns : goal.returns
returns c =
    let v = c.args.self in
    any_from_yields_List (is_at v.address v.port) _ _ _ c.any.ensures.ran (YieldsList-from_slice c.args.servers.now cc)
    (λ x b q k. (search (rules, tests), search (rules, tests)))
