-- `decide::decide` meets its contract: what the search for the client finds is a slot of the row (`found_lowest`).
use Rattle.std.proofs.Common.{sym, ◌∙◌, arith}
use Rattle.table.proofs.Finding.{found_lowest}
use Rattle.table.proofs.Rows.{length-slots}
use Rattle.director.proofs.decide.decide.Goals as goal

pub decide_present-requires-clause-within : goal.decide_present-requires-clause-within
decide_present-requires-clause-within c =
    let found = found_lowest _ _ _ (sym c.find_client.ensures ∙ c.in-Some.is) in
    omega (arith, found, length-slots c.args.row.now)
