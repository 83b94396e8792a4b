-- `carry::renew` meets its contract: the opening is one in the state and the row that the ending has left.
use Rattle.table.proofs.Rows.{slots-words}
use Rattle.director.proofs.carry.renew.Goals as goal

pub returns : goal.returns
returns c = simp (c.open.ensures, c.close.ensures.director, c.close.ensures.row, slots-words)
