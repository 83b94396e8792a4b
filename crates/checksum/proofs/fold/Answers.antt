-- `checksum::fold` meets its contract: three folds give a word (`folds_fit`), each of what the one before gave.
use Rattle.checksum.proofs.Grouping.{folds_fit, three_times}
use Rattle.checksum.proofs.fold.Goals as goal

pub overflow_cast-result : goal.overflow_cast-result
overflow_cast-result c =
    let folds = three_times _ _ _ _ c.add_carry-once.ensures c.add_carry-twice.ensures c.add_carry.ensures in
    rw folds (record { fits = folds_fit _ c.requires })
