-- `clock::settle` meets its contract: the table of a sound state is sound at a later clock, as its expiry asks.
use Rattle.table.proofs.Tables.{later_table}
use Rattle.director.proofs.Sound.{sound_parts}
use Rattle.director.proofs.clock.settle.Goals as goal

pub expire-requires : goal.expire-requires
expire-requires c =
    let d = c.args.director.now in
    let s = sound_parts _ _ c.requires.0 in
    (s.settings.most, later_table d.service.protocol d.service.servers d.clock c.args.row.now d.servers s.table c.args.clock c.requires.1)
