-- `packets::route` meets its contract: what is decided in a sound state can be carried out (`feasible`).
use Rattle.director.specs.Packets.{routed}
use Rattle.director.proofs.Feasible.{feasible}
use Rattle.director.proofs.packets.route.Goals as goal

pub carry_out-requires : goal.carry_out-requires
carry_out-requires c =
    let can = feasible c.args.director.now c.args.row.now c.args.packet.now c.requires.1 c.args.segment c.requires.0 in
    rw c.decide-decision.ensures can

pub returns : goal.returns
unfolding routed
returns c = rw (← c.decide-decision.ensures) c.carry_out.ensures
