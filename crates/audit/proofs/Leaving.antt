-- What each of the six calls leaves, of any state. Assumes nothing.
use Rattle.director.specs.State.{lent}
use Rattle.director.proofs.Leaving.{Leaves}
use Rattle.director.proofs.Keeping.{setup_leaves, weight_leaves, count-leaves, tick-leaves}
use Rattle.director.proofs.KeepingPackets.{packet_leaves}
use Rattle.audit.specs.Calls.{Call, set_up, set_weight, count, tick, packet, Fits, packet_in, State, called}

pub called-leaves : (s : State) (c : Call) → Fits c → Leaves s.director (lent s.row (packet_in c)) (called s c)
called-leaves s (set_up g given) fits = setup_leaves s.director g given s.row
called-leaves s (set_weight k w) fits = weight_leaves s.director s.row k w
called-leaves s (count k) fits = count-leaves s.director s.row k
called-leaves s (tick now) fits = tick-leaves s.director s.row now
called-leaves s (packet way p now) fits = packet_leaves s.director s.row p now fits way
