-- `nidhaaguf_inbound` meets its contract: the director's call does, of the decoded state, and the reply is of its outcome.
use Prim.Native.Nat.{ℕ}
use native.Mathlib.Omega.{arith}
use Rattle.checksum.specs.Ones.{Bytes}
use Rattle.director.specs.declared.state.Way.{Way}
use Rattle.director.proofs.KeepingPackets.{packet_leaves}
use Rattle.nidhaaguf.specs.State.{decoded}
use Rattle.nidhaaguf.proofs.Handed.{as_exported}
use Rattle.nidhaaguf.proofs.nidhaaguf_inbound.Goals as goal

pub returns : goal.returns
returns c =
    let met = rw c.from.ensures at c.take_packet.ensures in
    let bytes : Bytes c.args.packet.now = record { at = λ (i : ℕ). grind arith } in
    as_exported c.args.state _ _ _ _ _ met (packet_leaves (decoded c.args.state) c.args.row.now c.args.packet.now c.args.clock bytes Way.Inbound) _ c.reply_of.ensures
