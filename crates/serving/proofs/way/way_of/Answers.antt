-- `way::way_of` meets its contract: a packet whose destination, bytes 16 to 19, is the virtual address is inbound, as one too short to have one is.
use Rattle.std.proofs.Common.{◌≡◌, true, eqb, sym, ◌∙◌, le-ltb, lt-ltb}
use Rattle.packet.specs.Bytes.{address_at}
use Rattle.serving.proofs.way.way_of.Goals as goal
use Rattle.serving.proofs.way.way_of.Goals.{then-packet-lt20, else-packet-lt20}

pub returns-then-address_at-address : goal.returns-then-address_at-address
returns-then-address_at-address c = elim c.if-packet-lt20.branch [
  | then-packet-lt20 w ↦ simp (lt-ltb _ _ w.if-packet-lt20.true)
  | else-packet-lt20 w ↦
      let destination : eqb (address_at c.args.packet.now 16) c.args.address ≡ true = rw w.address_at.ensures at (sym w.value-is ∙ c.if-address_at-address.true) in
      simp (le-ltb _ _ w.if-packet-lt20.false, destination)
]
