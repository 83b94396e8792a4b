-- Which of the two packet calls a packet is given to. Assumes nothing: these are definitions.
use Rattle.std.specs.Prelude.{ℕ, cond, List, length, ◌==◌, nat_lt}
use Rattle.packet.specs.Bytes.{address_at}
use Rattle.director.specs.declared.state.Director.{Director}
use Rattle.director.specs.declared.state.Way.{Way}
use Rattle.director.specs.State.{Result}
use Rattle.director.specs.Packets.{packet_of}

-- inbound where the packet's destination is the virtual address, or where it is too short to have one; else outbound
abbrev pub way_of : ℕ → List ℕ → Way
way_of address p = cond (nat_lt (length p) 20) Way.Inbound (cond (address_at p 16 == address) Way.Inbound Way.Outbound)

-- the packet call that a packet is given to, at the stored clock
abbrev pub taken_of : Director → List ℕ → List ℕ → Result
taken_of d row p = packet_of (way_of d.service.address p) d row p d.clock
