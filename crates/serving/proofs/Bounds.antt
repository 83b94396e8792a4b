-- Refusals have numbers up to 20. Assumes nothing.
use Rattle.std.proofs.Common.{◌≤◌, arith}
use Rattle.packet.specs.declared.read.Fault.{Fault}
use Rattle.packet.specs.Reading.{fault_number}
use Rattle.director.specs.declared.state.Refusal.{Refusal}
use Rattle.director.specs.State.{refusal_number}

fault_most : (f : Fault) → fault_number f ≤ 20
fault_most Fault.MalformedHeader = omega arith
fault_most Fault.BadChecksum = omega arith
fault_most Fault.Fragment = omega arith
fault_most Fault.OtherProtocol = omega arith
fault_most Fault.MalformedTransport = omega arith

pub refusal_most : (why : Refusal) → refusal_number why ≤ 20
refusal_most Refusal.Size = omega arith
refusal_most Refusal.Service = omega arith
refusal_most Refusal.ServerUnset = omega arith
refusal_most Refusal.ServerRepeated = omega arith
refusal_most Refusal.NoServer = omega arith
refusal_most (Refusal.Packet fault) = fault_most fault
refusal_most Refusal.OtherEndpoint = omega arith
refusal_most Refusal.EarlierClock = omega arith
refusal_most Refusal.NoConnection = omega arith
refusal_most Refusal.TableFull = omega arith
refusal_most Refusal.NoWeight = omega arith
refusal_most Refusal.Unsound = omega arith
