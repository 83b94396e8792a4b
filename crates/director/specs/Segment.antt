-- What a packet says of a connection, and refusals 6, 20, 7 to 10. Assumes nothing: these are definitions.
use Rattle.std.specs.Prelude.{ℕ, cond, ◌&&◌, List, eqb, Result, Ok, Err, Some, None, Option}
use Rattle.packet.specs.declared.read.Fault.{Fault}
use Rattle.packet.specs.declared.read.Packet.{Packet}
use Rattle.packet.specs.Reading.{read_packet}
use Rattle.servers.specs.declared.Server.{Server}
use Rattle.servers.specs.declared.ServerNo.{ServerNo}
use Rattle.servers.specs.Rules.{number_of}
use Rattle.director.specs.declared.state.Service.{Service}
use Rattle.director.specs.declared.state.Refusal.{Refusal}
use Rattle.director.specs.declared.state.Way.{Way}
use Rattle.director.specs.declared.segment.Sender.{Sender}
use Rattle.director.specs.declared.segment.Segment.{Segment}

-- what reading a packet for the director finds: what it says, or a refusal
abbrev pub Read : Type 0
Read = Result Segment Refusal

-- "an inbound packet's source" (SCOPE 8.1) is its client
abbrev pub inbound_segment : Packet → Read
inbound_segment p =
    Ok (record { address = p.source; port = p.transport.source; sender = Sender.Client; flags = p.transport.flags })

-- 10: "destination is not the virtual address and port" (SCOPE 4.10)
abbrev pub from_client : Service → Packet → Read
from_client g p =
    cond (eqb p.destination g.address && eqb p.transport.destination g.port) (inbound_segment p) (Err Refusal.OtherEndpoint)

-- "an outbound packet's destination" (SCOPE 8.1) is its client; 10: "source is no server's address and port" (SCOPE 4.10)
abbrev pub on_number : Packet → Option ServerNo → Read
on_number p None = Err Refusal.OtherEndpoint
on_number p (Some i) =
    Ok (record { address = p.destination; port = p.transport.destination; sender = Sender.Server i; flags = p.transport.flags })

abbrev pub from_server : Service → List Server → Packet → Read
from_server g servers p = on_number p (number_of servers p.source p.transport.source g.servers)

abbrev pub on_way : Service → List Server → Packet → Way → Read
on_way g servers p Way.Inbound = from_client g p
on_way g servers p Way.Outbound = from_server g servers p

-- 6, 20, 7, 8, 9 as the packet's reading has them, then 10
abbrev pub on_reading : Way → Service → List Server → Result Packet Fault → Read
on_reading way g servers (Err fault) = Err (Refusal.Packet fault)
on_reading way g servers (Ok p) = on_way g servers p way

-- what a packet says to a service over its servers
unfoldable pub segment_read : Way → Service → List Server → List ℕ → Read
segment_read way g servers p = on_reading way g servers (read_packet g.protocol p)
