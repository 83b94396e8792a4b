-- The order of refusals: a call that meets all of them, mended one after the other. "The lowest-placed failing test in that order answers." (SCOPE 5.2)
-- Assumes nothing: these are definitions.
use Rattle.std.specs.Prelude.{ℕ, List, [], ◌∷◌}
use Rattle.servers.specs.declared.Server.{Server}
use Rattle.table.specs.declared.slot.Slot.{Slot}
use Rattle.table.specs.Slots.{free_slot}
use Rattle.director.specs.declared.state.Service.{Service}
use Rattle.director.specs.declared.state.Way.{Way}
use Rattle.audit.specs.Calls.{Call, set_weight, count, tick, packet, State}
use Rattle.audit.specs.Cases.{Case, refusal, beside}
use Rattle.audit.specs.Samples.{server_of, array, two_servers, state_with, connection, ports}
use Rattle.audit.specs.SetupCases.{setup_refusal}
use Rattle.audit.specs.PacketCases.{carrying}

-- one connection, of server 0, whose count is right where it is 1; the clock is 100
abbrev pub counted : (count0 weight1 : ℕ) → List Slot → State
counted count0 weight1 free = state_with 6 (two_servers 0 count0 weight1 0) (connection 1 40000 0 100 ∷ free)

-- a packet of a second client
abbrev pub sent : (lengths fragments checked port flags now : ℕ) → Call
sent lengths fragments checked port flags now =
    packet Way.Inbound (carrying lengths fragments checked (ports 40001 port ∷ 0x00000000 ∷ 0x00000000 ∷ flags ∷ 0x325F0000 ∷ [])) now

abbrev pub setup_order_cases : List Case
setup_order_cases =
    -- "setup 1, 2, 3, 4" (SCOPE 5.1): the row's length; the port; a server's port; two servers at one place
    beside
    ((setup_refusal 4 (service 0) (three 0x0A010005 0), 1)
    ∷ (setup_refusal 5 (service 0) (three 0x0A010005 0), 2)
    ∷ (setup_refusal 5 (service 5432) (three 0x0A010005 0), 3)
    ∷ (setup_refusal 5 (service 5432) (three 0x0A010005 6434), 4)
    ∷ (setup_refusal 5 (service 5432) (three 0x0A010006 6434), 0)
    ∷ [])
    ∷ []
  where
    service : (port : ℕ) → Service
    service port = record { address = 0xC000020A; port = port; protocol = 6; scheduler = 1; servers = 3 }

    -- the second at an address, the third at a port
    three : (address port : ℕ) → List Server
    three address port = array (server_of 0x0A010005 6432 1 0 ∷ server_of address 6432 1 0 ∷ server_of 0x0A010007 port 1 0 ∷ [])

-- "Weight and count 15, 5. Tick 15, 11. Packets 15, 6, 20, 7 to 11, then 12 to 14." (SCOPE 5.1)
abbrev pub call_order_cases : List Case
call_order_cases =
    beside ((refusal (counted 2 1 []) (set_weight 2 1), 15) ∷ (refusal (counted 1 1 []) (set_weight 2 1), 5) ∷ [])
    ∷ beside ((refusal (counted 2 1 []) (count 2), 15) ∷ (refusal (counted 1 1 []) (count 2), 5) ∷ [])
    ∷ beside ((refusal (counted 2 1 []) (tick 99), 15) ∷ (refusal (counted 1 1 []) (tick 99), 11) ∷ [])
    -- the count; the total length; the header checksum; more-fragments; the protocol; the data offset; the port; the clock; ACK in place of SYN;
    -- no slot (SCOPE E1); no weight
    ∷ beside
    ((refusal (counted 2 0 []) (sent 0x45000029 0x00002000 0x40118EBB 5433 0x40100000 99), 15)
    ∷ (refusal (counted 1 0 []) (sent 0x45000029 0x00002000 0x40118EBB 5433 0x40100000 99), 6)
    ∷ (refusal (counted 1 0 []) (sent 0x45000028 0x00002000 0x40118EBB 5433 0x40100000 99), 20)
    ∷ (refusal (counted 1 0 []) (sent 0x45000028 0x00002000 0x40118EBA 5433 0x40100000 99), 7)
    ∷ (refusal (counted 1 0 []) (sent 0x45000028 0x00004000 0x40116EBA 5433 0x40100000 99), 8)
    ∷ (refusal (counted 1 0 []) (sent 0x45000028 0x00004000 0x40066EC5 5433 0x40100000 99), 9)
    ∷ (refusal (counted 1 0 []) (sent 0x45000028 0x00004000 0x40066EC5 5433 0x50100000 99), 10)
    ∷ (refusal (counted 1 0 []) (sent 0x45000028 0x00004000 0x40066EC5 5432 0x50100000 99), 11)
    ∷ (refusal (counted 1 0 []) (sent 0x45000028 0x00004000 0x40066EC5 5432 0x50100000 100), 12)
    ∷ (refusal (counted 1 0 []) (sent 0x45000028 0x00004000 0x40066EC5 5432 0x50020000 100), 13)
    ∷ (refusal (counted 1 0 (free_slot ∷ [])) (sent 0x45000028 0x00004000 0x40066EC5 5432 0x50020000 100), 14)
    ∷ (refusal (counted 1 1 (free_slot ∷ [])) (sent 0x45000028 0x00004000 0x40066EC5 5432 0x50020000 100), 0)
    ∷ [])
    ∷ []
