-- Refusals 5 and 11 to 14, in calls that are one number or flag apart (SCOPE 4.5, 4.11 to 4.14). Assumes nothing: these are definitions.
use Rattle.std.specs.Prelude.{List, [], ◌∷◌}
use Rattle.table.specs.Slots.{free_slot}
use Rattle.director.specs.declared.state.Way.{Way}
use Rattle.audit.specs.Calls.{set_weight, count, tick, packet}
use Rattle.audit.specs.Cases.{Case, each, refusal}
use Rattle.audit.specs.Samples.{no_connection, one_connection, weightless, ports, tcp_packet, fin, syn, rst, ack, syn_ack, from_client, from_server0, from_server1, udp_from_client, udp_from_server0, udp_from_server1}

-- "no server of that number" (SCOPE 4.5)
abbrev pub number_cases : List Case
number_cases =
    each (λ k. refusal (no_connection 6 1 1 1) (set_weight k 1)) ((0, 0) ∷ (1, 0) ∷ (2, 5) ∷ (64, 5) ∷ [])
    ∷ each (λ k. refusal (no_connection 6 1 1 1) (count k)) ((0, 0) ∷ (1, 0) ∷ (2, 5) ∷ (64, 5) ∷ [])
    ∷ []

-- "clock earlier than the stored one" (SCOPE 4.11), which is 100; SCOPE E2 has 51
abbrev pub clock_cases : List Case
clock_cases =
    each (λ now. refusal (one_connection 6 1 []) (tick now)) ((0, 11) ∷ (99, 11) ∷ (100, 0) ∷ (101, 0) ∷ [])
    ∷ each (λ now. refusal (one_connection 6 1 []) (from_client 40000 ack now)) ((0, 11) ∷ (99, 11) ∷ (100, 0) ∷ (101, 0) ∷ [])
    ∷ each (λ now. refusal (one_connection 6 1 []) (from_server0 40000 ack now)) ((0, 11) ∷ (99, 11) ∷ (100, 0) ∷ (101, 0) ∷ [])
    ∷ []

-- "TCP inbound with SYN set and ACK, RST, FIN clear; any UDP inbound" opens (SCOPE 8.3); "Outbound packets open nothing." (SCOPE 8.5)
abbrev pub opening_cases : List Case
opening_cases =
    -- each set of FIN (01), SYN (02), RST (04) and ACK (10)
    each (λ flags. refusal (no_connection 6 1 1 1) (from_client 40000 flags 100))
    ((0x00, 12) ∷ (0x01, 12) ∷ (0x02, 0) ∷ (0x03, 12) ∷ (0x04, 12) ∷ (0x05, 12) ∷ (0x06, 12) ∷ (0x07, 12)
    ∷ (0x10, 12) ∷ (0x11, 12) ∷ (0x12, 12) ∷ (0x13, 12) ∷ (0x14, 12) ∷ (0x15, 12) ∷ (0x16, 12) ∷ (0x17, 12) ∷ [])
    -- SYN with each of the other flags, and each of them alone: PSH (08), URG (20), ECE (40), CWR (80)
    ∷ each (λ flags. refusal (no_connection 6 1 1 1) (from_client 40000 flags 100))
    ((0x0A, 0) ∷ (0x22, 0) ∷ (0x42, 0) ∷ (0x82, 0) ∷ (0x08, 12) ∷ (0x20, 12) ∷ (0x40, 12) ∷ (0x80, 12) ∷ [])
    ∷ each (λ flags. refusal (no_connection 6 1 1 1) (from_server0 40000 flags 100)) ((syn, 12) ∷ (syn_ack, 12) ∷ (ack, 12) ∷ (rst, 12) ∷ [])
    ∷ each (refusal (no_connection 17 1 1 1)) ((udp_from_client 40000 100, 0) ∷ (udp_from_server0 40000 100, 12) ∷ [])
    ∷ []

-- "no connection the packet belongs to, and it opens none" (SCOPE 4.12), where there is one connection and no other slot
abbrev pub belonging_cases : List Case
belonging_cases =
    -- its client; another port; another address
    each (refusal (one_connection 6 1 []))
    ((from_client 40000 ack 100, 0)
    ∷ (from_client 40001 ack 100, 12)
    ∷ (packet Way.Inbound (tcp_packet 0x6EC4 0x0A000002 0xC000020A (ports 40000 5432) ack) 100, 12)
    ∷ [])
    -- its server; the other server (SCOPE 8.2); to another port; to another address
    ∷ each (refusal (one_connection 6 1 []))
    ((from_server0 40000 ack 100, 0)
    ∷ (from_server1 40000 ack 100, 12)
    ∷ (from_server0 40001 ack 100, 12)
    ∷ (packet Way.Outbound (tcp_packet 0x26C9 0x0A010005 0x0A000002 (ports 6432 40000) ack) 100, 12)
    ∷ [])
    ∷ each (refusal (one_connection 17 1 []))
    ((udp_from_client 40000 100, 0) ∷ (udp_from_server0 40000 100, 0) ∷ (udp_from_server1 40000 100, 12) ∷ (udp_from_server0 40001 100, 12) ∷ [])
    -- a client 0.0.0.0:0 is not the client of a free slot; a SYN opens for it
    ∷ each (refusal (no_connection 6 1 1 1))
    ((packet Way.Inbound (tcp_packet 0x78C6 0x00000000 0xC000020A (ports 0 5432) ack) 100, 12)
    ∷ (packet Way.Inbound (tcp_packet 0x78C6 0x00000000 0xC000020A (ports 0 5432) syn) 100, 0)
    ∷ (packet Way.Outbound (tcp_packet 0x30CB 0x0A010005 0x00000000 (ports 6432 0) ack) 100, 12)
    ∷ [])
    -- whatever its flags and phase; in phase 4 a SYN opens anew (SCOPE 8.16), with no 13 (SCOPE 8.17), though there is no other slot
    ∷ each (λ flags. refusal (one_connection 6 1 []) (from_client 40000 flags 100)) ((0, 0) ∷ (fin, 0) ∷ (syn, 0) ∷ (rst, 0) ∷ [])
    ∷ each (λ flags. refusal (one_connection 6 1 []) (from_server0 40000 flags 100)) ((0, 0) ∷ (fin, 0) ∷ (syn, 0) ∷ (rst, 0) ∷ [])
    ∷ each (λ phase. refusal (one_connection 6 phase []) (from_client 40000 syn 100)) ((1, 0) ∷ (2, 0) ∷ (3, 0) ∷ (4, 0) ∷ [])
    ∷ []

-- "Idle limit: UDP 300 s, TCP phases 1 to 3 900 s, phase 4 120 s." (SCOPE 8.12): the connection is there at the one clock and gone at the next
abbrev pub idle_cases : List Case
idle_cases =
    each (λ now. refusal (one_connection 6 1 []) (from_client 40000 ack now)) ((999, 0) ∷ (1000, 12) ∷ [])
    ∷ each (λ now. refusal (one_connection 6 2 []) (from_client 40000 ack now)) ((999, 0) ∷ (1000, 12) ∷ [])
    ∷ each (λ now. refusal (one_connection 6 3 []) (from_server0 40000 ack now)) ((999, 0) ∷ (1000, 12) ∷ [])
    ∷ each (λ now. refusal (one_connection 6 4 []) (from_server0 40000 ack now)) ((219, 0) ∷ (220, 12) ∷ [])
    ∷ each (λ now. refusal (one_connection 17 1 []) (udp_from_server0 40000 now)) ((399, 0) ∷ (400, 12) ∷ [])
    ∷ []

-- "would open, and no slot is free" (SCOPE 4.13): a second client, where the one slot is used, where its connection has become idle, where there are two
abbrev pub full_cases : List Case
full_cases =
    each (λ now. refusal (one_connection 6 1 []) (from_client 40001 syn now)) ((100, 13) ∷ (999, 13) ∷ (1000, 0) ∷ [])
    ∷ each (λ now. refusal (one_connection 17 1 []) (udp_from_client 40001 now)) ((100, 13) ∷ (399, 13) ∷ (400, 0) ∷ [])
    ∷ each (λ free. refusal (one_connection 6 1 free) (from_client 40001 syn 100)) (([], 13) ∷ (free_slot ∷ [], 0) ∷ [])
    ∷ []

-- "would open, a slot is free, and every weight is 0" (SCOPE 4.14), for each scheduler
abbrev pub weight_cases : List Case
weight_cases =
    each (λ scheduler. refusal (no_connection 6 scheduler 0 0) (from_client 40000 syn 100)) ((1, 14) ∷ (2, 14) ∷ (3, 14) ∷ (4, 14) ∷ [])
    ∷ each (λ scheduler. refusal (no_connection 6 scheduler 0 1) (from_client 40000 syn 100)) ((1, 0) ∷ (2, 0) ∷ (3, 0) ∷ (4, 0) ∷ [])
    ∷ each (λ scheduler. refusal (no_connection 6 scheduler 1 0) (from_client 40000 syn 100)) ((1, 0) ∷ (2, 0) ∷ (3, 0) ∷ (4, 0) ∷ [])
    ∷ each (λ scheduler. refusal (no_connection 17 scheduler 0 0) (udp_from_client 40000 100)) ((1, 14) ∷ (2, 14) ∷ (3, 14) ∷ (4, 14) ∷ [])
    -- where its client's connection is in that phase, and there is no other slot (SCOPE 8.18); with each flag beside SYN; a server's
    ∷ each (λ phase. refusal (weightless phase) (from_client 40000 syn 100)) ((1, 0) ∷ (2, 0) ∷ (3, 0) ∷ (4, 14) ∷ [])
    ∷ each (λ flags. refusal (weightless 4) (from_client 40000 flags 100)) ((0x00, 0) ∷ (0x02, 14) ∷ (0x03, 0) ∷ (0x06, 0) ∷ (0x12, 0) ∷ (0x0A, 14) ∷ [])
    ∷ each (λ now. refusal (weightless 4) (from_client 40000 syn now)) ((219, 14) ∷ (220, 14) ∷ [])
    ∷ each (refusal (weightless 4)) ((from_server0 40000 syn 100, 0) ∷ [])
    ∷ []
