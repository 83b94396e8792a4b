-- Whole packets as they come and as they leave, beside P11 (SCOPE 7.3 to 7.8): outbound, with IP options, in UDP. The checksums were calculated afresh, outside
-- the prover. Assumes nothing: these are definitions.
use Rattle.std.specs.Prelude.{ℕ, List, [], ◌∷◌, cond}
use Rattle.packet.specs.Laws.{fresh_header, fresh_transport, transport_verifies}
use Rattle.director.specs.declared.state.Way.{Way}
use Rattle.audit.specs.Calls.{packet, called}
use Rattle.audit.specs.Cases.{Case, Hold}
use Rattle.audit.specs.Samples.{one_connection, bytes}

-- a packet of the connection of 10.0.0.1:40000 with server 0, in words
abbrev pub leaves : (protocol : ℕ) → Way → (comes goes : List ℕ) → Case
leaves protocol way comes goes =
    record { given = (called (one_connection protocol 1 []) (packet way (bytes comes) 100)).lent.packet; printed = bytes goes }

abbrev pub forwarding_cases : List Case
forwarding_cases =
    -- a server's SYN and ACK: "Outbound sets source address and port to the virtual ones." (SCOPE 7.4)
    leaves 6 Way.Outbound
    (0x45000028 ∷ 0x00004000 ∷ 0x400626CA ∷ 0x0A010005 ∷ 0x0A000001 ∷ 0x19209C40 ∷ 0x11111111 ∷ 0x22222222 ∷ 0x50124000 ∷ 0x40050000 ∷ [])
    (0x45000028 ∷ 0x00004000 ∷ 0x40066EC5 ∷ 0xC000020A ∷ 0x0A000001 ∷ 0x15389C40 ∷ 0x11111111 ∷ 0x22222222 ∷ 0x50124000 ∷ 0x8BE80000 ∷ [])
    -- a header of 24 bytes, three bytes of data, five past the total length
    ∷ leaves 6 Way.Inbound
    (0x4600002F ∷ 0x00004000 ∷ 0x40066BBC ∷ 0x0A000001 ∷ 0xC000020A ∷ 0x01010101
    ∷ 0x9C401538 ∷ 0x11111111 ∷ 0x22222222 ∷ 0x50184000 ∷ 0xC77C0000 ∷ 0x616263EE ∷ 0xDDCCBBAA ∷ [])
    (0x4600002F ∷ 0x00004000 ∷ 0x400623C1 ∷ 0x0A000001 ∷ 0x0A010005 ∷ 0x01010101
    ∷ 0x9C401920 ∷ 0x11111111 ∷ 0x22222222 ∷ 0x50184000 ∷ 0x7B990000 ∷ 0x616263EE ∷ 0xDDCCBBAA ∷ [])
    -- UDP with data
    ∷ leaves 17 Way.Inbound
    (0x45000020 ∷ 0x00004000 ∷ 0x40116EC2 ∷ 0x0A000001 ∷ 0xC000020A ∷ 0x9C401538 ∷ 0x000CA98F ∷ 0x64617461 ∷ [])
    (0x45000020 ∷ 0x00004000 ∷ 0x401126C7 ∷ 0x0A000001 ∷ 0x0A010005 ∷ 0x9C401920 ∷ 0x000C5DAC ∷ 0x64617461 ∷ [])
    -- "UDP checksum 0 stays 0; a UDP result of 0 is written FFFF." (SCOPE 7.6)
    ∷ leaves 17 Way.Outbound
    (0x45000020 ∷ 0x00004000 ∷ 0x401126C7 ∷ 0x0A010005 ∷ 0x0A000001 ∷ 0x19209C40 ∷ 0x000C0000 ∷ 0x64617461 ∷ [])
    (0x45000020 ∷ 0x00004000 ∷ 0x40116EC2 ∷ 0xC000020A ∷ 0x0A000001 ∷ 0x15389C40 ∷ 0x000C0000 ∷ 0x64617461 ∷ [])
    ∷ leaves 17 Way.Inbound
    (0x45000020 ∷ 0x00004000 ∷ 0x40116EC2 ∷ 0x0A000001 ∷ 0xC000020A ∷ 0x9C401538 ∷ 0x000C4BE3 ∷ 0x366F0000 ∷ [])
    (0x45000020 ∷ 0x00004000 ∷ 0x401126C7 ∷ 0x0A000001 ∷ 0x0A010005 ∷ 0x9C401920 ∷ 0x000CFFFF ∷ 0x366F0000 ∷ [])
    -- refused: server 1 is not the connection's
    ∷ leaves 6 Way.Outbound
    (0x45000028 ∷ 0x00004000 ∷ 0x400626C9 ∷ 0x0A010006 ∷ 0x0A000001 ∷ 0x19219C40 ∷ 0x11111111 ∷ 0x22222222 ∷ 0x50124000 ∷ 0x40030000 ∷ [])
    (0x45000028 ∷ 0x00004000 ∷ 0x400626C9 ∷ 0x0A010006 ∷ 0x0A000001 ∷ 0x19219C40 ∷ 0x11111111 ∷ 0x22222222 ∷ 0x50124000 ∷ 0x40030000 ∷ [])
    ∷ []

-- a packet's checksums by a fresh calculation, as demand 2 has it (SCOPE 7.8), and whether its transport checksum verifies
abbrev pub checked : (protocol : ℕ) → List ℕ → (header transport : ℕ) → Case
checked protocol ws header transport =
    let p = bytes ws in
    record {
      given = fresh_header p ∷ fresh_transport protocol p ∷ cond (transport_verifies protocol p) 1 0 ∷ [];
      printed = header ∷ transport ∷ 1 ∷ [];
    }

abbrev pub checksum_cases : List Case
checksum_cases =
    -- P11's packet, as it comes and as it leaves
    checked 6
    (0x45000028 ∷ 0x00004000 ∷ 0x40066EC5 ∷ 0x0A000001 ∷ 0xC000020A ∷ 0x9C401538 ∷ 0x00000000 ∷ 0x00000000 ∷ 0x50020000 ∷ 0x325F0000 ∷ [])
    0x6EC5 0x325F
    ∷ checked 6
    (0x45000028 ∷ 0x00004000 ∷ 0x400626CA ∷ 0x0A000001 ∷ 0x0A010005 ∷ 0x9C401920 ∷ 0x00000000 ∷ 0x00000000 ∷ 0x50020000 ∷ 0xE67B0000 ∷ [])
    0x26CA 0xE67B
    -- options, an odd number of bytes, and bytes past the total length, which it leaves out
    ∷ checked 6
    (0x4600002F ∷ 0x00004000 ∷ 0x40066BBC ∷ 0x0A000001 ∷ 0xC000020A ∷ 0x01010101
    ∷ 0x9C401538 ∷ 0x11111111 ∷ 0x22222222 ∷ 0x50184000 ∷ 0xC77C0000 ∷ 0x616263EE ∷ 0xDDCCBBAA ∷ [])
    0x6BBC 0xC77C
    -- UDP; and one whose calculation gives 0, which is sent as FFFF
    ∷ checked 17
    (0x45000020 ∷ 0x00004000 ∷ 0x40116EC2 ∷ 0x0A000001 ∷ 0xC000020A ∷ 0x9C401538 ∷ 0x000CA98F ∷ 0x64617461 ∷ [])
    0x6EC2 0xA98F
    ∷ checked 17
    (0x45000020 ∷ 0x00004000 ∷ 0x401126C7 ∷ 0x0A000001 ∷ 0x0A010005 ∷ 0x9C401920 ∷ 0x000CFFFF ∷ 0x366F0000 ∷ [])
    0x26C7 0x0000
    ∷ []

pub record Forwarding : Type 0 where
  pub packets : Hold forwarding_cases
  pub checksums : Hold checksum_cases
