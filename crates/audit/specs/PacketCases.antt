-- Refusals 6 to 10 and 20, of packets, in calls that are one number apart (SCOPE 4.6 to 4.10, 4.20). Header checksums are right but where they are the
-- reason, and no packet has two reasons but where a comment says so. Assumes nothing: these are definitions.
use Rattle.std.specs.Prelude.{ℕ, List, [], ◌∷◌, ◌++◌, take}
use Rattle.director.specs.declared.state.Way.{Way}
use Rattle.audit.specs.Calls.{packet}
use Rattle.audit.specs.Cases.{Case, each, refusal}
use Rattle.audit.specs.Samples.{one_connection, bytes, ports, tcp, tcp_packet, udp_packet, ack}

-- a packet call where its client has a connection, with server 0
abbrev pub inbound_refusal : (protocol : ℕ) → List ℕ → ℕ
inbound_refusal protocol p = refusal (one_connection protocol 1 []) (packet Way.Inbound p 100)

abbrev pub outbound_refusal : (protocol : ℕ) → List ℕ → ℕ
outbound_refusal protocol p = refusal (one_connection protocol 1 []) (packet Way.Outbound p 100)

-- a packet of the connection's client: the first three words of its header, then what follows the addresses
abbrev pub carrying : (lengths fragments checked : ℕ) → List ℕ → List ℕ
carrying lengths fragments checked rest = bytes (lengths ∷ fragments ∷ checked ∷ 0x0A000001 ∷ 0xC000020A ∷ rest)

-- with a TCP header; with four bytes of IP options before it
abbrev pub plain : (lengths fragments checked : ℕ) → List ℕ
plain lengths fragments checked = carrying lengths fragments checked (tcp (ports 40000 5432) ack)

abbrev pub optioned : (lengths fragments checked : ℕ) → List ℕ
optioned lengths fragments checked = carrying lengths fragments checked (0x01010101 ∷ tcp (ports 40000 5432) ack)

-- "packet under 20 bytes; version not 4; header length word under 5" (SCOPE 4.6)
abbrev pub header_cases : List Case
header_cases =
    -- so many bytes of a packet of 20. Under 20, its total length is above the bytes given too: no header has less
    each (λ n. inbound_refusal 6 (take n (plain 0x45000014 0x00004000 0x40066ED9))) ((0, 6) ∷ (19, 6) ∷ (20, 9) ∷ [])
    -- version 3, 4, 5, 6
    ∷ each (inbound_refusal 6)
    ((plain 0x35000028 0x00004000 0x40067EC5, 6)
    ∷ (plain 0x45000028 0x00004000 0x40066EC5, 0)
    ∷ (plain 0x55000028 0x00004000 0x40065EC5, 6)
    ∷ (plain 0x65000028 0x00004000 0x40064EC5, 6)
    ∷ [])
    -- header length word 4 (its checksum is over 16 bytes), 5, 6
    ∷ each (inbound_refusal 6)
    ((plain 0x44000028 0x00004000 0x400631D0, 6)
    ∷ (plain 0x45000028 0x00004000 0x40066EC5, 0)
    ∷ (optioned 0x4600002C 0x00004000 0x40066BBF, 0)
    ∷ [])
    ∷ []

-- "total length below header length or above the bytes given" (SCOPE 4.6)
abbrev pub length_cases : List Case
length_cases =
    -- a header of 20 bytes with total length 19, 20; of 24 with 23, 24
    each (inbound_refusal 6)
    ((plain 0x45000013 0x00004000 0x40066EDA, 6)
    ∷ (plain 0x45000014 0x00004000 0x40066ED9, 9)
    ∷ (optioned 0x46000017 0x00004000 0x40066BD4, 6)
    ∷ (optioned 0x46000018 0x00004000 0x40066BD3, 9)
    ∷ [])
    -- total length 41 in 40 bytes, in 41; 40 in 41
    ∷ each (inbound_refusal 6)
    ((plain 0x45000029 0x00004000 0x40066EC4, 6)
    ∷ (plain 0x45000029 0x00004000 0x40066EC4 ++ (0 ∷ []), 0)
    ∷ (plain 0x45000028 0x00004000 0x40066EC5 ++ (0 ∷ []), 0)
    ∷ [])
    ∷ []

-- "header checksum not valid" (SCOPE 4.20)
abbrev pub checksum_cases : List Case
checksum_cases =
    -- one less, right, one more; with options right, and as it would be without them
    each (inbound_refusal 6)
    ((plain 0x45000028 0x00004000 0x40066EC4, 20)
    ∷ (plain 0x45000028 0x00004000 0x40066EC5, 0)
    ∷ (plain 0x45000028 0x00004000 0x40066EC6, 20)
    ∷ (optioned 0x4600002C 0x00004000 0x40066BBF, 0)
    ∷ (optioned 0x4600002C 0x00004000 0x40066DC1, 20)
    ∷ [])
    -- where the other words sum to FFFF: 0000, FFFF in its place, which verifies too, and 0001
    ∷ each (inbound_refusal 6)
    ((plain 0x45000028 0x6EC54000 0x40060000, 0) ∷ (plain 0x45000028 0x6EC54000 0x4006FFFF, 0) ∷ (plain 0x45000028 0x6EC54000 0x40060001, 20) ∷ [])
    -- wrong, with a second reason: 19 bytes, version 6, header length word 4, total length 19, 41 in 40 bytes are told before it
    ∷ each (inbound_refusal 6)
    ((take 19 (plain 0x45000014 0x00004000 0x40066ED8), 6)
    ∷ (plain 0x65000028 0x00004000 0x40064EC4, 6)
    ∷ (plain 0x44000028 0x00004000 0x400631CF, 6)
    ∷ (plain 0x45000013 0x00004000 0x40066ED9, 6)
    ∷ (plain 0x45000029 0x00004000 0x40066EC3, 6)
    ∷ [])
    -- a fragment, another protocol, a payload of 19 bytes and another port after it: the sum wrong, and right
    ∷ each (inbound_refusal 6)
    ((plain 0x45000028 0x00002000 0x40068EC4, 20)
    ∷ (plain 0x45000028 0x00002000 0x40068EC5, 7)
    ∷ (plain 0x45000028 0x00004000 0x40116EB9, 20)
    ∷ (plain 0x45000028 0x00004000 0x40116EBA, 8)
    ∷ (plain 0x45000027 0x00004000 0x40066EC5, 20)
    ∷ (plain 0x45000027 0x00004000 0x40066EC6, 9)
    ∷ (tcp_packet 0x6EC4 0x0A000001 0xC000020A (ports 40000 5433) ack, 20)
    ∷ (tcp_packet 0x6EC5 0x0A000001 0xC000020A (ports 40000 5433) ack, 10)
    ∷ [])
    -- outbound, and in UDP
    ∷ each (outbound_refusal 6)
    ((tcp_packet 0x26C9 0x0A010005 0x0A000001 (ports 6432 40000) ack, 20) ∷ (tcp_packet 0x26CA 0x0A010005 0x0A000001 (ports 6432 40000) ack, 0) ∷ [])
    ∷ each (inbound_refusal 17)
    ((udp_packet 0x6EC5 0x0A000001 0xC000020A (ports 40000 5432), 20) ∷ (udp_packet 0x6EC6 0x0A000001 0xC000020A (ports 40000 5432), 0) ∷ [])
    ∷ []

-- "more-fragments set, or fragment offset not 0" (SCOPE 4.7): more-fragments is 2000, don't-fragment 4000, a reserved bit 8000 (RFC 791)
abbrev pub fragment_cases : List Case
fragment_cases =
    each (inbound_refusal 6)
    ((plain 0x45000028 0x00000000 0x4006AEC5, 0)
    ∷ (plain 0x45000028 0x00000001 0x4006AEC4, 7)
    ∷ (plain 0x45000028 0x00001000 0x40069EC5, 7)
    ∷ (plain 0x45000028 0x00001FFF 0x40068EC6, 7)
    ∷ (plain 0x45000028 0x00002000 0x40068EC5, 7)
    ∷ (plain 0x45000028 0x00004000 0x40066EC5, 0)
    ∷ (plain 0x45000028 0x00006000 0x40064EC5, 7)
    ∷ (plain 0x45000028 0x00008000 0x40062EC5, 0)
    ∷ [])
    ∷ []

-- "protocol is not the service's" (SCOPE 4.8): 1, 5, 6, 7, 16, 17 and 18 in the word of TTL, protocol and header checksum
abbrev pub protocol_cases : List Case
protocol_cases =
    each (λ checked. inbound_refusal 6 (either checked))
    ((0x40016ECA, 8) ∷ (0x40056EC6, 8) ∷ (0x40066EC5, 0) ∷ (0x40076EC4, 8) ∷ (0x40106EBB, 8) ∷ (0x40116EBA, 8) ∷ (0x40126EB9, 8) ∷ [])
    ∷ each (λ checked. inbound_refusal 17 (either checked))
    ((0x40016ECA, 8) ∷ (0x40056EC6, 8) ∷ (0x40066EC5, 8) ∷ (0x40076EC4, 8) ∷ (0x40106EBB, 8) ∷ (0x40116EBA, 0) ∷ (0x40126EB9, 8) ∷ [])
    ∷ []
  where
    -- twenty bytes that are a TCP header, and a UDP header with data
    either : ℕ → List ℕ
    either checked =
        carrying 0x45000028 0x00004000 checked (ports 40000 5432 ∷ 0x00140000 ∷ 0x00000000 ∷ 0x50100000 ∷ 0x325F0000 ∷ [])

-- "TCP: payload under 20 bytes, data offset under 5 words or past the payload. UDP: payload under 8, or UDP length not the payload length." (SCOPE 4.9)
abbrev pub transport_cases : List Case
transport_cases =
    -- a TCP payload of 19 bytes, 20. Under 20, its data offset is past the payload too, or under 5
    each (inbound_refusal 6)
    ((plain 0x45000027 0x00004000 0x40066EC6, 9) ∷ (plain 0x45000028 0x00004000 0x40066EC5, 0) ∷ [])
    -- data offset 4, 5, 6 in 20 bytes (SCOPE E3); 6 in 23, in 24
    ∷ each (inbound_refusal 6)
    ((offset 0x45000028 0x40066EC5 0x40100000, 9)
    ∷ (offset 0x45000028 0x40066EC5 0x50100000, 0)
    ∷ (offset 0x45000028 0x40066EC5 0x60100000, 9)
    ∷ (offset 0x4500002B 0x40066EC2 0x60100000, 9)
    ∷ (offset 0x4500002C 0x40066EC1 0x60100000, 0)
    ∷ [])
    -- UDP length 7 in 7 bytes; 7, 8, 9 in 8; 8, 9 in 9
    ∷ each (inbound_refusal 17)
    ((udp 0x4500001B 0x40116EC7 0x00070000, 9)
    ∷ (udp 0x4500001C 0x40116EC6 0x00070000, 9)
    ∷ (udp 0x4500001C 0x40116EC6 0x00080000, 0)
    ∷ (udp 0x4500001C 0x40116EC6 0x00090000, 9)
    ∷ (udp 0x4500001D 0x40116EC5 0x00080000, 9)
    ∷ (udp 0x4500001D 0x40116EC5 0x00090000, 0)
    ∷ [])
    ∷ []
  where
    -- four bytes follow both
    offset : (lengths checked word : ℕ) → List ℕ
    offset lengths checked word =
        carrying lengths 0x00004000 checked (ports 40000 5432 ∷ 0x00000000 ∷ 0x00000000 ∷ word ∷ 0x325F0000 ∷ 0x01010101 ∷ [])

    udp : (lengths checked word : ℕ) → List ℕ
    udp lengths checked word = carrying lengths 0x00004000 checked (ports 40000 5432 ∷ word ∷ 0x01010101 ∷ [])

-- "inbound: destination is not the virtual address and port. Outbound: source is no server's address and port" (SCOPE 4.10)
abbrev pub endpoint_cases : List Case
endpoint_cases =
    each (inbound_refusal 6)
    ((tcp_packet 0x6EC6 0x0A000001 0xC0000209 (ports 40000 5432) ack, 10)
    ∷ (tcp_packet 0x6EC5 0x0A000001 0xC000020A (ports 40000 5432) ack, 0)
    ∷ (tcp_packet 0x6EC4 0x0A000001 0xC000020B (ports 40000 5432) ack, 10)
    ∷ (tcp_packet 0x6EC5 0x0A000001 0xC000020A (ports 40000 5431) ack, 10)
    ∷ (tcp_packet 0x6EC5 0x0A000001 0xC000020A (ports 40000 5433) ack, 10)
    ∷ [])
    -- an address before server 0's, server 0, a port before its; server 1, which is not the connection's; the address of one with the port of the
    -- other; an unused place
    ∷ each (outbound_refusal 6)
    ((tcp_packet 0x26CB 0x0A010004 0x0A000001 (ports 6432 40000) ack, 10)
    ∷ (tcp_packet 0x26CA 0x0A010005 0x0A000001 (ports 6432 40000) ack, 0)
    ∷ (tcp_packet 0x26CA 0x0A010005 0x0A000001 (ports 6431 40000) ack, 10)
    ∷ (tcp_packet 0x26C9 0x0A010006 0x0A000001 (ports 6433 40000) ack, 12)
    ∷ (tcp_packet 0x26CA 0x0A010005 0x0A000001 (ports 6433 40000) ack, 10)
    ∷ (tcp_packet 0x26C9 0x0A010006 0x0A000001 (ports 6432 40000) ack, 10)
    ∷ (tcp_packet 0x30D0 0x00000000 0x0A000001 (ports 0 40000) ack, 10)
    ∷ [])
    ∷ []
