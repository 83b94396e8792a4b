-- Runs of calls with what each answers and the counts after it, as one statement; one of them meets demand 3's premise. proofs/Run.antt proves it.
-- Assumes nothing: these are definitions.
use Rattle.std.specs.Prelude.{ℕ, List, [], ◌∷◌, ◌++◌, map, ◌≡◌}
use Rattle.servers.specs.Servers.{count_at}
use Rattle.table.specs.Slots.{words, free_slot}
use Rattle.director.specs.declared.state.Answer.{Answer}
use Rattle.director.specs.declared.state.Way.{Way}
use Rattle.audit.specs.Calls.{Call, set_up, set_weight, count, tick, packet, Fits, AllFit, State, called, next, after, record_of}
use Rattle.audit.specs.Book.{Book, book_of}
use Rattle.audit.specs.BookCases.{entry, all_told}
use Rattle.audit.specs.Cases.{Case, Hold, answered, done, number, opened, kept, ended, refused}
use Rattle.audit.specs.Samples.{service_of, two_servers, unsound, connection, bytes, ports, tcp_packet, fin, syn, rst, ack, fin_ack, syn_ack, from_client, from_server0, from_server1, udp_from_client, udp_from_server0, udp_from_server1}

-- a call, what it answers, and the counts of servers 0 and 1 after it
pub record Step : Type 0 where
  pub call : Call
  pub answer : List ℕ
  pub count0 : ℕ
  pub count1 : ℕ

abbrev pub step : Call → List ℕ → (count0 count1 : ℕ) → Step
step call answer count0 count1 = record { call = call; answer = answer; count0 = count0; count1 = count1 }

-- the calls in a row from a state on: what the rules give, beside what is printed
abbrev pub told : State → List Step → List Case
told s [] = []
told s (c ∷ cs) =
    let r = next s c.call in
    record {
      given = answered (called s c.call).answer ++ (count_at r.director.servers 0 ∷ count_at r.director.servers 1 ∷ []);
      printed = c.answer ++ (c.count0 ∷ c.count1 ∷ []);
    }
    ∷ told r cs

-- TCP, round-robin

-- "setup zeroes the row, all counts and the clock" (SCOPE 3.3)
abbrev pub first : Call
first = set_up (service_of 6 1 2) (two_servers 1 7 1 9)

-- In a row of two slots, with clients 40000, 40001 and 40002

-- two connections, each with packets both ways; a third finds no slot
abbrev pub opening_steps : List Step
opening_steps =
    step (from_client 40000 syn 10) (opened 0) 1 0
    ∷ step (from_server0 40000 syn_ack 11) (kept 0) 1 0
    ∷ step (from_client 40001 syn 12) (opened 1) 1 1
    ∷ step (from_server0 40001 syn_ack 13) (refused 12) 1 1
    ∷ step (from_server1 40001 syn_ack 13) (kept 1) 1 1
    ∷ step (from_client 40002 ack 13) (refused 12) 1 1
    ∷ step (from_client 40002 syn 14) (refused 13) 1 1
    ∷ step (tick 13) (refused 11) 1 1
    -- it did not move the walk (SCOPE 12.3): 0 is next
    ∷ step (from_client 40001 rst 15) (ended 1) 1 0
    ∷ step (from_client 40002 syn 15) (opened 0) 2 0
    ∷ step (from_server0 40002 rst 15) (ended 0) 1 0
    ∷ step (from_client 40001 syn 15) (opened 1) 1 1
    ∷ []

-- server 0 is drained: who is new goes to server 1, who is there stays
abbrev pub drain_steps : List Step
drain_steps =
    step (set_weight 0 0) done 1 1
    ∷ step (from_client 40001 rst 16) (ended 1) 1 0
    ∷ step (from_client 40002 syn 16) (opened 1) 1 1
    ∷ step (from_client 40000 ack 17) (kept 0) 1 1
    ∷ step (tick 16) (refused 11) 1 1
    -- "RST is looked at first" (SCOPE 8.8): with FIN and ACK
    ∷ step (from_server1 40002 0x15 18) (ended 1) 1 0
    ∷ step (set_weight 1 0) done 1 0
    ∷ step (from_client 40002 syn 19) (refused 14) 1 0
    ∷ step (tick 18) (refused 11) 1 0
    ∷ step (set_weight 1 1) done 1 0
    -- the clock of a packet for another port is not stored
    ∷ step (packet Way.Inbound (tcp_packet 0x6EC5 0x0A000001 0xC000020A (ports 40000 5433) rst) 900) (refused 10) 1 0
    ∷ []

-- FIN from the client, twice, then from the server, then a SYN with ACK: the count falls 120 s after the last packet
abbrev pub fin_steps : List Step
fin_steps =
    step (from_client 40000 fin 20) (kept 0) 1 0
    ∷ step (from_client 40000 fin 21) (kept 0) 1 0
    ∷ step (count 0) (number 1) 1 0
    ∷ step (from_server0 40000 fin_ack 22) (kept 0) 1 0
    ∷ step (from_client 40000 syn_ack 30) (kept 0) 1 0
    ∷ step (tick 149) (number 0) 1 0
    ∷ step (count 0) (number 1) 1 0
    ∷ step (tick 150) (number 1) 0 0
    ∷ step (count 0) (number 0) 0 0
    ∷ step (from_client 40000 ack 151) (refused 12) 0 0
    -- FIN from the server alone: 900 s; a packet that is refused removes it
    ∷ step (from_client 40000 syn 200) (opened 1) 0 1
    ∷ step (from_server1 40000 fin_ack 210) (kept 1) 0 1
    ∷ step (from_client 40002 ack 1109) (refused 12) 0 1
    ∷ step (from_client 40002 ack 1110) (refused 12) 0 0
    ∷ step (tick 1109) (refused 11) 0 0
    -- FIN from the server first
    ∷ step (from_client 40000 syn 1110) (opened 1) 0 1
    ∷ step (from_server1 40000 fin_ack 1111) (kept 1) 0 1
    ∷ step (from_client 40000 fin_ack 1112) (kept 1) 0 1
    ∷ step (tick 1231) (number 0) 0 1
    ∷ step (tick 1232) (number 1) 0 0
    ∷ []

-- server 0 is put back; a setup that is refused leaves all as it is; an accepted one forgets all, weights, walk and clock included
abbrev pub setup_steps : List Step
setup_steps =
    step (set_weight 0 1) done 0 0
    ∷ step (from_client 40000 syn 1300) (opened 0) 1 0
    ∷ step (set_weight 0 0) done 1 0
    ∷ step (set_up (service_of 6 1 0) (two_servers 1 0 1 0)) (refused 1) 1 0
    ∷ step (from_client 40000 ack 1300) (kept 0) 1 0
    ∷ step (set_weight 2 1) (refused 5) 1 0
    ∷ step first done 0 0
    ∷ step (from_client 40000 ack 0) (refused 12) 0 0
    ∷ step (from_client 40000 syn 0) (opened 0) 1 0
    ∷ []

abbrev pub after_first : List Step
after_first = opening_steps ++ drain_steps ++ fin_steps ++ setup_steps

abbrev pub rest : List Call
rest = map (λ (c : Step). c.call) after_first

-- 15 can't come after a setup (SCOPE 6.8), so it comes before
abbrev pub tcp_run : List Step
tcp_run = step (count 0) (refused 15) 0 0 ∷ step first done 0 0 ∷ after_first

-- Ports that come back (SCOPE 8.16 to 8.18): TCP, least-connection, in a row of three slots

-- a SYN ends a connection that both have finished, and no other, and opens a new one
abbrev pub renewing_steps : List Step
renewing_steps =
    step (set_up (service_of 6 3 2) (two_servers 1 0 1 0)) done 0 0
    ∷ step (from_client 40000 syn 10) (opened 0) 1 0
    ∷ step (from_client 40001 syn 10) (opened 1) 1 1
    ∷ step (from_client 40001 fin 11) (kept 1) 1 1
    ∷ step (from_client 40001 syn 11) (kept 1) 1 1
    ∷ step (from_server1 40001 fin_ack 12) (kept 1) 1 1
    ∷ step (from_server1 40001 syn 12) (kept 1) 1 1
    ∷ step (from_client 40001 syn_ack 12) (kept 1) 1 1
    ∷ step (from_client 40000 ack 13) (kept 0) 1 1
    -- "The pick sees the count after the old one is taken off" (SCOPE 8.17): 1 and 0
    ∷ step (from_client 40001 syn 13) (opened 1) 1 1
    -- the new one is not thrown out after 120 idle seconds; the other is gone at 913, with slot 0
    ∷ step (from_client 40001 ack 912) (kept 1) 1 1
    ∷ step (from_client 40001 fin 913) (kept 1) 0 1
    ∷ step (from_server1 40001 fin_ack 914) (kept 1) 0 1
    -- server 1 is drained: it reads zero, with no connection on it
    ∷ step (set_weight 1 0) done 0 1
    ∷ step (from_client 40001 syn 915) (opened 0) 1 0
    ∷ []

-- "If all weights are 0 the answer is 14 and the old connection stays as it was" (SCOPE 8.18): it goes 120 s after its own last packet
abbrev pub weightless_steps : List Step
weightless_steps =
    step (from_client 40001 fin 916) (kept 0) 1 0
    ∷ step (from_server0 40001 fin_ack 917) (kept 0) 1 0
    ∷ step (set_weight 0 0) done 1 0
    ∷ step (from_client 40001 syn 918) (refused 14) 1 0
    ∷ step (tick 1036) (number 0) 1 0
    ∷ step (tick 1037) (number 1) 0 0
    ∷ []

abbrev pub renewal_run : List Step
renewal_run = renewing_steps ++ weightless_steps

abbrev pub renewing : List Call
renewing = map (λ (c : Step). c.call) renewing_steps

-- what is left by then: "the old slot counts as free" (SCOPE 8.17), and the lowest is 0; in the book one entry is struck, and one is added
pub record Renewed : Type 0 where
  pub row : (after (unsound 15) renewing).row ≡ words (connection 1 40001 0 915 ∷ free_slot ∷ free_slot ∷ [])
  pub entries : (b : Book) → all_told (book_of b (record_of (unsound 15) renewing)).entries ≡ entry 40001 0 0 915

-- UDP, least-connection, in a row of three slots

-- a datagram with data, which would be FIN and RST in TCP
abbrev pub datagram : (port now : ℕ) → Call
datagram port now =
    packet Way.Inbound
    (bytes (0x45000028 ∷ 0x00004000 ∷ 0x40116EBA ∷ 0x0A000001 ∷ 0xC000020A ∷ ports port 5432 ∷ 0x00140000 ∷ 0x00000000 ∷ 0x50050000 ∷ 0x325F0000 ∷ []))
    now

abbrev pub udp_run : List Step
udp_run =
    step (set_up (service_of 17 3 2) (two_servers 1 0 1 0)) done 0 0
    ∷ step (udp_from_server0 40000 9) (refused 12) 0 0
    ∷ step (udp_from_client 40000 10) (opened 0) 1 0
    ∷ step (udp_from_client 40001 11) (opened 1) 1 1
    -- "ties to the lowest number" (SCOPE 10.8)
    ∷ step (udp_from_client 40002 12) (opened 0) 2 1
    ∷ step (udp_from_client 40003 12) (refused 13) 2 1
    ∷ step (datagram 40000 20) (kept 0) 2 1
    ∷ step (udp_from_server0 40000 30) (kept 0) 2 1
    ∷ step (udp_from_server1 40000 31) (refused 12) 2 1
    -- each goes 300 s after its last packet
    ∷ step (tick 310) (number 0) 2 1
    ∷ step (tick 311) (number 1) 2 0
    ∷ step (udp_from_client 40003 312) (opened 1) 1 1
    ∷ step (udp_from_server0 40000 329) (kept 0) 1 1
    -- server 1 is drained
    ∷ step (set_weight 1 0) done 1 1
    ∷ step (udp_from_client 40003 330) (kept 1) 1 1
    ∷ step (udp_from_client 40004 331) (opened 0) 2 1
    ∷ step (tick 629) (number 1) 1 1
    ∷ step (tick 630) (number 1) 1 0
    ∷ step (count 1) (number 0) 1 0
    ∷ step (tick 700) (number 1) 0 0
    ∷ []

-- Weighted round-robin, in a row of five slots: "a weight set to a different number restarts this walk; an equal one changes nothing" (SCOPE 10.7)

abbrev pub restart_run : List Step
restart_run =
    step (set_up (service_of 6 2 2) (two_servers 2 0 1 0)) done 0 0
    ∷ step (from_client 40000 syn 1) (opened 0) 1 0
    ∷ step (from_client 40001 syn 1) (opened 0) 2 0
    ∷ step (set_weight 0 2) done 2 0
    ∷ step (from_client 40002 syn 1) (opened 1) 2 1
    ∷ step (from_client 40003 syn 1) (opened 0) 3 1
    -- 1 would be next
    ∷ step (set_weight 1 2) done 3 1
    ∷ step (from_client 40004 syn 1) (opened 0) 4 1
    ∷ []

-- Weighted least-connection, weights 1 and 3, in a row of five slots: "ties to the lowest number" (SCOPE 10.9)

abbrev pub weighted_run : List Step
weighted_run =
    step (set_up (service_of 6 4 2) (two_servers 1 0 3 0)) done 0 0
    ∷ step (from_client 40000 syn 1) (opened 0) 1 0
    ∷ step (from_client 40001 syn 1) (opened 1) 1 1
    ∷ step (from_client 40002 syn 1) (opened 1) 1 2
    ∷ step (from_client 40003 syn 1) (opened 1) 1 3
    ∷ step (from_client 40004 syn 1) (opened 0) 2 3
    ∷ []

-- the premise of demand 3 can be met: the setup is accepted and every call fits
pub record Premise : Type 0 where
  pub fits : Fits first
  pub all_fit : AllFit rest
  pub accepted : (called (unsound 10) first).answer ≡ Answer.Done

pub record Runs : Type 0 where
  pub premise : Premise
  pub tcp : Hold (told (unsound 10) tcp_run)
  pub renewal : Hold (told (unsound 15) renewal_run)
  pub renewed : Renewed
  pub udp : Hold (told (unsound 15) udp_run)
  pub restart : Hold (told (unsound 25) restart_run)
  pub weighted : Hold (told (unsound 25) weighted_run)
