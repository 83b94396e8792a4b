-- Refusal 15: each clause of soundness (SCOPE 6.1 to 6.7, 6.9) in a sound state and in nearest states that are not. Assumes nothing: these are definitions.
use Rattle.std.specs.Prelude.{ℕ, List, [], ◌∷◌, replicate, set, Some, None}
use Rattle.servers.specs.declared.Server.{Server}
use Rattle.scheduler.specs.declared.walk.Walk.{Walk}
use Rattle.scheduler.specs.ByNumber.{start_of}
use Rattle.table.specs.declared.slot.Slot.{Slot}
use Rattle.table.specs.Slots.{slot_of, free_slot, words}
use Rattle.director.specs.declared.state.Service.{Service}
use Rattle.audit.specs.Calls.{Call, set_up, set_weight, count, tick, State}
use Rattle.audit.specs.Cases.{Case, each, refusal}
use Rattle.audit.specs.Samples.{server_of, service_of, array, two_servers, state_holding, state_of, state_with, connection, ack, from_client, from_server0}
use Rattle.audit.specs.SetupCases.{many_servers}

-- what a count call of server 0 is refused with
abbrev pub state_refusal : State → ℕ
state_refusal s = refusal s (count 0)

-- Settings: a service over servers without connections, over a row of zeros of that many words. Scheduler 3's walk is in its range whatever they are.
abbrev pub settings_refusal : (words : ℕ) → Service → List Server → ℕ
settings_refusal words service servers = state_refusal (state_of service servers (start_of 3 2) 100 (replicate words 0))

abbrev pub service_refusal : (address port protocol scheduler : ℕ) → ℕ
service_refusal address port protocol scheduler =
    settings_refusal 5 (record { address = address; port = port; protocol = protocol; scheduler = scheduler; servers = 2 }) (two_servers 1 0 1 0)

abbrev pub servers_refusal : List Server → ℕ
servers_refusal servers = settings_refusal 5 (service_of 6 3 2) servers

-- "the rules of 1 to 4 hold of the service, the servers and the row" (SCOPE 6.1)
abbrev pub settings_cases : List Case
settings_cases =
    -- rule 1: the row's length, the number of servers
    each (λ words. settings_refusal words (service_of 6 3 2) (two_servers 1 0 1 0))
    ((0, 15) ∷ (4, 15) ∷ (5, 0) ∷ (6, 15) ∷ (9, 15) ∷ (10, 0) ∷ [])
    ∷ each (λ n. settings_refusal 5 (service_of 6 3 n) (many_servers 6432 64)) ((64, 0) ∷ (65, 15) ∷ [])
    ∷ each (λ n. settings_refusal 5 (service_of 6 3 n) (array (many_servers 6432 n))) ((0, 15) ∷ (1, 0) ∷ [])
    -- rule 2
    ∷ each (λ address. service_refusal address 5432 6 3) ((0, 15) ∷ (1, 0) ∷ [])
    ∷ each (λ port. service_refusal 0xC000020A port 6 3) ((0, 15) ∷ (1, 0) ∷ [])
    ∷ each (λ protocol. service_refusal 0xC000020A 5432 protocol 3) ((5, 15) ∷ (6, 0) ∷ (7, 15) ∷ (16, 15) ∷ (17, 0) ∷ (18, 15) ∷ [])
    ∷ each (λ scheduler. service_refusal 0xC000020A 5432 6 scheduler) ((0, 15) ∷ (3, 0) ∷ (4, 0) ∷ (5, 15) ∷ [])
    -- rules 3 and 4, and "unused server places are zeros" (SCOPE 6.2)
    ∷ each (λ v. servers_refusal (set (two_servers 1 0 1 0) 1 v))
    ((server_of 0 6433 1 0, 15)
    ∷ (server_of 0x0A010006 0 1 0, 15)
    ∷ (server_of 0x0A010005 6432 1 0, 15)
    ∷ (server_of 0x0A010005 6433 1 0, 0)
    ∷ (server_of 0x0A010006 6432 1 0, 0)
    ∷ [])
    ∷ each (λ v. servers_refusal (set (two_servers 1 0 1 0) 2 v)) unused_place
    ∷ each (λ v. servers_refusal (set (two_servers 1 0 1 0) 63 v)) unused_place
    ∷ []
  where
    unused_place : List (Server × ℕ)
    unused_place =
        (server_of 0 0 0 0, 0) ∷ (server_of 1 0 0 0, 15) ∷ (server_of 0 1 0 0, 15) ∷ (server_of 0 0 1 0, 15) ∷ (server_of 0 0 0 1, 15) ∷ []

-- Slots, beside the two servers with these counts; the clock is 100
abbrev pub slots_refusal : (protocol count0 count1 : ℕ) → List Slot → ℕ
slots_refusal protocol count0 count1 slots = state_refusal (state_with protocol (two_servers 1 count0 1 count1) slots)

abbrev pub slot_cases : List Case
slot_cases =
    -- "a free slot is all zeros" (SCOPE 6.3)
    each (λ s. slots_refusal 6 0 0 (s ∷ []))
    ((slot_of 0 0 0 0 0, 0) ∷ (slot_of 0 1 0 0 0, 15) ∷ (slot_of 0 0 1 0 0, 15) ∷ (slot_of 0 0 0 1 0, 15) ∷ (slot_of 0 0 0 0 1, 15) ∷ [])
    -- "phase 1 to 4 (UDP: 1), port at most 65,535, an existing server, last-seen not after the clock" (SCOPE 6.4)
    ∷ each (λ phase. slots_refusal 6 1 0 (connection phase 40000 0 100 ∷ [])) ((1, 0) ∷ (2, 0) ∷ (3, 0) ∷ (4, 0) ∷ (5, 15) ∷ [])
    ∷ each (λ phase. slots_refusal 17 1 0 (connection phase 40000 0 100 ∷ [])) ((1, 0) ∷ (2, 15) ∷ (3, 15) ∷ (4, 15) ∷ (5, 15) ∷ [])
    ∷ each (λ port. slots_refusal 6 1 0 (connection 1 port 0 100 ∷ [])) ((0, 0) ∷ (65535, 0) ∷ (65536, 15) ∷ [])
    ∷ each (λ seen. slots_refusal 6 1 0 (connection 1 40000 0 seen ∷ [])) ((0, 0) ∷ (100, 0) ∷ (101, 15) ∷ [])
    ∷ each (λ server. slots_refusal 6 0 1 (connection 1 40000 server 100 ∷ [])) ((0, 15) ∷ (1, 0) ∷ (2, 15) ∷ [])
    -- there is no place 64, so no count is wrong beside it
    ∷ each (λ others. slots_refusal 6 1 0 (connection 1 40000 0 100 ∷ others)) (([], 0) ∷ (connection 1 40001 64 100 ∷ [], 15) ∷ [])
    -- "each count equals the used slots naming that server" (SCOPE 6.5): of server 0, of server 1
    ∷ each (λ count0. slots_refusal 6 count0 1 three) ((1, 15) ∷ (2, 0) ∷ (3, 15) ∷ [])
    ∷ each (λ count1. slots_refusal 6 2 count1 three) ((0, 15) ∷ (1, 0) ∷ (2, 15) ∷ [])
    -- "Two used slots with one client don't break soundness: the lower slot answers." (SCOPE 6.7) It is server 1's.
    ∷ each (refusal (state_with 6 (two_servers 1 1 1 1) (connection 1 40000 1 100 ∷ connection 1 40000 0 100 ∷ [])))
    ((count 0, 0) ∷ (from_server0 40000 ack 100, 12) ∷ (from_client 40000 ack 100, 0) ∷ [])
    ∷ []
  where
    three : List Slot
    three = connection 1 40000 0 100 ∷ connection 2 40001 1 100 ∷ free_slot ∷ connection 4 40002 0 90 ∷ []

-- "the walk's place is in its range" (SCOPE 6.6): weights 3 and 2, and a walk with its level
abbrev pub walk_refusal : (scheduler : ℕ) → Walk → ℕ
walk_refusal scheduler walk = state_refusal (state_of (service_of 6 scheduler 2) (two_servers 3 0 2 0) walk 100 (words (free_slot ∷ [])))

-- place -1, and place i
abbrev pub start : (level : ℕ) → Walk
start level = record { place = None; level = level }

abbrev pub at : (i level : ℕ) → Walk
at i level = record { place = Some (record { 0 = i }); level = level }

abbrev pub walk_cases : List Case
walk_cases =
    -- "range 0..n−1" (SCOPE 10.4), "1 holds cw at 0" (SCOPE 10.11)
    each (walk_refusal 1) ((start 0, 15) ∷ (at 0 0, 0) ∷ (at 1 0, 0) ∷ (at 2 0, 15) ∷ (at 0 1, 15) ∷ [])
    -- "range i −1..n−1, cw 0 to the largest weight, cw 0 only with i = −1" (SCOPE 10.6)
    ∷ each (walk_refusal 2) ((start 0, 0) ∷ (start 3, 0) ∷ (start 4, 15) ∷ [])
    ∷ each (walk_refusal 2) ((at 0 0, 15) ∷ (at 0 1, 0) ∷ (at 0 3, 0) ∷ (at 0 4, 15) ∷ (at 1 0, 15) ∷ (at 1 1, 0) ∷ (at 1 3, 0) ∷ (at 2 1, 15) ∷ [])
    -- "3 and 4 hold both place and cw at 0 always" (SCOPE 10.11)
    ∷ each (walk_refusal 3) ((start 0, 15) ∷ (at 0 0, 0) ∷ (at 1 0, 15) ∷ (at 0 1, 15) ∷ [])
    ∷ each (walk_refusal 4) ((start 0, 15) ∷ (at 0 0, 0) ∷ (at 1 0, 15) ∷ (at 0 1, 15) ∷ [])
    ∷ []

-- "the largest weight and the divisor (2.12) agree with the weights, whatever the scheduler" (SCOPE 6.9): two weights, and what is held of them
abbrev pub held_refusal : (scheduler weight0 weight1 : ℕ) → ℕ × ℕ → ℕ
held_refusal scheduler weight0 weight1 held =
    state_refusal
    (state_holding (record { largest = held.0; divisor = held.1 }) (service_of 6 scheduler 2) (two_servers weight0 0 weight1 0) (start_of scheduler 2) 100
    (words (free_slot ∷ [])))

abbrev pub held_cases : List Case
held_cases =
    each (held_refusal 1 6 4) of_six_and_four
    ∷ each (held_refusal 2 6 4) of_six_and_four
    ∷ each (held_refusal 3 6 4) of_six_and_four
    ∷ each (held_refusal 4 6 4) of_six_and_four
    -- "zeros don't affect it" (SCOPE 10.5); "both are 0 when all weights are 0" (SCOPE 2.12)
    ∷ each (held_refusal 2 0 4) (((4, 4), 0) ∷ ((4, 0), 15) ∷ ((4, 1), 15) ∷ ((0, 4), 15) ∷ [])
    ∷ each (held_refusal 2 0 0) (((0, 0), 0) ∷ ((0, 1), 15) ∷ ((1, 0), 15) ∷ ((1, 1), 15) ∷ [])
    ∷ []
  where
    of_six_and_four : List ((ℕ × ℕ) × ℕ)
    of_six_and_four =
        ((6, 2), 0) ∷ ((5, 2), 15) ∷ ((7, 2), 15) ∷ ((4, 2), 15) ∷ ((6, 1), 15) ∷ ((6, 3), 15) ∷ ((6, 4), 15) ∷ ((6, 6), 15) ∷ ((6, 0), 15) ∷ ((2, 6), 15) ∷ []

-- "all calls but setup" (SCOPE 4.15): a count that is 1, as it should be, and one that is 2
abbrev pub call_cases : List Case
call_cases = each (refusal (counting 1)) (calls 0) ∷ each (refusal (counting 2)) (calls 15) ∷ []
  where
    counting : ℕ → State
    counting count0 = state_with 6 (two_servers 1 count0 1 0) (connection 1 40000 0 100 ∷ [])

    calls : ℕ → List (Call × ℕ)
    calls printed =
        (set_weight 0 1, printed)
        ∷ (count 0, printed)
        ∷ (tick 100, printed)
        ∷ (from_client 40000 ack 100, printed)
        ∷ (from_server0 40000 ack 100, printed)
        ∷ (set_up (service_of 6 1 2) (two_servers 1 0 1 0), 0)
        ∷ []
