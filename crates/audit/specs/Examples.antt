-- The examples P1 to P11 (SCOPE section 11) as one table: what the written rules give, beside what SCOPE prints. Assumes nothing: these are definitions.
use Rattle.std.specs.Prelude.{ℕ, zero, suc, List, [], ◌∷◌, ◌++◌, length, replicate, Some, None, Option}
use Rattle.checksum.specs.Ones.{edited}
use Rattle.packet.specs.Redirect.{sum_written}
use Rattle.servers.specs.declared.Server.{Server}
use Rattle.servers.specs.declared.ServerNo.{ServerNo}
use Rattle.scheduler.specs.declared.walk.Walk.{Walk}
use Rattle.scheduler.specs.Weights.{weights_of}
use Rattle.scheduler.specs.ByNumber.{start_of, pick_of}
use Rattle.director.specs.declared.state.Director.{Director}
use Rattle.director.specs.declared.state.Way.{Way}
use Rattle.director.specs.State.{Result}
use Rattle.audit.specs.Calls.{set_weight, tick, packet, State, called, after}
use Rattle.audit.specs.Cases.{Case, Hold, answered, number, opened, refused}
use Rattle.audit.specs.Samples.{server_of, service_of, two_servers, state_of, one_connection, bytes, syn, from_client}

-- Picks

-- a server of a weight and a count, at a port of its own
abbrev pub server : (port weight count : ℕ) → Server
server port weight count = server_of 0x0A010005 port weight count

-- the servers picked by m openings in a row, from a walk on
unfoldable pub picks : ℕ → List Server → ℕ → Walk → List ℕ
picks k s zero w = []
picks k s (suc m) w = let p = pick_of k s (length s) (weights_of s (length s)) w in p.server.0 ∷ picks k s m p.walk

-- the same from the walk's start
abbrev pub picks_of : ℕ → List Server → ℕ → List ℕ
picks_of k s m = picks k s m (start_of k (length s))

-- Calls

-- a walk in numbers: 0 for the place -1, else one more than the place; and the level
abbrev pub placed : Option ServerNo → ℕ
placed None = 0
placed (Some i) = suc i.0

abbrev pub walked : Walk → List ℕ
walked w = placed w.place ∷ w.level ∷ []

-- servers in numbers
abbrev pub listed : List Server → List ℕ
listed [] = []
listed (v ∷ servers) = v.address ∷ v.port ∷ v.weight ∷ v.count ∷ listed servers

-- a state in numbers: the service, the servers, what it holds of their weights, the walk, the clock
abbrev pub stated : Director → List ℕ
stated d =
    let g = d.service in
    let held = d.weights in
    (g.address ∷ g.port ∷ g.protocol ∷ g.scheduler ∷ g.servers ∷ [])
    ++ listed d.servers
    ++ (held.largest ∷ held.divisor ∷ [])
    ++ walked d.walk
    ++ (d.clock ∷ [])

-- all that a call settles, in numbers: its answer, the state, the row, the packet
abbrev pub settled : Result → List ℕ
settled r = answered r.answer ++ stated r.director ++ r.lent.table ++ r.lent.packet

-- P11's packet, as it comes and as it leaves: 10.0.0.1:40000 to 192.0.2.10:5432, sent on to 10.1.0.5:6432
abbrev pub p11_in : List ℕ
p11_in =
    bytes (0x45000028 ∷ 0x00004000 ∷ 0x40066EC5 ∷ 0x0A000001 ∷ 0xC000020A ∷ 0x9C401538 ∷ 0x00000000 ∷ 0x00000000 ∷ 0x50020000 ∷ 0x325F0000 ∷ [])

abbrev pub p11_out : List ℕ
p11_out =
    bytes (0x45000028 ∷ 0x00004000 ∷ 0x400626CA ∷ 0x0A000001 ∷ 0x0A010005 ∷ 0x9C401920 ∷ 0x00000000 ∷ 0x00000000 ∷ 0x50020000 ∷ 0xE67B0000 ∷ [])

-- two servers of weight 1 under a scheduler, over two free slots
abbrev pub begun : ℕ → State
begun scheduler = state_of (service_of 6 scheduler 2) (two_servers 1 0 1 0) (start_of scheduler 2) 0 (replicate 10 0)

-- the answer of a tick over one connection, of server 0, that was last seen at 100
abbrev pub tick_over : (protocol phase now : ℕ) → List ℕ
tick_over protocol phase now = answered (called (one_connection protocol phase []) (tick now)).answer

-- The table

abbrev pub table : List Case
table =
    -- P1 weights 4,3,2, scheduler 2, twice round
    record { given = picks_of 2 (server 1 4 0 ∷ server 2 3 0 ∷ server 3 2 0 ∷ []) 18; printed = round ++ round }
    -- P2 weights 2,4, scheduler 2
    ∷ record { given = picks_of 2 (server 1 2 0 ∷ server 2 4 0 ∷ []) 3; printed = 1 ∷ 0 ∷ 1 ∷ [] }
    -- P3 weights 1,0,1, scheduler 1
    ∷ record { given = picks_of 1 (server 1 1 0 ∷ server 2 0 0 ∷ server 3 1 0 ∷ []) 4; printed = 0 ∷ 2 ∷ 0 ∷ 2 ∷ [] }
    -- P4 weights 1,0,1, counts 3,0,1, scheduler 3
    ∷ record { given = picks_of 3 (server 1 1 3 ∷ server 2 0 0 ∷ server 3 1 1 ∷ []) 1; printed = 2 ∷ [] }
    -- P5 weights 4,1,2, counts 2,1,1, scheduler 4
    ∷ record { given = picks_of 4 (server 1 4 2 ∷ server 2 1 1 ∷ server 3 2 1 ∷ []) 1; printed = 0 ∷ [] }
    -- P6 weights 1,3, counts 1,2, scheduler 4
    ∷ record { given = picks_of 4 (server 1 1 1 ∷ server 2 3 2 ∷ []) 1; printed = 1 ∷ [] }
    -- P7 weights 0,0: 14, walk unmoved, here after an opening. Scheduler 1's last pick is then 0, and was 1 at the start; scheduler 2's walk is at its
    -- start again, since with weights 0,0 nothing else is in its range; the others' is held
    ∷ no_weight 1 (1 ∷ 0 ∷ [])
    ∷ no_weight 2 (0 ∷ 0 ∷ [])
    ∷ no_weight 3 (1 ∷ 0 ∷ [])
    ∷ no_weight 4 (1 ∷ 0 ∷ [])
    -- P8 checksum DD2F, word 5555 becoming 3285: 0000 (in UDP written FFFF)
    ∷ record {
      given = edited 0xDD2F 0x5555 0x3285 ∷ sum_written 17 0xDD2F (edited 0xDD2F 0x5555 0x3285) ∷ [];
      printed = 0x0000 ∷ 0xFFFF ∷ [];
    }
    -- P9 UDP last seen at 100: present at 399, gone at 400, by the number that a tick removes
    ∷ record { given = tick_over 17 1 399 ++ tick_over 17 1 400; printed = number 0 ++ number 1 }
    -- P10 TCP phase 4 last seen at 100: present at 219, gone at 220
    ∷ record { given = tick_over 6 4 219 ++ tick_over 6 4 220; printed = number 0 ++ number 1 }
    -- P11 a whole packet, through inbound, at the clock 100: opened at server 0, which has a connection more; round-robin's last pick is 0; the clock is
    -- stored; the first slot has the connection
    ∷ record {
      given = settled (called (begun 1) (packet Way.Inbound p11_in 100));
      -- the answer, the service, two servers and 62 unused places, the largest weight and the divisor, the walk, the clock, two slots, the packet
      printed =
          opened 0
          ++ (0xC000020A ∷ 5432 ∷ 6 ∷ 1 ∷ 2 ∷ [])
          ++ (0x0A010005 ∷ 6432 ∷ 1 ∷ 1 ∷ [])
          ++ (0x0A010006 ∷ 6433 ∷ 1 ∷ 0 ∷ [])
          ++ replicate 248 0
          ++ (1 ∷ 1 ∷ [])
          ++ (1 ∷ 0 ∷ [])
          ++ (100 ∷ [])
          ++ (1 ∷ 0x0A000001 ∷ 40000 ∷ 0 ∷ 100 ∷ [])
          ++ replicate 5 0
          ++ p11_out;
    }
    ∷ []
  where
    round : List ℕ
    round = 0 ∷ 0 ∷ 1 ∷ 0 ∷ 1 ∷ 2 ∷ 0 ∷ 1 ∷ 2 ∷ []

    -- a first client opens, both weights are set to 0, a second client is refused
    no_weight : ℕ → List ℕ → Case
    no_weight k walk =
        let s = after (begun k) (from_client 40000 syn 1 ∷ set_weight 0 0 ∷ set_weight 1 0 ∷ []) in
        let r = called s (from_client 40001 syn 1) in
        record {
          given = walked s.director.walk ++ answered r.answer ++ walked r.director.walk;
          printed = walk ++ refused 14 ++ walk;
        }

-- what the rules give is what SCOPE prints, in every case (SCOPE 13.7)
abbrev pub Examples : Type 0
Examples = Hold table
