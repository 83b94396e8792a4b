-- Refusals 1 to 4, of setup, in calls that are one number apart (SCOPE 4.1 to 4.4). Assumes nothing: these are definitions.
use Rattle.std.specs.Prelude.{ℕ, zero, suc, ◌+◌, List, [], ◌∷◌}
use Rattle.servers.specs.declared.Server.{Server}
use Rattle.director.specs.declared.state.Service.{Service}
use Rattle.audit.specs.Calls.{set_up}
use Rattle.audit.specs.Cases.{Case, each, refusal}
use Rattle.audit.specs.Samples.{server_of, service_of, array, two_servers, unsound}

-- setup over a row of that many words, in a state that is not sound: it "doesn't judge it" (SCOPE 3.2)
abbrev pub setup_refusal : (words : ℕ) → Service → List Server → ℕ
setup_refusal words service given = refusal (unsound words) (set_up service given)

-- of a service over the two servers
abbrev pub service_refusal : (address port protocol scheduler : ℕ) → ℕ
service_refusal address port protocol scheduler =
    setup_refusal 10 (record { address = address; port = port; protocol = protocol; scheduler = scheduler; servers = 2 }) (two_servers 1 0 1 0)

-- of n servers, of which some are given
abbrev pub servers_refusal : (n : ℕ) → List Server → ℕ
servers_refusal n given = setup_refusal 10 (service_of 6 1 n) (array given)

-- servers at one address, at ports of their own
abbrev pub many_servers : (port n : ℕ) → List Server
many_servers port zero = []
many_servers port (suc n) = server_of 0x0A010005 port 1 0 ∷ many_servers (port + 1) n

abbrev pub setup_cases : List Case
setup_cases =
    -- "servers not 1..64" (SCOPE 4.1)
    each (λ n. servers_refusal n (many_servers 6432 64)) ((0, 1) ∷ (1, 0) ∷ (64, 0) ∷ (65, 1) ∷ [])
    -- "5 to 20,480 words, a multiple of five" (SCOPE 2.6); the last two are SCOPE E4
    ∷ each (λ words. setup_refusal words (service_of 6 1 2) (two_servers 1 0 1 0))
    ((0, 1) ∷ (4, 1) ∷ (5, 0) ∷ (6, 1) ∷ (9, 1) ∷ (10, 0) ∷ (11, 1) ∷ (20479, 1) ∷ (20480, 0) ∷ (20485, 1) ∷ [])
    -- "virtual address 0 or port 0, protocol not 6 or 17, scheduler not 1..4" (SCOPE 4.2)
    ∷ each (λ address. service_refusal address 5432 6 1) ((0, 2) ∷ (1, 0) ∷ [])
    ∷ each (λ port. service_refusal 0xC000020A port 6 1) ((0, 2) ∷ (1, 0) ∷ [])
    ∷ each (λ protocol. service_refusal 0xC000020A 5432 protocol 1)
    ((0, 2) ∷ (1, 2) ∷ (5, 2) ∷ (6, 0) ∷ (7, 2) ∷ (16, 2) ∷ (17, 0) ∷ (18, 2) ∷ [])
    ∷ each (λ scheduler. service_refusal 0xC000020A 5432 6 scheduler) ((0, 2) ∷ (1, 0) ∷ (2, 0) ∷ (3, 0) ∷ (4, 0) ∷ (5, 2) ∷ [])
    -- "some server address 0 or port 0" (SCOPE 4.3): the first, the last, and a place past the last
    ∷ each (λ v. servers_refusal 2 (v ∷ server_of 0x0A010006 6433 1 0 ∷ [])) unset
    ∷ each (λ v. servers_refusal 2 (server_of 0x0A010006 6433 1 0 ∷ v ∷ [])) unset
    ∷ each (λ n. servers_refusal n (server_of 0x0A010005 6432 1 0 ∷ [])) ((1, 0) ∷ (2, 3) ∷ [])
    -- "two servers with equal address and port" (SCOPE 4.4): the third as the first, as the second, as neither, and past the last
    ∷ each (λ v. servers_refusal 3 (first ∷ second ∷ v ∷ []))
    ((server_of 0x0A010005 6432 2 0, 4)
    ∷ (server_of 0x0A010005 6433 2 0, 0)
    ∷ (server_of 0x0A010006 6432 2 0, 0)
    ∷ (server_of 0x0A010006 6433 2 0, 4)
    ∷ [])
    ∷ each (λ n. servers_refusal n (first ∷ second ∷ first ∷ [])) ((2, 0) ∷ (3, 4) ∷ [])
    ∷ []
  where
    first : Server
    first = server_of 0x0A010005 6432 1 0

    second : Server
    second = server_of 0x0A010006 6433 1 0

    unset : List (Server × ℕ)
    unset =
        (server_of 0 6432 1 0, 3)
        ∷ (server_of 1 6432 1 0, 0)
        ∷ (server_of 0x0A010005 0 1 0, 3)
        ∷ (server_of 0x0A010005 1 1 0, 0)
        ∷ []
