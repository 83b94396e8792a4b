-- What the book notes of calls and answers, with the entries written out: also of answers that no right director gives, which it must not hide.
-- proofs/BookCases.antt proves it (`notes`). Assumes nothing: these are definitions.
use Rattle.std.specs.Prelude.{ℕ, ◌+◌, cond, List, [], ◌∷◌, ◌++◌}
use Rattle.director.specs.declared.state.Change.{Change}
use Rattle.director.specs.declared.state.Answer.{Answer}
use Rattle.director.specs.declared.state.Refusal.{Refusal}
use Rattle.audit.specs.Calls.{Call, set_up, Line}
use Rattle.audit.specs.Book.{Entry, Book, book_of}
use Rattle.audit.specs.Cases.{Case, Hold}
use Rattle.audit.specs.Samples.{service_of, two_servers, fin, syn, fin_ack, syn_ack, from_client, from_server0}

-- Records

abbrev pub line : Call → Answer → Line
line call answer = record { call = call; answer = answer }

abbrev pub passed : ℕ → Change → Answer
passed server change = Answer.Passed (record { 0 = server }) change

-- an accepted setup, and a connection of client 40000 with server 0, opened at 10
abbrev pub begun : List Line
begun = line (set_up (service_of 6 1 2) (two_servers 1 0 1 0)) Answer.Done ∷ line (from_client 40000 syn 10) (passed 0 Change.Opened) ∷ []

-- its client finishes it at 11, its server at 12
abbrev pub client_finishes : List Line
client_finishes = line (from_client 40000 fin 11) (passed 0 Change.Kept) ∷ []

abbrev pub server_finishes : List Line
server_finishes = line (from_server0 40000 fin_ack 12) (passed 0 Change.Kept) ∷ []

abbrev pub both_finish : List Line
both_finish = client_finishes ++ server_finishes

-- Entries in numbers

-- an entry's port, server, who has finished (0 none, 1 the client, 2 the server, 3 both) and last second
abbrev pub entry : (port server finished last : ℕ) → List ℕ
entry port server finished last = port ∷ server ∷ finished ∷ last ∷ []

abbrev pub told : Entry → List ℕ
told e = entry e.port e.server (cond e.client_done 1 0 + cond e.server_done 2 0) e.last

abbrev pub all_told : List Entry → List ℕ
all_told [] = []
all_told (e ∷ es) = told e ++ all_told es

-- the book's clock and entries once a line comes after these, beside what is printed
abbrev pub noted : Book → List Line → Line → (clock : ℕ) → List ℕ → Case
noted b lines last clock entries =
    let r = book_of b (begun ++ lines ++ (last ∷ [])) in record { given = r.clock ∷ all_told r.entries; printed = clock ∷ entries }

-- Ports that come back, whatever the book was before

-- a SYN of the client at 13, answered "opened", server 1: the entry is struck "if both have finished" (SCOPE 9.21), and else there are two
abbrev pub opened_cases : Book → List Case
opened_cases b =
    let again = line (from_client 40000 syn 13) (passed 1 Change.Opened) in
    noted b [] again 13 (entry 40000 1 0 13 ++ entry 40000 0 0 10)
    ∷ noted b client_finishes again 13 (entry 40000 1 0 13 ++ entry 40000 0 1 11)
    ∷ noted b server_finishes again 13 (entry 40000 1 0 13 ++ entry 40000 0 2 12)
    ∷ noted b both_finish again 13 (entry 40000 1 0 13)
    ∷ []

-- "for such a packet answered "opened", and no other" (SCOPE 9.21): a SYN with ACK; another client's; such a packet answered "kept", 14, 10
abbrev pub other_cases : Book → List Case
other_cases b =
    let again = from_client 40000 syn 13 in
    noted b both_finish (line (from_client 40000 syn_ack 13) (passed 1 Change.Opened)) 13 (entry 40000 1 0 13 ++ entry 40000 0 3 12)
    ∷ noted b both_finish (line (from_client 40001 syn 13) (passed 1 Change.Opened)) 13 (entry 40001 1 0 13 ++ entry 40000 0 3 12)
    ∷ noted b both_finish (line again (passed 0 Change.Kept)) 13 (entry 40000 0 3 13)
    ∷ noted b both_finish (line again (Answer.Refused Refusal.NoWeight)) 13 (entry 40000 0 3 12)
    ∷ noted b both_finish (line again (Answer.Refused Refusal.OtherEndpoint)) 12 (entry 40000 0 3 12)
    ∷ []

pub record Notes (b : Book) : Type 0 where
  pub opened : Hold (opened_cases b)
  pub others : Hold (other_cases b)
