-- The three demands as a program in C or Rust sees them: demands 1 and 2 of each call of the exported functions, demand 3 of every list of
-- calls that begins with an accepted setup. Assumes nothing: these are definitions.
use Rattle.std.specs.Prelude.{ℕ, ◌<◌, ◌≤◌, false, List, ◌∷◌, ◌≡◌, eqb}
use Rattle.lists.specs.Tests.{count_of}
use Rattle.checksum.specs.Ones.{Bytes}
use Rattle.servers.specs.declared.Server.{Server}
use Rattle.servers.specs.Servers.{count_at}
use Rattle.director.specs.declared.state.Service.{Service}
use Rattle.director.specs.declared.state.Way.{Way}
use Rattle.audit.specs.Calls.{Call, set_up, packet, EndsFit, Fits, AllFit}
use Rattle.audit.specs.Book.{Book, of_client, names, book_of}
use Rattle.audit.specs.Claim.{CallClaim}
use Rattle.audit.specs.Demand1.{RefusalClaim}
use Rattle.audit.specs.Demand2.{PacketCallClaim}
use Rattle.callers.specs.Calls.{Handed, decoded_state, reply_to, after_calls, seen, seen_record}

-- Demand 1, of a call: which `refusal` it gives, exactly, and what a refused call leaves
pub record Refusals (h : Handed) (c : Call) : Type 0 where
  pub claim : RefusalClaim (decoded_state h) c (seen h c)
  -- "Numbers 1 to 11, 15 and 20 change nothing, the clock included." (SCOPE 5.3): the struct comes back as it was, in every field
  pub to11 : (n : ℕ) → 1 ≤ n → n ≤ 11 → (reply_to h c).reply.refusal ≡ n → (reply_to h c).reply.state ≡ h.state
  pub at15 : (reply_to h c).reply.refusal ≡ 15 → (reply_to h c).reply.state ≡ h.state
  pub at20 : (reply_to h c).reply.refusal ≡ 20 → (reply_to h c).reply.state ≡ h.state

abbrev pub Demand1 : Type 0
Demand1 = (h : Handed) (c : Call) → Fits c → Refusals h c

-- Demand 2, of a packet call: who is picked, and what the packet is when it leaves
abbrev pub Demand2 : Type 0
Demand2 =
    (h : Handed) (way : Way) (p : List ℕ) (now : ℕ) → EndsFit h.state.service h.state.servers → Bytes p
    → PacketCallClaim way (decoded_state h).director h.row now (λ x. seen h (packet way x now)) p

-- Demand 3: what holds after every call of a list, of what the program has in its hands and of the book of what it saw; and of whatever call comes next
pub record Claim (h : Handed) (b : Book) : Type 0 where
  -- "a server's count is the number of entries naming it" (SCOPE 9.10): the `count` of each server in the struct
  pub counts : (k : ℕ) → k < b.service.servers → count_at h.state.servers k ≡ count_of (names k) b.entries
  -- "no client has two entries" (SCOPE 9.11)
  pub once : (address port : ℕ) → count_of (of_client address port) b.entries ≤ 1
  -- "No state that an accepted setup and the calls after it have made ever receives 15." (SCOPE 6.8)
  pub never15 : (c : Call) → eqb (reply_to h c).reply.refusal 15 ≡ false
  -- what is claimed of each kind of call, of the numbers, the struct, the row and the packet that it gives back
  pub calls : (c : Call) → Fits c → CallClaim (decoded_state h) b c (seen h c)

-- whatever struct and row the accepted setup was handed, after it and any calls, refused ones and further setups included
abbrev pub Demand3 : Type 0
Demand3 =
    (h : Handed) (b : Book) (g : Service) (given : List Server) (cs : List Call)
    → Fits (set_up g given) → AllFit cs → (reply_to h (set_up g given)).reply.refusal ≡ 0
    → Claim (after_calls h (set_up g given ∷ cs)) (book_of b (seen_record h (set_up g given ∷ cs)))
