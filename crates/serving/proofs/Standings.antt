-- Packets served one after another: one run of packets after another, and a current state stays so. Assumes nothing.
use Rattle.std.proofs.Common.{◌≡◌, ℕ, ◌+◌, ◌≤◌, true, false, List, [], ◌∷◌, ◌++◌, length, refl, arith}
use mathlib.Core.Bool.{false≢true}
use Rattle.checksum.specs.Ones.{Bytes}
use Rattle.director.specs.declared.state.Director.{Director}
use Rattle.director.specs.declared.state.Answer.{Answer}
use Rattle.director.specs.declared.state.Outcome.{Outcome}
use Rattle.director.specs.State.{changes_nothing, is_accepted, left_with, result_of}
use Rattle.director.specs.Tick.{tick_of}
use Rattle.director.specs.Current.{Current}
use Rattle.director.proofs.Keeping.{tick-leaves}
use Rattle.director.proofs.Staying.{packet_stays, ticked_current}
use Rattle.serving.specs.Way.{way_of, taken_of}
use Rattle.serving.specs.Told.{told_by}
use Rattle.serving.specs.Counters.{counted}
use Rattle.serving.specs.Trace.{traced}
use Rattle.serving.specs.Serve.{Standing, standing, once_served, served_by, AllBytes, Served, packets_after, after_tick}

pub append-bytes : (ps qs : List (List ℕ)) → AllBytes ps → AllBytes qs → AllBytes (ps ++ qs)
append-bytes [] qs a b = b
append-bytes (p ∷ ps) qs a b = (a.0, append-bytes ps qs a.1 b)

append-length : (ps qs : List (List ℕ)) → length (ps ++ qs) ≡ length ps + length qs
append-length [] qs = omega arith
append-length (p ∷ ps) qs = omega (arith, append-length ps qs)

pub none_served : (s : Standing) → served_by s [] ≡ s
unfolding served_by
none_served s = refl

pub served_append : (s : Standing) (ps qs : List (List ℕ)) → served_by s (ps ++ qs) ≡ served_by (served_by s ps) qs
unfolding served_by
served_append s [] qs = refl
served_append s (p ∷ ps) qs = served_append (once_served s p) ps qs

pub served_none : (s : Standing) → Served s s 0
unfolding served_by
served_none s = record { packets = []; bytes = tt; number = refl; leads = refl }

pub served_then : (s t u : Standing) (n k m : ℕ) → Served s t n → Served t u k → n + k ≡ m → Served s u m
served_then s t u n k m a b e =
    record {
      packets = a.packets ++ b.packets;
      bytes = append-bytes a.packets b.packets a.bytes b.bytes;
      number = omega (arith, append-length a.packets b.packets, a.number, b.number, e);
      leads = rw (served_append s a.packets b.packets, ← a.leads) b.leads;
    }

-- one packet, from what its call says of it
pub served_once : (d : Director) (row counters records p : List ℕ) (k : ℕ) (before : List ℕ) (a : Answer) (d' : Director) (row' counters' records' p' : List ℕ) → Bytes p
    → left_with a d' row' p' ≡ taken_of d row p
    → counters' ≡ counted counters (way_of d.service.address p) a
    → records' ≡ traced records k (length p) (way_of d.service.address p) (told_by a)
    → Served (standing d row counters records k before) (standing d' row' counters' records' (k + 1) (before ++ p')) 1
unfolding served_by
served_once d row counters records p k before a d' row' counters' records' p' bytes e f g =
    record { packets = p ∷ []; bytes = (bytes, tt); number = refl; leads = rw (← e, f, g) }

-- one packet leaves a current state
pub taken_current : (d : Director) (row p : List ℕ) (a : Answer) (d' : Director) (row' p' : List ℕ) → Bytes p → Current d row → left_with a d' row' p' ≡ taken_of d row p
    → Current d' row'
taken_current d row p a d' row' p' bytes c e = (rw (← e) at (packet_stays d row c (way_of d.service.address p) p bytes)).0

-- and so do many
current_by : (s : Standing) (ps : List (List ℕ)) → AllBytes ps → Current s.director s.row → let t = served_by s ps in Current t.director t.row
unfolding served_by
current_by s [] all c = c
current_by s (p ∷ ps) all c =
    current_by (once_served s p) ps all.1 (packet_stays s.director s.row c (way_of s.director.service.address p) p all.0).0

pub served_current : (s t : Standing) (n : ℕ) → Served s t n → Current s.director s.row → Current t.director t.row
served_current s t n a c = rw a.leads (current_by s a.packets a.bytes c)

-- what an accepted tick leaves is current; and it is what its outcome says
pub tick_current : (d : Director) (row : List ℕ) (clock : ℕ) (o : Outcome) (row' : List ℕ) → result_of o row' [] ≡ tick_of d row clock
    → is_accepted o.answer ≡ true → Current o.director row'
tick_current d row clock o row' e accepted = (rw (← e) at (ticked_current d row clock (rw (← e) accepted))).0

pub tick-standing : (d : Director) (row counters records : List ℕ) (clock : ℕ) (o : Outcome) (row' : List ℕ) → result_of o row' [] ≡ tick_of d row clock
    → (o.answer ≡ (tick_of d row clock).answer) × (standing o.director row' counters records 0 [] ≡ after_tick d row counters records clock)
tick-standing d row counters records clock o row' e = rw (← e) (refl, refl)

-- no packets change nothing
pub served_nothing : (s t : Standing) (n : ℕ) → n ≤ 0 → Served s t n → t ≡ s
unfolding served_by
served_nothing s t n few a = by_packets a.packets a.number a.leads
  where
    by_packets : (ps : List (List ℕ)) → length ps ≡ n → t ≡ served_by s ps → t ≡ s
    by_packets [] e leads = leads
    by_packets (p ∷ ps) e leads = absurd (omega (arith, e, few))

-- an answer that changes nothing is a refusal
pub nothing_accepted : (a : Answer) → changes_nothing a ≡ true → is_accepted a ≡ false
nothing_accepted Answer.Done e = absurd (false≢true e)
nothing_accepted (Answer.Number n) e = absurd (false≢true e)
nothing_accepted (Answer.Passed i change) e = absurd (false≢true e)
nothing_accepted (Answer.Refused why) e = refl

-- serving whose tick changes nothing leaves all as it came
pub served_back : (d : Director) (row counters records : List ℕ) (now most : ℕ) (t : Standing) (n : ℕ) → let a = (tick_of d row now).answer in n ≤ packets_after a most
    → changes_nothing a ≡ true → Served (after_tick d row counters records now) t n → t ≡ standing d row counters records 0 []
served_back d row counters records now most t n few nothing a =
    let (same, lent) = (tick-leaves d row now).back nothing in
    let none = rw (nothing_accepted (tick_of d row now).answer nothing) at few in
    rw (same, lent) at (served_nothing (after_tick d row counters records now) t n none a)
