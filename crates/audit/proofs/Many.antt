-- A call that takes many packets leaves what the single calls leave that it stands for, so demand 3 holds of runs with such calls. Assumes nothing.
use Prim.Native.Nat.{ℕ, ◌+◌, ◌<◌}
use mathlib.Core.Bool.{Bool, true, false}
use mathlib.Core.List.{List, [], ◌∷◌, ◌++◌}
use mathlib.Core.Logic.{⊎_elim}
use mathlib.Core.Path.{◌≡◌, refl, sym, ap, subst, ◌∙◌}
use native.Mathlib.Omega.{arith}
use lib.Dec.{ltb}
use lib.ListN.{length}
use Rattle.lists.proofs.Cases.{truth, by_test}
use Rattle.lists.proofs.Folds.{fold_none}
use Rattle.checksum.specs.Ones.{Bytes}
use Rattle.table.specs.Slots.{slots}
use Rattle.director.specs.declared.state.Service.{Service}
use Rattle.director.specs.declared.state.Director.{Director}
use Rattle.director.specs.State.{is_accepted, lent}
use Rattle.director.specs.Judge.{sound_of}
use Rattle.director.specs.Tick.{tick_on_clock, tick_of}
use Rattle.director.specs.Current.{Current}
use Rattle.director.proofs.Staying.{packet_stays, ticked_current}
use Rattle.serving.specs.Told.{told_by}
use Rattle.serving.specs.Way.{way_of, taken_of}
use Rattle.serving.specs.Serve.{Standing, once_served, served_by, AllBytes, after_tick}
use Rattle.serving.specs.Burst.{Burst, packets_in, packet_at, packets_below, told_at, bursting, burst_of, burst_call_of}
use Rattle.serving.proofs.Records.{burst-told}
use Rattle.serving.proofs.Standings.{none_served}
use Rattle.serving.proofs.Traces.{serve-told}
use Rattle.serving.proofs.Turns.{burst_served, burst-bytes}
use Rattle.audit.specs.Calls.{Call, set_up, tick, packet, AllFit, State, called, next, after, record_of}
use Rattle.audit.specs.Book.{book_of}
use Rattle.audit.specs.Claim.{Claim}
use Rattle.audit.specs.Many.{Step, one, burst, serve, StepFits, AllStepsFit, packets_taken, left, packet_calls, tick_and_packets, calls_of, left_by, calls_in, Demand3Many, RecordsTell, TracesTell}
use Rattle.audit.proofs.Demand3.{demand3}

-- 1. Packets one after another

-- what passes on from call to call
abbrev passing : Standing → State
passing t = record { director = t.director; row = t.row }

-- a state that packets at a clock find and leave: current, at that clock, of the service with that address
record At (address now : ℕ) (s : State) : Type 0 where
  current : Current s.director s.row
  clock : s.director.clock ≡ now
  virtual : s.director.service.address ≡ address

module _ (address now : ℕ) where
  packet_at_lem : (t : Standing) (p : List ℕ) → Bytes p → At address now (passing t) → At address now (passing (once_served t p))
  packet_at_lem t p bytes a =
      let (current, stays) = packet_stays t.director t.row a.current (way_of t.director.service.address p) p bytes in
      record { current = current; clock = stays.1 ∙ a.clock; virtual = ap (λ (g : Service). g.address) stays.0 ∙ a.virtual }

  served_at : (ps : List (List ℕ)) (t : Standing) → AllBytes ps → At address now (passing t) → At address now (passing (served_by t ps))
  unfolding served_by
  served_at [] t bytes a = a
  served_at (p ∷ ps) t bytes a = served_at ps (once_served t p) bytes.1 (packet_at_lem t p bytes.0 a)

  -- the single call of a packet
  once_called : (t : Standing) (p : List ℕ) → At address now (passing t) → next (passing t) (packet (way_of address p) p now) ≡ passing (once_served t p)
  once_called t p a = rw (← a.clock, ← a.virtual) refl

  once_answered : (t : Standing) (p : List ℕ) → At address now (passing t)
      → (taken_of t.director t.row p).answer ≡ (called (passing t) (packet (way_of address p) p now)).answer
  once_answered t p a = rw (← a.clock, ← a.virtual) refl

  served_called : (ps : List (List ℕ)) (t : Standing) → AllBytes ps → At address now (passing t) → passing (served_by t ps) ≡ after (passing t) (packet_calls address now ps)
  unfolding served_by
  served_called [] t bytes a = refl
  served_called (p ∷ ps) t bytes a =
      served_called ps (once_served t p) bytes.1 (packet_at_lem t p bytes.0 a)
      ∙ ap (λ (s : State). after s (packet_calls address now ps)) (sym (once_called t p a))

-- 2. A call that takes many

tick-service : (d : Director) (row : List ℕ) (now : ℕ) → (tick_of d row now).director.service ≡ d.service
unfolding tick_of
tick-service d row now =
    ⊎_elim
    (λ (e : sound_of d row ≡ true). rw e (by_clock (ltb now d.clock)))
    (λ (e : sound_of d row ≡ false). rw e)
    (truth (sound_of d row))
  where
    by_clock : (early : Bool) → (tick_on_clock d (lent (slots row) []) now early).director.service ≡ d.service
    by_clock true = refl
    by_clock false = refl

module _ (s : State) (now : ℕ) where
  abbrev ticked : Standing
  ticked = after_tick s.director s.row [] [] now

  ticked_at : is_accepted (tick_of s.director s.row now).answer ≡ true → At s.director.service.address now (passing ticked)
  ticked_at accepted =
      let (current, clock) = ticked_current s.director s.row now accepted in
      record { current = current; clock = clock; virtual = ap (λ (g : Service). g.address) (tick-service s.director s.row now) }

  -- packets after a tick
  served_left : (ps : List (List ℕ)) → AllBytes ps → passing (served_by ticked (packets_taken s now ps)) ≡ after s (tick_and_packets s now ps)
  served_left ps bytes =
      ⊎_elim
      (λ (e : is_accepted (tick_of s.director s.row now).answer ≡ true).
      rw e (served_called s.director.service.address now ps ticked bytes (ticked_at e)))
      (λ (e : is_accepted (tick_of s.director s.row now).answer ≡ false). rw (e, none_served ticked) refl)
      (truth (is_accepted (tick_of s.director s.row now).answer))

  -- a burst: its packets, served
  burst-left : (packets records : List ℕ)
      → left s (burst packets records now) ≡ passing (served_by ticked (packets_taken s now (packets_below packets records (packets_in packets records))))
  unfolding burst_call_of
  burst-left packets records =
      let b = bursting ticked.director ticked.row packets records in
      ⊎_elim
      (λ (e : is_accepted (tick_of s.director s.row now).answer ≡ true).
      let (director, row) = burst_served b [] [] (packets_in packets records) (omega arith) in
      rw (e, director, row))
      (λ (e : is_accepted (tick_of s.director s.row now).answer ≡ false). rw (e, fold_none, none_served ticked))
      (truth (is_accepted (tick_of s.director s.row now).answer))

-- what a step leaves is what the calls leave that it stands for
pub left-called : (s : State) (m : Step) → StepFits m → left s m ≡ after s (calls_of s m)
left-called s (one c) fits = refl
left-called s (burst packets records now) fits =
    burst-left s now packets records ∙ served_left s now _ (burst-bytes packets records fits (packets_in packets records))
left-called s (serve packets now) fits = served_left s now packets fits

-- 3. Steps in a row

after-append : (cs ds : List Call) (s : State) → after s (cs ++ ds) ≡ after (after s cs) ds
after-append [] ds s = refl
after-append (c ∷ cs) ds s = after-append cs ds (next s c)

left_by_lem : (ms : List Step) (s : State) → AllStepsFit ms → left_by s ms ≡ after s (calls_in s ms)
left_by_lem [] s fits = refl
left_by_lem (m ∷ ms) s fits =
    left_by_lem ms (left s m) fits.1
    ∙ ap (λ (t : State). after t (calls_in (left s m) ms)) (left-called s m fits.0)
    ∙ sym (after-append (calls_of s m) (calls_in (left s m) ms) s)

fit_append : (cs ds : List Call) → AllFit cs → AllFit ds → AllFit (cs ++ ds)
fit_append [] ds a b = b
fit_append (c ∷ cs) ds a b = (a.0, fit_append cs ds a.1 b)

fit_packets : (address now : ℕ) (ps : List (List ℕ)) → AllBytes ps → AllFit (packet_calls address now ps)
fit_packets address now [] bytes = tt
fit_packets address now (p ∷ ps) bytes = (bytes.0, fit_packets address now ps bytes.1)

fit_taken : (s : State) (now : ℕ) (ps : List (List ℕ)) → AllBytes ps → AllFit (tick_and_packets s now ps)
fit_taken s now ps bytes = (
  tt,
  by_test (λ (qs : List (List ℕ)). AllFit (packet_calls s.director.service.address now qs)) (is_accepted (tick_of s.director s.row now).answer) ps []
      (λ _. fit_packets s.director.service.address now ps bytes) (λ _. tt),
)

fit_called : (s : State) (m : Step) → StepFits m → AllFit (calls_of s m)
fit_called s (one c) fits = (fits, tt)
fit_called s (burst packets records now) fits = fit_taken s now _ (burst-bytes packets records fits (packets_in packets records))
fit_called s (serve packets now) fits = fit_taken s now packets fits

fit_all : (ms : List Step) (s : State) → AllStepsFit ms → AllFit (calls_in s ms)
fit_all [] s fits = tt
fit_all (m ∷ ms) s fits = fit_append (calls_of s m) (calls_in (left s m) ms) (fit_called s m fits.0) (fit_all ms (left s m) fits.1)

pub demand3_many : Demand3Many
demand3_many s b g given ms fits all accepted =
    let first = set_up g given in
    let steps = one first ∷ ms in
    subst (λ (t : State). Claim t (book_of b (record_of s (calls_in s steps)))) (sym (left_by_lem steps s (fits, all)))
    (demand3 s b g given (calls_in (next s first) ms) fits (fit_all ms (next s first) all) accepted)

-- 4. The records of a burst

module _ (s : State) (packets records : List ℕ) (now : ℕ) (bytes : Bytes packets) (accepted : is_accepted (tick_of s.director s.row now).answer ≡ true) where
  abbrev address : ℕ
  address = s.director.service.address

  abbrev start : Burst
  start = bursting (ticked s now).director (ticked s now).row packets records

  -- the state that packet k meets
  abbrev met_by : ℕ → Standing
  met_by k = served_by (ticked s now) (packets_below packets records k)

  -- it is what the burst has then
  answer_met : (k : ℕ) → k < packets_in packets records → let p = packet_at packets records k in
      (taken_of (burst_of start k).director (burst_of start k).row p).answer ≡ (taken_of (met_by k).director (met_by k).row p).answer
  answer_met k h = let (director, row) = burst_served start [] [] k (omega (arith, h)) in rw (director, row)

  -- and the single calls too
  answer_called : (k : ℕ) → let p = packet_at packets records k in
      (taken_of (met_by k).director (met_by k).row p).answer
      ≡ (called (after s (tick now ∷ packet_calls address now (packets_below packets records k))) (packet (way_of address p) p now)).answer
  answer_called k =
      let a = served_at address now (packets_below packets records k) (ticked s now) (burst-bytes packets records bytes k) (ticked_at s now accepted) in
      let p = packet_at packets records k in
      subst (λ (t : State). (taken_of (met_by k).director (met_by k).row p).answer ≡ (called t (packet (way_of address p) p now)).answer)
      (served_called address now (packets_below packets records k) (ticked s now) (burst-bytes packets records bytes k) (ticked_at s now accepted))
      (once_answered address now (met_by k) p a)

  tells : (k : ℕ) → k < packets_in packets records → let p = packet_at packets records k in
      told_at (burst_call_of s.director s.row packets records now).left.records k
      ≡ told_by (called (after s (tick now ∷ packet_calls address now (packets_below packets records k))) (packet (way_of address p) p now)).answer
  unfolding burst_call_of
  tells k h =
      rw accepted (burst-told start k (packets_in packets records) h (omega arith) ∙ ap told_by (answer_met k h ∙ answer_called k))

pub records_tell : RecordsTell
records_tell s packets records now k bytes accepted h = tells s packets records now bytes accepted k h

-- 5. The records of a serve

none_before : (n : ℕ) → 0 + n ≡ n
none_before n = omega arith

pub traces_tell : TracesTell
traces_tell s counters records now ps p qs bytes accepted h =
    let address = s.director.service.address in
    let start = after_tick s.director s.row counters records now in
    let met = served_by start ps in
    let a = served_at address now ps start bytes (ticked_at s now accepted) in
    let answered : (taken_of met.director met.row p).answer ≡ (called (after s (tick now ∷ packet_calls address now ps)) (packet (way_of address p) p now)).answer =
    subst (λ (t : State). (taken_of met.director met.row p).answer ≡ (called t (packet (way_of address p) p now)).answer)
    (served_called address now ps start bytes (ticked_at s now accepted)) (once_answered address now met p a) in
    rw (none_before (length ps), answered, a.virtual) at (serve-told start ps p qs (rw (none_before (length ps)) h))
