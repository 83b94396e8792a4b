-- Every call of a sound state that agrees with its book: the state and the book agree afterwards, the answer is not 15, and what is claimed of
-- the call holds. Assumes nothing.
use Rattle.std.specs.Prelude.{Ok, Err}
use Prim.Native.Nat.{ℕ, ◌<◌}
use mathlib.Core.Bool.{Bool, true, false, true≢false}
use mathlib.Core.List.{List, []}
use mathlib.Core.Path.{◌≡◌, refl, sym, ◌∙◌}
use native.Mathlib.Omega.{arith}
use borrow.Author.Tests.{ltb-true, ltb-false}
use lib.Dec.{ltb}
use lib.ListN.{length}
use Rattle.lists.specs.Tests.{count_of}
use Rattle.lists.proofs.Cases.{by_test}
use Rattle.lists.proofs.Counting.{count_same}
use Rattle.checksum.specs.Ones.{Bytes}
use Rattle.servers.specs.declared.Server.{Server}
use Rattle.servers.specs.Servers.{count_at}
use Rattle.table.specs.declared.slot.Slot.{Slot}
use Rattle.table.specs.Slots.{slots, words}
use Rattle.table.proofs.Rows.{slots-words}
use Rattle.table.proofs.Soundness.{count-naming, later_sound}
use Rattle.table.proofs.Tables.{sound_table}
use Rattle.table.proofs.Totals.{removed_total}
use Rattle.director.specs.declared.state.Service.{Service}
use Rattle.director.specs.declared.state.Director.{Director}
use Rattle.director.specs.declared.state.Refusal.{Refusal}
use Rattle.director.specs.declared.state.Answer.{Answer}
use Rattle.director.specs.Judge.{Judged, settings_judged, sound_of}
use Rattle.director.specs.declared.state.Way.{Way}
use Rattle.director.specs.declared.segment.Segment.{Segment}
use Rattle.director.specs.Segment.{Read, segment_read}
use Rattle.director.specs.State.{lent, Result, Held, in_words}
use Rattle.director.specs.Setup.{on_verdict, setup_of}
use Rattle.director.specs.Control.{number_judged, on_weight, weight_of, on_count, count_call_of}
use Rattle.director.specs.Tick.{idle_now, settled, settled_slots, tick_on_clock, tick_of}
use Rattle.director.specs.Packets.{on_clock, on_seen, packet_held, packet_of}
use Rattle.director.proofs.Sound.{judged, sound_parts}
use Rattle.director.proofs.Refusals.{EarlyVerdict, EarlySeen, settings_early, read_early}
use Rattle.director.proofs.Settled.{settled_sound}
use Rattle.servers.proofs.Endpoints.{places}
use Rattle.audit.specs.Calls.{Call, set_up, set_weight, count, tick, packet, Fits, State, called}
use Rattle.audit.specs.Book.{Entry, Book, names, is_struck, struck, timed, note_seen, note}
use Rattle.audit.specs.Claim.{refused, PacketClaim, CallClaim}
use Rattle.audit.proofs.Numbers.{numbers_agree}
use Rattle.audit.proofs.Slots.{holds, idle_struck}
use Rattle.audit.proofs.Passage.{read_same}
use Rattle.audit.proofs.Agreement.{Matches, book_at, Agree, agreed, matches_new, matches_weighed, matches_settled}
use Rattle.audit.proofs.Routing.{routed_right}

-- 1. An answer that is a number

one_number : (x y : ℕ) → Answer.Number x ≡ Answer.Number y → x ≡ y
one_number x y e = cc

not-number : (why : Refusal) (x : ℕ) → Answer.Refused why ≡ Answer.Number x → ⊥
not-number why x e = let z : ◌≡◌ {A = ℕ} 0 1 = cc in omega arith

-- 2. The calls

module _ (s : State) (given : List Server) (es : List Entry) (sound : sound_of s.director s.row ≡ true) (t : Matches s.director (slots s.row) given es) where
  abbrev d : Director
  d = s.director

  abbrev row : List ℕ
  row = s.row

  abbrev l : List Slot
  l = slots row

  abbrev b : Book
  b = book_at d given es

  -- what is shown of a call
  pub record Right (c : Call) (r : Result) : Type 0 where
    pub agree : Fits c → Agree r.director (slots r.lent.table) (note b c r.answer)
    pub not15 : refused 15 r.answer ≡ false
    pub claim : Fits c → CallClaim s b c r

  -- nothing changes
  unchanged : Agree d l b
  unchanged = agreed d l given es t

  -- "a server's count is the number of entries naming it" (SCOPE 9.10)
  pub counts : (k : ℕ) → k < d.service.servers → count_at d.servers k ≡ count_of (names k) es
  counts k h =
      let parts = sound_parts d row sound in
      let inside = (sound_table d.service.protocol d.service.servers d.clock row d.servers parts.table).1 in
      let exists : k < length d.servers = omega (arith, places d.servers d.service.servers parts.settings.set) in
      count-naming d.service.protocol d.service.servers d.clock l d.servers inside k exists ∙ t.same (names k)

  on_setup : (g : Service) (new : List Server) (v : Judged) → settings_judged g new row ≡ v → EarlyVerdict v → Right (set_up g new) (on_verdict d g new row v)
  on_setup g new (Err why) e early = record { agree = λ _. unchanged; not15 = early.not15; claim = λ _. tt }
  on_setup g new (Ok done) e early =
      record { agree = λ fits. agreed _ _ _ _ (matches_new g new row (judged g new row e) fits); not15 = refl; claim = λ _. tt }

  on_weight_lem : (k w : ℕ) → Right (set_weight k w) (weight_of d row k w)
  unfolding weight_of number_judged
  on_weight_lem k w =
      rw sound
      (by_test (λ (v : Judged). Right (set_weight k w) (on_weight d row k w v)) (ltb k d.service.servers) _ _
      (λ _. record { agree = λ _. agreed _ _ _ _ (matches_weighed d l given es t k w); not15 = refl; claim = λ _. tt })
      (λ _. record { agree = λ _. unchanged; not15 = refl; claim = λ _. tt }))

  on_count_lem : (k : ℕ) → Right (count k) (count_call_of d row k)
  unfolding count_call_of number_judged
  on_count_lem k =
      rw sound
      (by_test (λ (v : Judged). Right (count k) (on_count d row k v)) (ltb k d.service.servers) _ _
      (λ e. record { agree = λ _. unchanged; not15 = refl; claim = λ _. counts k (ltb-true k d.service.servers e) })
      (λ _. record { agree = λ _. unchanged; not15 = refl; claim = λ _. tt }))

  on_tick : (now : ℕ) → Right (tick now) (tick_of d row now)
  unfolding tick_of
  on_tick now = rw sound (on_clock_lem _ refl)
    where
      on_clock_lem : (earlier : Bool) → ltb now d.clock ≡ earlier → Right (tick now) (in_words (tick_on_clock d (lent l []) now earlier))
      on_clock_lem true e = record {
        agree = λ _. rw slots-words unchanged;
        not15 = refl;
        claim = λ _. record { earlier = sym e; number = tt; fall = λ n q. absurd (not-number Refusal.EarlierClock n q) };
      }
      on_clock_lem false e =
          let protocol = d.service.protocol in
          let n = d.service.servers in
          let parts = sound_parts d row sound in
          let inside = (sound_table protocol n d.clock row d.servers parts.table).1 in
          let later = later_sound protocol n d.clock l d.servers inside now (ltb-false now d.clock e) in
          let fall = removed_total protocol n now l d.servers (places d.servers n parts.settings.set) later in
          record {
            agree = λ _. rw slots-words (agreed _ _ _ _ (matches_settled d l given es t now));
            not15 = refl;
            claim = λ _. record {
              earlier = sym e;
              number = count_same (idle_now d now) (holds (is_struck protocol now)) l (idle_struck protocol now) ∙ t.same (is_struck protocol now);
              fall = λ m q. rw (← one_number _ m q) fall;
            };
          }

  -- what is shown of a packet call, by what the packet says
  record PacketRight (way : Way) (p : List ℕ) (now : ℕ) (y : Read) (h : Held) : Type 0 where
    agree : Agree h.director h.lent.table (note_seen (timed b now h.answer) h.answer y)
    not15 : refused 15 h.answer ≡ false
    claim : Bytes p → PacketClaim way b p now (in_words h) y

  on_clock_lem : (way : Way) (p : List ℕ) (now : ℕ) (m : Segment) → segment_read way d.service given p ≡ Ok m
      → (earlier : Bool) → ltb now d.clock ≡ earlier → PacketRight way p now (Ok m) (on_clock d (lent l p) m now earlier)
  on_clock_lem way p now m seen true e =
      record { agree = unchanged; not15 = refl; claim = λ _. record { earlier = sym e; stray = λ n. absurd (true≢false (sym e ∙ n)); passed = tt } }
  on_clock_lem way p now m seen false e =
      let d' = settled d l now in
      let l' = settled_slots d l now in
      let es' = (struck b now).entries in
      let matches : Matches d' (slots (words l')) given es' = rw slots-words (matches_settled d l given es t now) in
      let r = rw (slots-words l') at (routed_right d' (words l') given es' (settled_sound d row now sound (ltb-false now d.clock e)) matches way p m seen) in
      record {
        agree = rw r.accepted r.agree;
        not15 = r.not15;
        claim = λ bytes. record { earlier = r.not11 ∙ sym e; stray = λ _. r.stray; passed = r.passed bytes };
      }

  on_seen_lem : (way : Way) (p : List ℕ) (now : ℕ) (y : Read) → segment_read way d.service given p ≡ y → EarlySeen y → PacketRight way p now y (on_seen d (lent l p) now y)
  on_seen_lem way p now (Err why) seen early =
      record { agree = rw (numbers_agree why, early.back) unchanged; not15 = early.not15; claim = λ _. (refl, refl) }
  on_seen_lem way p now (Ok m) seen early = on_clock_lem way p now m seen _ refl

  on_packet : (way : Way) (p : List ℕ) (now : ℕ) → Right (packet way p now) (packet_of way d row p now)
  unfolding packet_of packet_held
  on_packet way p now =
      let r = on_seen_lem way p now _ refl (read_early way d.service given p) in
      rw (sound, read_same way d.service d.servers given p t.ends)
      (record { agree = λ _. rw slots-words r.agree; not15 = r.not15; claim = r.claim })

  pub on_call : (c : Call) → Right c (called s c)
  unfolding setup_of
  on_call (set_up g new) = on_setup g new _ refl (settings_early g new row)
  on_call (set_weight k w) = on_weight_lem k w
  on_call (count k) = on_count_lem k
  on_call (tick now) = on_tick now
  on_call (packet way p now) = on_packet way p now
