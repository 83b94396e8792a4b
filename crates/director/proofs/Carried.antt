-- What is decided of a packet, carried out, leaves a sound state sound. Assumes nothing.
use Prim.Native.Nat.{ℕ, ◌≤◌}
use mathlib.Core.Bool.{Bool, true, false, false≢true}
use mathlib.Core.List.{List}
use mathlib.Core.Logic.{⊎_elim}
use mathlib.Core.Path.{◌≡◌, refl, sym}
use native.Mathlib.Omega.{arith}
use lib.Dec.{eqb}
use Rattle.lists.proofs.Cases.{truth, by_test}
use Rattle.lists.proofs.All.{all_at}
use Rattle.servers.specs.Servers.{raised}
use Rattle.scheduler.specs.declared.walk.Walk.{Walk}
use Rattle.table.specs.Slots.{slots, words, free_slot, slot_at}
use Rattle.table.specs.Changes.{opened, freed}
use Rattle.table.specs.Sound.{last_phase}
use Rattle.table.proofs.Rows.{slots-words}
use Rattle.table.proofs.Connections.{Connection, IsPhase, connection}
use Rattle.table.proofs.Soundness.{all_sound}
use Rattle.table.proofs.Tables.{sound_table, opened-table, touched-table}
use Rattle.director.specs.declared.state.Director.{Director}
use Rattle.director.specs.declared.segment.Sender.{Sender}
use Rattle.director.specs.declared.segment.Segment.{Segment}
use Rattle.director.specs.declared.decide.Decision.{Decision}
use Rattle.director.specs.State.{with_servers, with_one_less, lent}
use Rattle.director.specs.Judge.{sound_of}
use Rattle.director.specs.Carry.{phase_on_fin, phase_of, phase_after, carried_out}
use Rattle.director.proofs.Sound.{Sound, sound_whole, sound_words}
use Rattle.director.proofs.Changes.{recounted_same, recounted, recounted_sound}
use Rattle.director.proofs.Ending.{ended_sound, ended_parts}
use Rattle.director.proofs.Decisions.{Its, Opening, Grounded}

-- FIN moves a TCP phase to another
fin_phase : (phase : ℕ) (sender : Sender) → IsPhase 4 phase → IsPhase 4 (phase_on_fin phase sender)
fin_phase phase Sender.Client old =
    by_test (IsPhase 4) (eqb phase 1) 2 _ (λ e. (refl, omega arith)) (λ e. by_test (IsPhase 4) (eqb phase 3) 4 phase (λ q. (refl, omega arith)) (λ q. old))
fin_phase phase (Sender.Server i) old =
    by_test (IsPhase 4) (eqb phase 1) 3 _ (λ e. (refl, omega arith)) (λ e. by_test (IsPhase 4) (eqb phase 2) 4 phase (λ q. (refl, omega arith)) (λ q. old))

module _ (protocol : ℕ) where
  -- "UDP stays in 1" (SCOPE 8.9): it has no FIN
  phase_kept : (phase : ℕ) (fin : Bool) (sender : Sender) → (eqb protocol 17 ≡ true → fin ≡ false)
      → IsPhase (last_phase protocol) phase → IsPhase (last_phase protocol) (phase_of phase fin sender)
  phase_kept phase false sender udp old = old
  phase_kept phase true sender udp old =
      ⊎_elim
      (λ (e : eqb protocol 17 ≡ true). absurd (false≢true (sym (udp e))))
      (λ (e : eqb protocol 17 ≡ false). rw e (fin_phase phase sender (rw e at old)))
      (truth (eqb protocol 17))

-- an opening
opened_sound : (d : Director) (row : List ℕ) (m : Segment) → Sound d row → m.port ≤ 65535 → (k i : ℕ) (walk : Walk) → Opening d (slots row) k i walk
    → sound_of (with_servers d (raised d.servers i) walk) (words (opened (slots row) k m.address m.port i d.clock)) ≡ true
opened_sound d row m sound port k i walk new =
    let n = d.service.servers in
    recounted_sound d row sound (raised d.servers i) walk d.clock _ (recounted n d.servers i _ new.picked.serves.server) new.picked.serves.range
    (opened-table d.service.protocol n d.clock row d.servers sound.table k m.address m.port i new.lowest.within new.lowest.passes port new.picked.serves.server)

module _ (d : Director) (row p : List ℕ) (m : Segment) (sound : Sound d row) where
  abbrev protocol : ℕ
  protocol = d.service.protocol

  abbrev n : ℕ
  n = d.service.servers

  -- what the slot of the packet's connection has
  pub its_slot : (k : ℕ) (rst : Bool) → (its : Its (slots row) m k rst) → Connection protocol n d.clock (slot_at row k) its.used
  its_slot k rst its =
      let inside = (sound_table protocol n d.clock row d.servers sound.table).1 in
      connection protocol n d.clock (slot_at row k) its.used
      (all_at _ (slots row) k free_slot (all_sound protocol n d.clock (slots row) d.servers inside) its.lowest.within)

  pub carried_sound : m.port ≤ 65535 → (eqb d.service.protocol 17 ≡ true → m.flags.fin ≡ false) → (a : Decision) → Grounded d (slots row) m a
      → let h = carried_out d (lent (slots row) p) m a in sound_of h.director (words h.lent.table) ≡ true
  carried_sound port udp (Decision.Refuse why) grounds = rw (sound_words d row (sound_whole d row sound)) (sound_whole d row sound)
  carried_sound port udp (Decision.Keep k) its =
      let s = slot_at row k.0 in
      let phase = phase_kept protocol s.phase m.flags.fin m.sender udp (its.used, (its_slot k.0 false its).0) in
      recounted_sound d row sound d.servers d.walk d.clock _ (recounted_same n d.servers) sound.range
      (touched-table protocol n d.clock row d.servers sound.table k.0 (phase_after m s) its.lowest.within its.used phase)
  carried_sound port udp (Decision.End k) its = ended_sound d row sound k.0 its.lowest.within its.used
  carried_sound port udp (Decision.Open k i walk) new = opened_sound d row m sound port k.0 i.0 walk new.opening
  carried_sound port udp (Decision.Renew old k i walk) new =
      let ended = ended_parts d row sound old.0 new.its.lowest.within new.its.used in
      let l = freed (slots row) old.0 in
      rw (slots-words l) at
      (opened_sound (with_one_less d (slot_at row old.0).server.0) (words l) m ended port k.0 i.0 walk (rw (slots-words l) new.opening))
