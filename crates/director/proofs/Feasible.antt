-- In a sound state, what is decided of a packet that can be redirected can be carried out. Assumes nothing.
use Prim.Native.Nat.{ℕ, ◌<◌}
use mathlib.Core.Bool.{Bool, true, false}
use mathlib.Core.List.{List}
use mathlib.Core.Path.{◌≡◌}
use native.Mathlib.Omega.{arith}
use lib.ListN.{length}
use Rattle.packet.specs.Redirect.{Redirectable}
use Rattle.scheduler.specs.declared.walk.Walk.{Walk}
use Rattle.table.specs.Slots.{slots, words, slot_at, IsRow}
use Rattle.table.specs.Changes.{freed}
use Rattle.table.specs.Sound.{slots_sound}
use Rattle.table.proofs.Rows.{length-slots, slots-words}
use Rattle.table.proofs.Soundness.{count-slots}
use Rattle.table.proofs.Tables.{sound_table}
use Rattle.servers.proofs.Endpoints.{places}
use Rattle.director.specs.declared.state.Director.{Director}
use Rattle.director.specs.declared.segment.Segment.{Segment}
use Rattle.director.specs.declared.decide.Decision.{Decision}
use Rattle.director.specs.State.{with_one_less}
use Rattle.director.specs.Judge.{sound_of}
use Rattle.director.specs.Decide.{decided}
use Rattle.director.specs.Carry.{Ready, EndReady, OpenReady, Feasible}
use Rattle.director.proofs.Sound.{Sound, sound_parts}
use Rattle.director.proofs.Ending.{counted, ended_parts}
use Rattle.director.proofs.Decisions.{Its, Opening, Grounded, decided_grounded}

-- a whole row, and the slots that a count counts are few
module _ (d : Director) (row p : List ℕ) (can : Redirectable d.service.protocol p) (sound : Sound d row) where
  table : IsRow row × (slots_sound d.service.protocol d.service.servers d.clock (slots row) d.servers ≡ true)
  table = sound_table d.service.protocol d.service.servers d.clock row d.servers sound.table

  ready : (k : ℕ) → k < length (slots row) → Ready d row p k
  ready k h = record { whole = table.0; within = omega (arith, length-slots row); packet = can }

  open_ready : (k i : ℕ) (walk : Walk) → Opening d (slots row) k i walk → OpenReady d row p k i
  open_ready k i walk new =
      let place : i < length d.servers = omega (arith, new.picked.serves.server, places d.servers d.service.servers sound.settings.set) in
      let count = count-slots d.service.protocol d.service.servers d.clock (slots row) d.servers table.1 i place in
      (ready k new.lowest.within, omega (arith, count, table.0.most, length-slots row))

module _ (d : Director) (row p : List ℕ) (can : Redirectable d.service.protocol p) where
  module _ (sound : Sound d row) where
    -- a connection that is ended is counted
    end_ready : (m : Segment) (k : ℕ) (rst : Bool) → Its (slots row) m k rst → EndReady d row p k
    end_ready m k rst its = (ready d row p can sound k its.lowest.within, (counted d row sound k its.lowest.within its.used).1)

    by_decision : (m : Segment) (a : Decision) → Grounded d (slots row) m a → Feasible d row p a
    by_decision m (Decision.Refuse why) grounds = (table d row p can sound).0
    by_decision m (Decision.Keep k) its = ready d row p can sound k.0 its.lowest.within
    by_decision m (Decision.End k) its = end_ready m k.0 true its
    by_decision m (Decision.Open k i walk) new = open_ready d row p can sound k.0 i.0 walk new.opening
    by_decision m (Decision.Renew old k i walk) new =
        let ended = ended_parts d row sound old.0 new.its.lowest.within new.its.used in
        let l = freed (slots row) old.0 in (
          end_ready m old.0 false new.its,
          open_ready (with_one_less d (slot_at row old.0).server.0) (words l) p can ended k.0 i.0 walk (rw (slots-words l) new.opening),
        )

  pub feasible : (m : Segment) → sound_of d row ≡ true → Feasible d row p (decided d (slots row) m)
  feasible m sound = let s = sound_parts d row sound in by_decision s m (decided d (slots row) m) (decided_grounded d row s m)
