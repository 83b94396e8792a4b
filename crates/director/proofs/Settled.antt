-- A clock stored and the idle connections removed leave a sound state sound. Assumes nothing.
use Prim.Native.Nat.{ℕ, ◌≤◌, ◌<◌}
use mathlib.Core.Bool.{Bool, true}
use mathlib.Core.List.{List, [], ◌∷◌}
use mathlib.Core.Path.{◌≡◌}
use Rattle.lists.specs.Tests.{all_of}
use Rattle.lists.proofs.Cases.{both, by_test}
use Rattle.servers.specs.declared.Server.{Server}
use Rattle.servers.specs.Servers.{lowered}
use Rattle.table.specs.declared.slot.Slot.{Slot}
use Rattle.table.specs.Slots.{slots, words}
use Rattle.table.specs.Expire.{lowered_by}
use Rattle.table.specs.Sound.{slot_sound}
use Rattle.table.proofs.Connections.{connection, idle_used}
use Rattle.table.proofs.Soundness.{all_sound}
use Rattle.table.proofs.Tables.{sound_table, later_table, removed_table}
use Rattle.director.specs.declared.state.Director.{Director}
use Rattle.director.specs.Judge.{sound_of}
use Rattle.director.specs.Tick.{settled, settled_slots, idle_now}
use Rattle.director.proofs.Sound.{sound_parts}
use Rattle.director.proofs.Changes.{Recounted, recounted_same, recounted_chain, recounted, recounted_sound}

module _ (n : ℕ) (p q : Slot → Bool) (named : (s : Slot) → p s ≡ true → q s ≡ true → s.server.0 < n) where
  -- slots that all name one of the first n servers, as far as they pass q, lower these servers' counts alone
  lowered_counts : (l : List Slot) (servers : List Server) → all_of p l ≡ true → Recounted n (lowered_by q l servers) servers
  unfolding lowered_by all_of
  lowered_counts [] servers all = recounted_same n servers
  lowered_counts (s ∷ l) servers all =
      let (here, rest) = both (p s) (all_of p l) all in
      let one = by_test (λ v. Recounted n v servers) (q s) (lowered servers s.server.0) servers
      (λ e. recounted n servers s.server.0 _ (named s here e)) (λ e. recounted_same n servers) in
      recounted_chain n _ _ _ (lowered_counts l _ rest) one

pub settled_sound : (d : Director) (row : List ℕ) (now : ℕ) → sound_of d row ≡ true → d.clock ≤ now
    → sound_of (settled d (slots row) now) (words (settled_slots d (slots row) now)) ≡ true
settled_sound d row now sound later =
    let s = sound_parts d row sound in
    let n = d.service.servers in
    let protocol = d.service.protocol in
    let table = later_table protocol n d.clock row d.servers s.table now later in
    let all = all_sound protocol n now (slots row) d.servers (sound_table protocol n now row d.servers table).1 in
    let counts = lowered_counts n (slot_sound protocol n now) (idle_now d now)
    (λ x right idle. (connection protocol n now x (idle_used protocol now x idle) right).2) (slots row) d.servers all in
    recounted_sound d row s _ d.walk now _ counts s.range (removed_table protocol n now row d.servers table)
