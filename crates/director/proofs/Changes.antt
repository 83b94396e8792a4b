-- What keeps a state sound whose servers, walk, clock and row are changed; where only counts are, a walk in range and a sound table
-- are enough. Assumes nothing.
use Prim.Native.Nat.{ℕ, ◌<◌}
use mathlib.Core.Bool.{true}
use mathlib.Core.List.{List}
use mathlib.Core.Path.{◌≡◌, refl, sym, ◌∙◌}
use Rattle.lists.proofs.Cases.{both}
use Rattle.servers.specs.declared.Server.{Server}
use Rattle.servers.specs.declared.rules.Rule.{Rule}
use Rattle.servers.specs.Servers.{with_count}
use Rattle.servers.specs.Rules.{all_keep}
use Rattle.servers.proofs.Ends.{SameEnds, ends_chain, set_same, new_same}
use Rattle.servers.proofs.Kept.{ends_set, unused-set}
use Rattle.scheduler.specs.declared.weights.Weights.{Weights}
use Rattle.scheduler.specs.declared.walk.Walk.{Walk}
use Rattle.scheduler.specs.Weights.{weights_of}
use Rattle.scheduler.specs.ByNumber.{in_range}
use Rattle.scheduler.proofs.Held.{weights_same, range_held}
use Rattle.table.specs.Slots.{slots, is_row}
use Rattle.table.specs.Sound.{slots_sound, table_sound}
use Rattle.director.specs.declared.state.Service.{Service}
use Rattle.director.specs.declared.state.Director.{Director}
use Rattle.director.specs.Judge.{sound_of}
use Rattle.director.proofs.Sound.{Accepted, Sound, sound_whole}

-- accepted settings stay accepted with servers at the same addresses and ports; with the rest sound they make a sound state
pub sound_with : (g : Service) (old : List Server) (row : List ℕ) → Accepted g old row
    → (servers : List Server) (weights : Weights) (walk : Walk) (clock : ℕ) (row' : List ℕ)
    → let n = g.servers in
    SameEnds n servers old
    → all_keep (Rule.UnusedFrom n) servers 64 ≡ true
    → weights ≡ weights_of servers n
    → in_range g.scheduler servers n walk ≡ true
    → table_sound g.protocol n clock row' servers ≡ true
    → sound_of (record { service = g; servers = servers; weights = weights; walk = walk; clock = clock }) row' ≡ true
sound_with g old row a servers weights walk clock row' ends unused held range table =
    let n = g.servers in
    let d : Director = record { service = g; servers = servers; weights = weights; walk = walk; clock = clock } in
    let sound : Sound d row' = record {
      settings = record {
        some = a.some;
        most = a.most;
        whole = (both (is_row row') (slots_sound g.protocol n clock (slots row') servers) table).0;
        right = a.right;
        set = set_same servers old n ends ∙ a.set;
        distinct = new_same servers old n ends ∙ a.distinct;
      };
      unused = unused;
      weights = held;
      range = range;
      table = table;
    } in
    sound_whole d row' sound

-- servers that differ at most in the counts of the first n: but for the table, soundness asks the same of both
pub record Recounted (n : ℕ) (s t : List Server) : Type 0 where
  pub ends : SameEnds n s t
  pub unused : all_keep (Rule.UnusedFrom n) s 64 ≡ all_keep (Rule.UnusedFrom n) t 64
  pub weights : weights_of s n ≡ weights_of t n

pub recounted_same : (n : ℕ) (s : List Server) → Recounted n s s
recounted_same n s = record { ends = record { address = λ i h. refl; port = λ i h. refl }; unused = refl; weights = refl }

pub recounted_chain : (n : ℕ) (s t u : List Server) → Recounted n s t → Recounted n t u → Recounted n s u
recounted_chain n s t u a b = record {
  ends = ends_chain n s t u a.ends b.ends;
  unused = a.unused ∙ b.unused;
  weights = a.weights ∙ b.weights;
}

-- one count changed
pub recounted : (n : ℕ) (s : List Server) (i c : ℕ) → i < n → Recounted n (with_count s i c) s
recounted n s i c h = record {
  ends = ends_set s i _ n refl refl;
  unused = unused-set s i _ n 64 h;
  weights = weights_same s n i c;
}

-- the state with counts changed
pub recounted_sound : (d : Director) (row : List ℕ) → Sound d row → (servers : List Server) (walk : Walk) (clock : ℕ) (row' : List ℕ)
    → let n = d.service.servers in
    Recounted n servers d.servers
    → in_range d.service.scheduler d.servers n walk ≡ true
    → table_sound d.service.protocol n clock row' servers ≡ true
    → sound_of (record { service = d.service; servers = servers; weights = d.weights; walk = walk; clock = clock }) row' ≡ true
recounted_sound d row s servers walk clock row' counts range table =
    let n = d.service.servers in
    sound_with d.service d.servers row s.settings servers d.weights walk clock row' counts.ends (counts.unused ∙ s.unused)
    (s.weights ∙ sym counts.weights)
    (range_held d.service.scheduler (weights_of servers n) d.servers n walk counts.weights ∙ range) table
