-- What setup, weight, count and tick calls leave, of any state. Assumes nothing.
use Rattle.std.specs.Prelude.{Ok, Err}
use Prim.Native.Nat.{ℕ, ◌<◌}
use mathlib.Core.Bool.{Bool, true, false}
use mathlib.Core.List.{List, []}
use mathlib.Core.Path.{◌≡◌, refl, ◌∙◌}
use borrow.Author.Tests.{ltb-true, ltb-false}
use lib.Dec.{ltb}
use lib.ListN.{length, length-set}
use Rattle.lists.proofs.Cases.{by_test, both, conjunction}
use Rattle.servers.specs.declared.Server.{Server}
use Rattle.servers.specs.Servers.{count_at, with_weight}
use Rattle.servers.specs.Fresh.{fresh_servers}
use Rattle.servers.proofs.Freshness.{fresh-count, fresh_ends, fresh-unused}
use Rattle.servers.proofs.Kept.{field_set, ends_set, unused-set}
use Rattle.scheduler.proofs.Ranges.{start_in_range, weight_in_range}
use Rattle.table.specs.Slots.{slots, zeroed, is_row}
use Rattle.table.specs.Sound.{slots_sound, table_sound}
use Rattle.table.proofs.Rows.{is_row_lem}
use Rattle.table.proofs.Empty.{empty_sound}
use Rattle.table.proofs.Soundness.{sound_counted, all_sound, count-naming}
use Rattle.director.specs.declared.state.Service.{Service}
use Rattle.director.specs.declared.state.Director.{Director}
use Rattle.director.specs.declared.state.Refusal.{Refusal}
use Rattle.director.specs.Judge.{Judged, settings_judged, sound_of}
use Rattle.director.specs.State.{lent, Result, in_words, refusal}
use Rattle.director.specs.Setup.{new_director, on_verdict, setup_of}
use Rattle.director.specs.Control.{number_judged, weighed, on_weight, weight_of, on_count, count_call_of}
use Rattle.director.specs.Tick.{tick_on_clock, tick_of}
use Rattle.director.specs.Laws.{UnsoundFirst}
use Rattle.director.proofs.Sound.{Accepted, judged, sound_parts, sound_words}
use Rattle.director.proofs.Leaving.{Leaves, leaves_all, leaves_changed, leaves_judged}
use Rattle.director.proofs.Refusals.{EarlyVerdict, settings_early}
use Rattle.director.proofs.Changes.{sound_with}
use Rattle.director.proofs.Settled.{settled_sound}

-- 1. Setup

-- the state of an accepted setup, over the zeroed row
new_sound : (g : Service) (given : List Server) (row : List ℕ) → Accepted g given row → sound_of (new_director g given) (zeroed row) ≡ true
new_sound g given row a =
    let n = g.servers in
    let servers = fresh_servers given n in
    sound_with g given row a servers _ _ 0 (zeroed row) (fresh_ends given n a.most) (fresh-unused given n 64 a.most) refl
    (start_in_range g.scheduler servers n a.some)
    (empty_sound row (is_row_lem row a.whole) g.protocol n 0 servers (λ j h. fresh-count given n j a.most))

pub setup_leaves : (d : Director) (g : Service) (given : List Server) (row : List ℕ) → Leaves d (lent row []) (setup_of d g given row)
unfolding setup_of
setup_leaves d g given row = on_verdict_lem (settings_judged g given row) refl (settings_early g given row)
  where
    on_verdict_lem : (v : Judged) → settings_judged g given row ≡ v → EarlyVerdict v → Leaves d (lent row []) (on_verdict d g given row v)
    on_verdict_lem (Ok done) e early =
        leaves_changed d (lent row []) (on_verdict d g given row (Ok tt)) refl (new_sound g given row (judged g given row e))
    on_verdict_lem (Err why) e early = leaves_all d (lent row []) why early.back

-- 2. Weight, count and tick of a sound state

pub unsound_first : UnsoundFirst
unfolding number_judged
unsound_first d row k unsound = rw unsound refl

-- a table stays sound with servers of the same counts
same_counts : (protocol n clock : ℕ) (row : List ℕ) (s t : List Server) → length t ≡ length s → ((j : ℕ) → count_at t j ≡ count_at s j)
    → table_sound protocol n clock row s ≡ true → table_sound protocol n clock row t ≡ true
same_counts protocol n clock row s t e counts sound =
    let (whole, inside) = both (is_row row) (slots_sound protocol n clock (slots row) s) sound in
    conjunction whole
    (sound_counted protocol n clock (slots row) t (all_sound protocol n clock (slots row) s inside)
    (λ j h. counts j ∙ count-naming protocol n clock (slots row) s inside j (rw e at h)))

module _ (d : Director) (row : List ℕ) (sound : sound_of d row ≡ true) where
  weighed_sound : (k w : ℕ) → k < d.service.servers → sound_of (weighed d k w) row ≡ true
  weighed_sound k w h =
      let s = sound_parts d row sound in
      let n = d.service.servers in
      sound_with d.service d.servers row s.settings (with_weight d.servers k w) _ _ d.clock row (ends_set d.servers k _ n refl refl)
      (unused-set d.servers k _ n 64 h ∙ s.unused) refl
      (weight_in_range d.service.scheduler d.servers n k w d.walk s.range)
      (same_counts d.service.protocol n d.clock row d.servers _ (length-set d.servers k _)
      (λ j. field_set (λ (v : Server). v.count) d.servers k j _ refl) s.table)

  -- where the number is a server's, the call is accepted
  by_number : (k : ℕ) (on : Judged → Result) → on (Err Refusal.NoServer) ≡ refusal Refusal.NoServer d (lent row [])
      → (k < d.service.servers → Leaves d (lent row []) (on (Ok tt))) → Leaves d (lent row []) (on (number_judged d row k))
  unfolding number_judged
  by_number k on none accepted =
      rw sound
      (by_test (λ (v : Judged). Leaves d (lent row []) (on v)) (ltb k d.service.servers) _ _
      (λ e. accepted (ltb-true k d.service.servers e))
      (λ e. rw none (leaves_all d (lent row []) Refusal.NoServer refl)))

  weight_sound : (k w : ℕ) → Leaves d (lent row []) (weight_of d row k w)
  unfolding weight_of
  weight_sound k w = by_number k (on_weight d row k w) refl (λ h. leaves_changed d (lent row []) (on_weight d row k w (Ok tt)) refl (weighed_sound k w h))

  count_sound : (k : ℕ) → Leaves d (lent row []) (count_call_of d row k)
  unfolding count_call_of
  count_sound k = by_number k (on_count d row k) refl (λ h. leaves_changed d (lent row []) (on_count d row k (Ok tt)) refl sound)

  tick_sound_lem : (now : ℕ) → Leaves d (lent row []) (tick_of d row now)
  unfolding tick_of
  tick_sound_lem now = rw sound (on_clock_lem _ refl)
    where
      on_clock_lem : (earlier : Bool) → ltb now d.clock ≡ earlier → Leaves d (lent row []) (in_words (tick_on_clock d (lent (slots row) []) now earlier))
      on_clock_lem true e = rw (sound_words d row sound) (leaves_all d (lent row []) Refusal.EarlierClock refl)
      on_clock_lem false e =
          leaves_changed d (lent row []) (in_words (tick_on_clock d (lent (slots row) []) now false)) refl
          (settled_sound d row now sound (ltb-false now d.clock e))

-- 3. The same of any state

module _ (d : Director) (row : List ℕ) where
  pub weight_leaves : (k w : ℕ) → Leaves d (lent row []) (weight_of d row k w)
  unfolding weight_of number_judged
  weight_leaves k w = leaves_judged d (lent row []) (weight_of d row k w) (λ e. weight_sound d row e k w) (λ e. rw e)

  pub count-leaves : (k : ℕ) → Leaves d (lent row []) (count_call_of d row k)
  unfolding count_call_of number_judged
  count-leaves k = leaves_judged d (lent row []) (count_call_of d row k) (λ e. count_sound d row e k) (λ e. rw e)

  pub tick-leaves : (now : ℕ) → Leaves d (lent row []) (tick_of d row now)
  unfolding tick_of
  tick-leaves now = leaves_judged d (lent row []) (tick_of d row now) (λ e. tick_sound_lem d row e now) (λ e. rw e)
