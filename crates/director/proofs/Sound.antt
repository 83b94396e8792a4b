-- A sound state by its parts: what `sound_of` says, read off and put together again. Assumes nothing.
use Rattle.std.specs.Prelude.{Ok, Err}
use Rattle.std.specs.Result.{is_ok}
use Prim.Native.Nat.{ℕ, ◌≤◌}
use mathlib.Core.Bool.{Bool, true, false, cond, ◌&&◌, false≢true}
use mathlib.Core.List.{List}
use mathlib.Core.Path.{◌≡◌, refl, ap}
use borrow.Author.Tests.{leb-true, le-leb}
use lib.Dec.{leb}
use Rattle.lists.proofs.Cases.{both}
use Rattle.servers.specs.declared.Server.{Server}
use Rattle.servers.specs.declared.rules.Rule.{Rule}
use Rattle.servers.specs.Rules.{all_keep}
use Rattle.scheduler.specs.Weights.{weights_of, weights_agree}
use Rattle.scheduler.specs.ByNumber.{in_range}
use Rattle.scheduler.proofs.Held.{weights_agree_lem}
use Rattle.table.specs.Slots.{slots, words, is_row, IsRow}
use Rattle.table.specs.Sound.{table_sound}
use Rattle.table.proofs.Rows.{is_row_lem, words-slots}
use Rattle.director.specs.declared.state.Service.{Service}
use Rattle.director.specs.declared.state.Director.{Director}
use Rattle.director.specs.declared.state.Refusal.{Refusal}
use Rattle.director.specs.Judge.{Judged, service_right, sizes_right, settings_judged, is_accepted, parts_sound, sound_of}
use Rattle.director.specs.Control.{number_judged}

-- settings that refusals 1 to 4 don't name
pub record Accepted (g : Service) (servers : List Server) (row : List ℕ) : Type 0 where
  pub some : 1 ≤ g.servers
  pub most : g.servers ≤ 64
  pub whole : is_row row ≡ true
  pub right : service_right g ≡ true
  pub set : all_keep Rule.Set servers g.servers ≡ true
  pub distinct : all_keep Rule.New servers g.servers ≡ true

-- a sound state
pub record Sound (d : Director) (row : List ℕ) : Type 0 where
  pub settings : Accepted d.service d.servers row
  pub unused : all_keep (Rule.UnusedFrom d.service.servers) d.servers 64 ≡ true
  pub weights : d.weights ≡ weights_of d.servers d.service.servers
  pub range : in_range d.service.scheduler d.servers d.service.servers d.walk ≡ true
  pub table : table_sound d.service.protocol d.service.servers d.clock row d.servers ≡ true

-- a choice that is accepted is its first answer
chosen : (b : Bool) (v : Judged) (why : Refusal) → is_accepted (cond b v (Err why)) ≡ true → (b ≡ true) × (is_accepted v ≡ true)
chosen true v why e = (refl, e)
chosen false v why e = absurd (false≢true e)

-- sizes that refusal 1 does not name
pub sizes_within : (n : ℕ) (row : List ℕ) → sizes_right n row ≡ true → (1 ≤ n) × (n ≤ 64) × (is_row row ≡ true)
sizes_within n row e =
    let (numbers, whole) = both (leb 1 n && leb n 64) (is_row row) e in
    let (some, most) = both (leb 1 n) (leb n 64) numbers in
    (leb-true 1 n some, leb-true n 64 most, whole)

pub accepted : (g : Service) (servers : List Server) (row : List ℕ) → is_accepted (settings_judged g servers row) ≡ true → Accepted g servers row
unfolding settings_judged
accepted g servers row e =
    let n = g.servers in
    let (sizes, e₁) = chosen (sizes_right n row) _ _ e in
    let (right, e₂) = chosen (service_right g) _ _ e₁ in
    let (set, e₃) = chosen (all_keep Rule.Set servers n) _ _ e₂ in
    let (distinct, e₄) = chosen (all_keep Rule.New servers n) _ _ e₃ in
    let (some, most, whole) = sizes_within n row sizes in
    record { some = some; most = most; whole = whole; right = right; set = set; distinct = distinct }

pub judged : (g : Service) (servers : List Server) (row : List ℕ) → settings_judged g servers row ≡ Ok tt → Accepted g servers row
judged g servers row e = accepted g servers row (ap is_accepted e)

-- what `is_ok` says of a judgement
pub ok_accepted : (v : Judged) → is_ok v ≡ true → is_accepted v ≡ true
ok_accepted (Ok done) e = refl
ok_accepted (Err why) e = e

-- a number that is accepted is one of a sound state
pub numbered : (d : Director) (row : List ℕ) (k : ℕ) → number_judged d row k ≡ Ok tt → sound_of d row ≡ true
unfolding number_judged
numbered d row k e = (chosen (sound_of d row) _ _ (ap is_accepted e)).0

pub accepting : (g : Service) (servers : List Server) (row : List ℕ) → Accepted g servers row → settings_judged g servers row ≡ Ok tt
unfolding settings_judged
accepting g servers row a = rw (le-leb _ _ a.some, le-leb _ _ a.most, a.whole, a.right, a.set, a.distinct)

pub sound_parts : (d : Director) (row : List ℕ) → sound_of d row ≡ true → Sound d row
unfolding sound_of parts_sound
sound_parts d row e =
    let n = d.service.servers in
    let unused = all_keep (Rule.UnusedFrom n) d.servers 64 in
    let weights = weights_agree d.weights d.servers n in
    let range = in_range d.service.scheduler d.servers n d.walk in
    let table = table_sound d.service.protocol n d.clock row d.servers in
    let (settings, parts) = both (is_accepted (settings_judged d.service d.servers row)) (unused && weights && range && table) e in
    let (front, last) = both (unused && weights && range) table parts in
    let (held, third) = both (unused && weights) range front in
    let (first, second) = both unused weights held in
    record {
      settings = accepted d.service d.servers row settings;
      unused = first;
      weights = (weights_agree_lem d.weights d.servers n).0 second;
      range = third;
      table = last;
    }

pub sound_whole : (d : Director) (row : List ℕ) → Sound d row → sound_of d row ≡ true
unfolding sound_of parts_sound
sound_whole d row s =
    let agree = (weights_agree_lem d.weights d.servers d.service.servers).1 s.weights in
    rw (accepting d.service d.servers row s.settings, s.unused, agree, s.range, s.table)

-- a sound state's row has a row's length
pub sound_row : (d : Director) (row : List ℕ) → sound_of d row ≡ true → IsRow row
sound_row d row e = is_row_lem row (sound_parts d row e).settings.whole

-- and is the words of its slots
pub sound_words : (d : Director) (row : List ℕ) → sound_of d row ≡ true → words (slots row) ≡ row
sound_words d row e = words-slots row (sound_row d row e).whole
