-- The records of a serve tell each of its packets. Assumes nothing.
use Rattle.std.proofs.Common.{◌≡◌, ℕ, ◌+◌, ◌*◌, ◌%◌, ◌^◌, ◌<◌, List, [], ◌∷◌, ◌++◌, length, get_or, set, refl, ◌∙◌, arith, length-set, get_or-set_other, get_or-set_same}
use Rattle.director.specs.declared.state.Way.{Way}
use Rattle.serving.specs.declared.told.Told.{Told}
use Rattle.serving.specs.Told.{told_by}
use Rattle.serving.specs.Way.{way_of, taken_of}
use Rattle.serving.specs.Trace.{record_start, trace_of, trace_at, traced, way_number}
use Rattle.serving.specs.Serve.{Standing, once_served, served_by}
use Rattle.serving.proofs.Tells.{told_here, told_before}
use Rattle.serving.proofs.Standings.{served_append}

module _ (records : List ℕ) (k n : ℕ) (way : Way) (t : Told) where
  abbrev long : List ℕ
  long = set records (record_start k) (n % 2 ^ 32)

  abbrev begun : List ℕ
  begun = set long (record_start k + 1) (way_number way)

  -- the record that is written is the one that is read
  traced_here : 5 * k + 4 < length records → trace_at (traced records k n way t) k ≡ trace_of n way t
  traced_here h =
      rw (
        told_before begun (record_start k + 1) t (record_start k) (omega arith),
        told_before begun (record_start k + 1) t (record_start k + 1) (omega arith),
        told_here begun (record_start k + 1) t (simp length-set (omega (arith, h))),
        get_or-set_same long (record_start k + 1) (way_number way) 0 (simp length-set (omega (arith, h))),
        get_or-set_other long (record_start k + 1) (record_start k) (way_number way) 0 (λ q. omega (arith, q)),
        get_or-set_same records (record_start k) (n % 2 ^ 32) 0 (omega (arith, h)),
      )

  -- a word before the record stays
  word_stays : (i : ℕ) → i < record_start k → get_or (traced records k n way t) i 0 ≡ get_or records i 0
  word_stays i h =
      told_before begun (record_start k + 1) t i (omega (arith, h))
      ∙ get_or-set_other long (record_start k + 1) i (way_number way) 0 (λ q. omega (arith, h, q))
      ∙ get_or-set_other records (record_start k) i (n % 2 ^ 32) 0 (λ q. omega (arith, h, q))

  traced_later : (j : ℕ) → j < k → trace_at (traced records k n way t) j ≡ trace_at records j
  traced_later j h =
      rw (
        word_stays (record_start j) (omega (arith, h)),
        word_stays (record_start j + 1) (omega (arith, h)),
        word_stays (record_start j + 1 + 1) (omega (arith, h)),
        word_stays (record_start j + 1 + 2) (omega (arith, h)),
        word_stays (record_start j + 1 + 3) (omega (arith, h)),
      )

-- what is told of a packet
abbrev way_in : Standing → List ℕ → Way
way_in s p = way_of s.director.service.address p

abbrev told_of : Standing → List ℕ → Told
told_of s p = told_by (taken_of s.director s.row p).answer

-- packets one after another: how many records there are, and how many are written
once_records : (s : Standing) (p : List ℕ) → length (once_served s p).records ≡ length s.records
once_records s p = simp length-set refl

served_records : (ps : List (List ℕ)) (s : Standing) → length (served_by s ps).records ≡ length s.records
unfolding served_by
served_records [] s = refl
served_records (p ∷ ps) s = served_records ps (once_served s p) ∙ once_records s p

served_taken : (ps : List (List ℕ)) (s : Standing) → (served_by s ps).taken ≡ s.taken + length ps
unfolding served_by
served_taken [] s = omega arith
served_taken (p ∷ ps) s = omega (arith, served_taken ps (once_served s p))

-- a record stays as later ones are written
served_later : (ps : List (List ℕ)) (s : Standing) (k : ℕ) → k < s.taken → trace_at (served_by s ps).records k ≡ trace_at s.records k
unfolding served_by
served_later [] s k h = refl
served_later (p ∷ ps) s k h = served_later ps (once_served s p) k (omega (arith, h)) ∙ traced_later s.records s.taken (length p) (way_in s p) (told_of s p) k h

-- one packet, and those after it
first-told : (t : Standing) (p : List ℕ) (qs : List (List ℕ)) → 5 * t.taken + 4 < length t.records
    → trace_at (served_by t (p ∷ qs)).records t.taken
    ≡ trace_of (length p) (way_in t p) (told_of t p)
unfolding served_by
first-told t p qs h = served_later qs (once_served t p) t.taken (omega arith) ∙ traced_here t.records t.taken (length p) (way_in t p) (told_of t p) h

-- the record of a packet tells it, whatever came before it and after
pub serve-told : (s : Standing) (ps : List (List ℕ)) (p : List ℕ) (qs : List (List ℕ)) → let t = served_by s ps in
    let k = s.taken + length ps in
    5 * k + 4 < length s.records
    → trace_at (served_by s (ps ++ p ∷ qs)).records k
    ≡ trace_of (length p) (way_of t.director.service.address p) (told_by (taken_of t.director t.row p).answer)
serve-told s ps p qs h =
    rw (served_append s ps (p ∷ qs), ← (served_taken ps s))
    (first-told (served_by s ps) p qs (rw (served_taken ps s, served_records ps s) h))
