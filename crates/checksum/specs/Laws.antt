-- What a sum by groups gives (proved in proofs/Grouping.antt, `grouping`), and what RFC 1624's edit does to a checksum (proofs/Laws.antt, `laws`;
-- edits in a row: proofs/Editing.antt, `editing`), as statements. Assumes nothing: these are definitions.
use Rattle.std.specs.Prelude.{◌≡◌, ◌↔◌, ◌≢◌, true, cond, List, ℕ, ◌<◌, length, get_or, set, eqb}
use Rattle.checksum.specs.Ones.{Bytes, Words, words_of, ones_sum, groups_of, WholeGroups, total, folded, verifies, edited, fresh, edited_at, with_word}

-- "for any multiple of four up to 65,532 bytes .. summing by groups gives what adding the 16-bit words one by one gives, each carry added back"
abbrev pub GroupLaw : Type 0
GroupLaw = (b : List ℕ) → Bytes b → WholeGroups (length b) → folded (total (groups_of b)) ≡ ones_sum (words_of b)

-- words with their checksum at place i
pub record Checked (ws : List ℕ) (i : ℕ) : Type 0 where
  pub words : Words ws
  pub place : i < length ws

-- the word at another place j is to become m'; a third word, at place k, is not 0 (proofs/Examples.antt, `all_zero`, shows why)
pub record Edit (ws : List ℕ) (i j m' : ℕ) : Type 0 where
  pub old : j < length ws
  pub apart : i ≢ j
  pub new : m' < 65536
  pub k : ℕ
  pub third : (k ≢ i) × (k ≢ j) × (0 < get_or ws k 0)

-- the exception of equation 3: checksum and old word are FFFF and the new word is 0
abbrev pub Exception : (hc m m' : ℕ) → Type 0
Exception hc m m' = (hc ≡ 65535) × (m ≡ 65535) × (m' ≡ 0)

pub record Laws : Type 0 where
  -- after an edit the checksum verifies exactly if it did before
  pub verifies_exactly : (ws : List ℕ) (i j m' : ℕ) → Checked ws i → Edit ws i j m' → verifies (with_word ws i j m') ≡ verifies ws
  -- of a valid checksum the edit is what a fresh calculation gives, in all but the exception
  pub fresh_exactly : (ws : List ℕ) (i j m' : ℕ) → Checked ws i → Edit ws i j m' → verifies ws ≡ true
      → (edited_at ws i j m' ≡ fresh (set (set ws j m') i 0)) ↔ (Exception (get_or ws i 0) (get_or ws j 0) m' → ⊥)
  -- an edit gives FFFF in the exception and nowhere else
  pub ones_exactly : (hc m m' : ℕ) → hc < 65536 → m < 65536 → (edited hc m m' ≡ 65535) ↔ Exception hc m m'
  -- a valid checksum that is not FFFF is what a fresh calculation gives
  pub valid_fresh : (ws : List ℕ) (i : ℕ) → Checked ws i → verifies ws ≡ true → get_or ws i 0 ≢ 65535 → get_or ws i 0 ≡ fresh (set ws i 0)
  -- where a valid checksum is FFFF and another word is not 0, a fresh calculation gives 0
  pub ones_fresh : (ws : List ℕ) (i : ℕ) → Checked ws i → (k : ℕ) → k ≢ i → 0 < get_or ws k 0 → verifies ws ≡ true → get_or ws i 0 ≡ 65535 → fresh (set ws i 0) ≡ 0

-- edits of equation 3 in a row, before UDP's rule for 0 and FFFF
pub record EditingLaws : Type 0 where
  -- "changing a word from a to b and then to c gives what a to c gives, except where the checksum and a are FFFF and c is 0" (SCOPE 1.7)
  pub chained : (hc a b c : ℕ) → hc < 65536 → a < 65536 → b < 65536 → c < 65536
      → (edited (edited hc a b) b c ≡ edited hc a c) ↔ (Exception hc a c → ⊥)
  -- "changing it there and back returns the checksum, except that FFFF returns as 0" (SCOPE 1.8)
  pub there_and_back : (hc a b : ℕ) → hc < 65536 → a < 65536 → b < 65536 → edited (edited hc a b) b a ≡ cond (eqb hc 65535) 0 hc
  -- "edits of two different words may come in either order" (SCOPE 1.9)
  pub either_order : (hc a a' b b' : ℕ) → hc < 65536 → a < 65536 → a' < 65536 → b < 65536 → b' < 65536
      → edited (edited hc a a') b b' ≡ edited (edited hc b b') a a'
