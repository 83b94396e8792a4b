-- One's complement arithmetic on 16-bit words: RFC 1071's sum, the same by groups of four bytes, and RFC 1624's edit. Assumes nothing: these are
-- definitions.
use Rattle.std.specs.Prelude.{ℕ, ◌+◌, ◌-◌, ◌*◌, ◌^◌, ◌/◌, ◌%◌, ◌≤◌, ◌<◌, ◌≡◌, List, [], ◌∷◌, Bool, get_or, set, eqb}
use Rattle.lists.specs.Below.{Below}

-- bytes fit eight bits, words sixteen
abbrev pub Bytes : List ℕ → Type 0
Bytes b = Below 256 b

abbrev pub Words : List ℕ → Type 0
Words ws = Below 65536 ws

-- a sum with its carry out of bit 15 added back
abbrev pub carried : ℕ → ℕ
carried s = s % 65536 + s / 65536

-- one's complement addition of two words
abbrev pub ones_add : ℕ → ℕ → ℕ
ones_add a b = carried (a + b)

-- one's complement of a word: all sixteen bits inverted
abbrev pub inverted : ℕ → ℕ
inverted a = 65535 - a

-- the bytes two by two, high byte first; an odd last byte is the high byte of a word (RFC 1071, section 1)
abbrev pub words_of : List ℕ → List ℕ
words_of [] = []
words_of (h ∷ []) = (h * 256) ∷ []
words_of (h ∷ l ∷ bs) = (h * 256 + l) ∷ words_of bs

-- the word whose high byte stands at a place
abbrev pub word_at : List ℕ → ℕ → ℕ
word_at b at = get_or b at 0 * 256 + get_or b (at + 1) 0

-- the words added to a sum, each carry added back
abbrev pub sum_from : ℕ → List ℕ → ℕ
sum_from s [] = s
sum_from s (w ∷ ws) = sum_from (ones_add s w) ws

-- the one's complement sum of words
abbrev pub ones_sum : List ℕ → ℕ
ones_sum ws = sum_from 0 ws

-- the number of four bytes, the highest first
abbrev pub group_of : (a b c d : ℕ) → ℕ
group_of a b c d = a * 16777216 + b * 65536 + c * 256 + d

-- the bytes four by four; fewer than four at the end make no group
abbrev pub groups_of : List ℕ → List ℕ
groups_of [] = []
groups_of (a ∷ []) = []
groups_of (a ∷ b ∷ []) = []
groups_of (a ∷ b ∷ c ∷ []) = []
groups_of (a ∷ b ∷ c ∷ d ∷ bs) = group_of a b c d ∷ groups_of bs

-- the group whose first byte stands at a place
abbrev pub group_at : List ℕ → ℕ → ℕ
group_at b at = group_of (get_or b at 0) (get_or b (at + 1) 0) (get_or b (at + 2) 0) (get_or b (at + 3) 0)

-- so many bytes are summed by groups before the carries are added back: "any multiple of four up to 65,532 bytes"
abbrev pub WholeGroups : ℕ → Type 0
WholeGroups n = (n % 4 ≡ 0) × (n ≤ 65532)

-- the plain sum of numbers
abbrev pub total : List ℕ → ℕ
total [] = 0
total (n ∷ ns) = n + total ns

-- below 2^46, as the sum of 16,383 groups is
abbrev pub Foldable : ℕ → Type 0
Foldable s = s < 2 ^ 46

-- such a sum as a word: the carries out of bit 15 added back, three times over
unfoldable pub folded : ℕ → ℕ
folded s = carried (carried (carried s))

-- the checksum over words verifies: their sum is all ones
abbrev pub verifies : List ℕ → Bool
verifies ws = eqb (ones_sum ws) 65535

-- RFC 1624, equation 3: HC' = ~(~HC + ~m + m')
unfoldable pub edited : (hc m m' : ℕ) → ℕ
edited hc m m' = inverted (ones_add (ones_add (inverted hc) (inverted m)) m')

-- a freshly calculated checksum, over words of which the checksum's own is 0
abbrev pub fresh : List ℕ → ℕ
fresh ws = inverted (ones_sum ws)

-- the checksum at i after the word at j became m'
abbrev pub edited_at : List ℕ → (i j m' : ℕ) → ℕ
edited_at ws i j m' = edited (get_or ws i 0) (get_or ws j 0) m'

-- the words after the one at j became m' and the checksum at i was edited for it
abbrev pub with_word : List ℕ → (i j m' : ℕ) → List ℕ
with_word ws i j m' = set (set ws j m') i (edited_at ws i j m')
