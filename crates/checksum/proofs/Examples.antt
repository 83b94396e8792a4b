-- The worked examples of RFC 1071 and RFC 1624, sums by groups, the edges of the edit's laws, and edits in a row, by computation on the definitions.
use mathlib.Core.Path.{◌≡◌, refl}
use mathlib.Core.List.{[], ◌∷◌}
use mathlib.Core.Bool.{true, false}
use Rattle.checksum.specs.Ones.{edited, carried, ones_add, inverted, ones_sum, words_of, groups_of, total, folded, verifies, fresh, with_word}

-- RFC 1071, section 3: the sum in normal order, and of the same bytes swapped two by two
pub rfc1071 : ones_sum (words_of (0x00 ∷ 0x01 ∷ 0xf2 ∷ 0x03 ∷ 0xf4 ∷ 0xf5 ∷ 0xf6 ∷ 0xf7 ∷ [])) ≡ 0xddf2
rfc1071 = refl

pub rfc1071_swapped : ones_sum (words_of (0x01 ∷ 0x00 ∷ 0x03 ∷ 0xf2 ∷ 0xf5 ∷ 0xf4 ∷ 0xf7 ∷ 0xf6 ∷ [])) ≡ 0xf2dd
rfc1071_swapped = refl

-- the same bytes by groups, 0001f203 and f4f5f6f7
pub rfc1071_groups : folded (total (groups_of (0x00 ∷ 0x01 ∷ 0xf2 ∷ 0x03 ∷ 0xf4 ∷ 0xf5 ∷ 0xf6 ∷ 0xf7 ∷ []))) ≡ 0xddf2
unfolding folded
rfc1071_groups = refl

-- two groups may take three folds: after two of ffffffff and 00010000 there is a carry left
pub third_fold : (carried (carried (total (groups_of (0xff ∷ 0xff ∷ 0xff ∷ 0xff ∷ 0x00 ∷ 0x01 ∷ 0x00 ∷ 0x00 ∷ [])))) ≡ 0x10000)
    × (folded (total (groups_of (0xff ∷ 0xff ∷ 0xff ∷ 0xff ∷ 0x00 ∷ 0x01 ∷ 0x00 ∷ 0x00 ∷ []))) ≡ 0x0001)
unfolding folded
third_fold = (refl, refl)

-- RFC 1624, section 4 (P8): the other words' sum is CD7A, and a word 5555 becomes 3285
pub rfc1624_edit : edited 0xDD2F 0x5555 0x3285 ≡ 0x0000
unfolding edited
rfc1624_edit = refl

pub rfc1624_fresh : (fresh (0xCD7A ∷ 0x5555 ∷ []) ≡ 0xDD2F) × (fresh (0xCD7A ∷ 0x3285 ∷ []) ≡ 0x0000)
rfc1624_fresh = (refl, refl)

-- RFC 1141's formula, HC' = HC + m + ~m', gives FFFF there
pub rfc1141 : ones_add (ones_add 0xDD2F 0x5555) (inverted 0x3285) ≡ 0xFFFF
rfc1141 = refl

-- where every other word is 0 an edit can turn a valid checksum invalid: all words are then 0
pub all_zero : (verifies (0xFFFE ∷ 0x0001 ∷ []) ≡ true) × (verifies (with_word (0xFFFE ∷ 0x0001 ∷ []) 0 1 0) ≡ false)
unfolding edited
all_zero = (refl, refl)

-- one word edited twice, and at once: the same, but in the exception
pub chained : (edited (edited 0xDD2F 0x5555 0x3285) 0x3285 0x0000 ≡ 0x3285) × (edited 0xDD2F 0x5555 0x0000 ≡ 0x3285)
unfolding edited
chained = (refl, refl)

pub chained_exception : (edited (edited 0xFFFF 0xFFFF 0x1234) 0x1234 0x0000 ≡ 0x0000) × (edited 0xFFFF 0xFFFF 0x0000 ≡ 0xFFFF)
unfolding edited
chained_exception = (refl, refl)

pub there_and_back : (edited (edited 0xDD2F 0x5555 0x3285) 0x3285 0x5555 ≡ 0xDD2F) × (edited (edited 0xFFFF 0x5555 0x3285) 0x3285 0x5555 ≡ 0x0000)
unfolding edited
there_and_back = (refl, refl)

-- two words, 5555 to 3285 and CD7A to 1234, in both orders
pub either_order : (edited (edited 0xDD2F 0x5555 0x3285) 0xCD7A 0x1234 ≡ 0xBB46) × (edited (edited 0xDD2F 0xCD7A 0x1234) 0x5555 0x3285 ≡ 0xBB46)
unfolding edited
either_order = (refl, refl)
