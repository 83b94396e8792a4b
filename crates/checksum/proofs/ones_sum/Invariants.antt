-- `checksum::ones_sum` meets its contract. The invariant: the words that are left, and that of an odd last byte, added to `sum` give the whole sum;
-- where the groups end it holds by the law of a sum by groups (`front_sum`).
use mathlib.Core.Path.{◌≡◌}
use lib.ListN.{drop}
use Rattle.checksum.specs.Ones.{sum_from, ones_sum, words_of}
use Rattle.checksum.proofs.Words.{words_in}
use Rattle.checksum.proofs.ones_sum.Given as goal

abbrev pub invariant-loop-word : goal.invariant-loop-word
invariant-loop-word l = sum_from (sum_from l.sum (words_in (drop l.word-index l.words))) (words_of l.odd) ≡ ones_sum (words_of l.b)
