-- `checksum::ones_sum` meets its contract: an odd last byte is the high byte of the word that is added last.
use Rattle.std.proofs.Common.{◌≡◌, ◌*◌, get_or, arith}
use Rattle.std.proofs.lemmas.Grind.{common_steps}
use Rattle.checksum.proofs.Words.{words_odd}
use Rattle.checksum.proofs.ones_sum.Goals as goal

pub returns-in-len1 : goal.returns-in-len1
returns-in-len1 c =
    let high : c.from_be_bytes-in-len1.result ≡ get_or c.as_chunks.result.1.now 0 0 * 256 = omega arith in
    grind (arith, common_steps, words_odd)
