-- `read::is_header_valid` meets its contract: what is summed ends where the header's own length says.
use Rattle.std.proofs.Common.{ℕ, take, ap, ◌∙◌, arith}
use Rattle.checksum.specs.Ones.{words_of, verifies}
use Rattle.packet.proofs.read.is_header_valid.Goals as goal

pub returns : goal.returns
returns c =
    let p = c.args.p.now in
    c.is_valid.ensures ∙ ap (λ (end : ℕ). verifies (words_of (take end p))) (omega arith)
