-- `read::read_header` meets its contract: a header is handed out where the packet is known to be no fragment, and a fragment told
-- where the checksum is known to be valid. The two facts are named here so that an edit that loses one is refused with it.
use Rattle.std.proofs.Common.{◌≡◌, true, false, sym, ◌∙◌, rules}
use Rattle.packet.specs.Reading.{header_verifies, fragment}
use Rattle.packet.proofs.read.read_header.Goals as goal

pub returns : goal.returns
returns c =
    let intact = sym c.is_broken.ensures ∙ c.if-is_broken.false in
    let valid = sym c.is_header_valid.ensures ∙ c.if-not-is_header_valid.false in
    let unfragmented : fragment c.args.p.now ≡ false = search rules in
    simp (intact, valid, unfragmented, c.header_of.ensures)

pub returns-then-is_fragment : goal.returns-then-is_fragment
returns-then-is_fragment c =
    let intact = sym c.is_broken.ensures ∙ c.if-is_broken.false in
    let valid : header_verifies c.args.p.now ≡ true = search rules in
    simp (intact, valid, sym c.is_fragment.ensures ∙ c.if-is_fragment.true)
