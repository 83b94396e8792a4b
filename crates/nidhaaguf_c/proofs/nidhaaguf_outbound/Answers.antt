-- `nidhaaguf_outbound` meets its contract: what it returns is what its one call returned. The check finds that alone; it is written so that
-- another call is refused with both sides shown.
use Rattle.nidhaaguf_c.proofs.nidhaaguf_outbound.Goals as goal

pub returns : goal.returns
returns c = c.nidhaaguf_outbound.ensures
