-- `serve::turn_from` meets its contract: what was read stands behind what was there before (`read_behind`).
use Rattle.std.proofs.Common.{rules}
use Rattle.nidhaaguf_serve.proofs.Buffers.{read_behind}
use Rattle.nidhaaguf_serve.proofs.serve.turn_from.Goals as goal

pub returns-clause-served : goal.returns-clause-served
returns-clause-served c = read_behind _ _ _ _ _ _ _ _ _ _ _ _ c.requires.2 (search rules) (c.in_ok-done.ensures.served _)
