-- `serve::serve_packet` meets its contract: one packet is served (`served_once`).
use Rattle.std.proofs.Common.{ℕ, arith}
use Rattle.checksum.specs.Ones.{Bytes}
use Rattle.serving.proofs.Standings.{served_once}
use Rattle.nidhaaguf_serve.proofs.serve.serve_packet.Goals as goal

pub returns-clause-served : goal.returns-clause-served
returns-clause-served c = λ before.
    let bytes : Bytes c.args.packet.now = record { at = λ (i : ℕ). grind arith } in
    let e = c.take_told-answer.ensures in
    served_once _ _ _ _ _ c.args.k before _ _ _ _ _ _ bytes e.taken e.counters e.records
