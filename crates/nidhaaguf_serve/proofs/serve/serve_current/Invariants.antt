-- `serve::serve_current` meets its contract. The loop's invariant: the packets taken so far lead to the present standing.
use Rattle.std.proofs.Common.{◌≡◌, ◌≤◌, [], length, take}
use Rattle.serving.specs.Serve.{standing, Served}
use Rattle.nidhaaguf_serve.proofs.serve.serve_current.Given as goal

abbrev pub invariant-loop-k : goal.invariant-loop-k
invariant-loop-k l = (l.progress.taken ≡ l.k)
    × (l.progress.unsent ≤ l.k)
    × (l.progress.end ≤ length l.buffer)
    × Served (standing l.initial.director l.initial.row l.initial.counters l.initial.records 0 []) (standing l.director l.row l.counters l.records l.k (take l.progress.end l.buffer)) l.k
