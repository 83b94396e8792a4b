-- The least loaded server, which schedulers 3 and 4 pick. Assumes nothing: these are definitions.
use Rattle.std.specs.Prelude.{Bool, cond, List, ℕ, ◌*◌, ltb, eqb}
use Rattle.lists.specs.Fold.{fold_below}
use Rattle.servers.specs.Servers.{server_at, weight_at}
use Rattle.servers.specs.declared.Server.{Server}
use Rattle.servers.specs.declared.ServerNo.{ServerNo}
use Rattle.scheduler.specs.declared.least_loaded.Load.{Load}
use Rattle.scheduler.specs.declared.walk.Walk.{Walk}
use Rattle.scheduler.specs.declared.walk.Pick.{Pick}

-- the load of a beside b: its count (scheduler 3), or its side in "count/weight .. compared by cross products" (4: SCOPE 10.9)
abbrev pub load_beside : Load → Server → Server → ℕ
load_beside Load.Count a b = a.count
load_beside Load.PerWeight a b = a.count * b.weight

-- a carries less than b
abbrev pub lighter_by : Load → Server → Server → Bool
lighter_by by a b = ltb (load_beside by a b) (load_beside by b a)

-- server k, whose weight is above 0, beside the best of those before it, b: it is better than one of weight 0, and of others "ties to the
-- lowest number" (SCOPE 10.8, 10.9)
abbrev pub against : Load → List Server → ℕ → ServerNo → ServerNo
against by s k b =
    cond (eqb (weight_at s b.0) 0) (record { 0 = k }) (cond (lighter_by by (server_at s k) (server_at s b.0)) (record { 0 = k }) b)

-- the best with server k regarded too: "among weights above 0" (SCOPE 10.8, 10.9)
abbrev pub better_of : Load → List Server → ServerNo → ℕ → ServerNo
better_of by s best k = cond (eqb (weight_at s k) 0) best (against by s k best)

-- the least loaded of the first n servers, from server 0 on
abbrev pub least_of : Load → List Server → ℕ → ServerNo
least_of by s n = fold_below (better_of by s) (record { 0 = 0 }) n

-- the least loaded of the first n servers picked; the walk stays where it is
abbrev pub pick_least : Load → List Server → ℕ → Walk → Pick
pick_least by s n w = record { server = least_of by s n; walk = w }
