-- Scheduler 4, weighted least-connection. Assumes nothing: this is a definition.
use Rattle.scheduler.specs.Scheduler.{Scheduler, holding}
use Rattle.scheduler.specs.LeastLoaded.{pick_least}
use Rattle.scheduler.specs.declared.least_loaded.Load.{Load}

-- "smallest count/weight among weights above 0, compared by cross products; ties to the lowest number" (SCOPE 10.9)
abbrev pub weighted_least_connection : Scheduler
weighted_least_connection = holding (pick_least Load.PerWeight)
