-- Scheduler 3, least-connection. Assumes nothing: this is a definition.
use Rattle.scheduler.specs.Scheduler.{Scheduler, holding}
use Rattle.scheduler.specs.LeastLoaded.{pick_least}
use Rattle.scheduler.specs.declared.least_loaded.Load.{Load}

-- "smallest count among weights above 0; ties to the lowest number" (SCOPE 10.8)
abbrev pub least_connection : Scheduler
least_connection = holding (pick_least Load.Count)
