-- Setup. Assumes nothing: these are definitions.
use Rattle.std.specs.Prelude.{ℕ, List, [], Ok, Err}
use Rattle.servers.specs.declared.Server.{Server}
use Rattle.servers.specs.Fresh.{fresh_servers}
use Rattle.scheduler.specs.Weights.{weights_of}
use Rattle.scheduler.specs.ByNumber.{start_of}
use Rattle.table.specs.Slots.{zeroed}
use Rattle.director.specs.declared.state.Service.{Service}
use Rattle.director.specs.declared.state.Director.{Director}
use Rattle.director.specs.declared.state.Answer.{Answer}
use Rattle.director.specs.State.{Result, lent, refusal}
use Rattle.director.specs.Judge.{Judged, settings_judged}

-- "Accepted, setup zeroes the row, all counts and the clock, and puts the walk at its start." (SCOPE 3.3) "An accepted setup and an accepted weight call
-- keep the largest weight and the divisor (2.12) true" (SCOPE 3.5)
abbrev pub new_director : Service → List Server → Director
new_director g given = record {
  service = g;
  servers = fresh_servers given g.servers;
  weights = weights_of (fresh_servers given g.servers) g.servers;
  walk = start_of g.scheduler g.servers;
  clock = 0;
}

abbrev pub on_verdict : Director → Service → List Server → List ℕ → Judged → Result
on_verdict d g given row (Err why) = refusal why d (lent row [])
on_verdict d g given row (Ok done) =
    record { answer = Answer.Done; director = new_director g given; lent = lent (zeroed row) [] }

-- setup: "handed the present state beside its settings and doesn't judge it; refused, it gives that state back" (SCOPE 3.2)
unfoldable pub setup_of : Director → Service → List Server → List ℕ → Result
setup_of d g given row = on_verdict d g given row (settings_judged g given row)
