-- What setup asks of its settings, and when a state is sound. Assumes nothing: these are definitions.
use Rattle.std.specs.Prelude.{ℕ, Bool, true, false, cond, not, ◌&&◌, ◌||◌, List, eqb, leb, Result, Ok, Err}
use Rattle.servers.specs.declared.Server.{Server}
use Rattle.servers.specs.declared.rules.Rule.{Rule}
use Rattle.servers.specs.Rules.{all_keep}
use Rattle.scheduler.specs.Weights.{weights_agree}
use Rattle.scheduler.specs.ByNumber.{is_scheduler, in_range}
use Rattle.table.specs.Slots.{is_row}
use Rattle.table.specs.Sound.{table_sound}
use Rattle.director.specs.declared.state.Service.{Service}
use Rattle.director.specs.declared.state.Director.{Director}
use Rattle.director.specs.declared.state.Refusal.{Refusal}

-- TCP (6) or UDP (17)
abbrev pub is_protocol : ℕ → Bool
is_protocol protocol = eqb protocol 6 || eqb protocol 17

-- 2 where this fails: "virtual address 0 or port 0, protocol not 6 or 17, scheduler not 1..4" (SCOPE 4.2)
abbrev pub service_right : Service → Bool
service_right g = not (eqb g.address 0) && not (eqb g.port 0) && is_protocol g.protocol && is_scheduler g.scheduler

-- 1 where this fails: "servers not 1..64, or row length not as above" (SCOPE 4.1)
abbrev pub sizes_right : ℕ → List ℕ → Bool
sizes_right n row = leb 1 n && leb n 64 && is_row row

-- what is said of settings, or of a server's number: nothing, or a refusal
abbrev pub Judged : Type 0
Judged = Result (Unit {0}) Refusal

-- the first of refusals 1 to 4 that the settings meet
unfoldable pub settings_judged : Service → List Server → List ℕ → Judged
settings_judged g servers row =
    cond (sizes_right g.servers row)
    (cond (service_right g)
    (cond (all_keep Rule.Set servers g.servers)
    (cond (all_keep Rule.New servers g.servers) (Ok tt)
    (Err Refusal.ServerRepeated))
    (Err Refusal.ServerUnset))
    (Err Refusal.Service))
    (Err Refusal.Size)

abbrev pub is_accepted : Judged → Bool
is_accepted (Ok done) = true
is_accepted (Err why) = false

-- "unused server places are zeros" (SCOPE 6.2); "the largest weight and the divisor (2.12) agree with the weights" (SCOPE 6.9); "the walk's place is in
-- its range" (SCOPE 6.6); the slots and counts are sound
unfoldable pub parts_sound : Director → List ℕ → Bool
parts_sound d row =
    all_keep (Rule.UnusedFrom d.service.servers) d.servers 64
    && weights_agree d.weights d.servers d.service.servers
    && in_range d.service.scheduler d.servers d.service.servers d.walk
    && table_sound d.service.protocol d.service.servers d.clock row d.servers

-- "Sound means: the rules of 1 to 4 hold" (SCOPE 6.1), and the parts are sound
unfoldable pub sound_of : Director → List ℕ → Bool
sound_of d row = is_accepted (settings_judged d.service d.servers row) && parts_sound d row
