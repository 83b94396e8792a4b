-- The weight and count calls. Assumes nothing: these are definitions.
use Rattle.std.specs.Prelude.{ℕ, cond, List, [], ltb, Ok, Err}
use Rattle.servers.specs.Servers.{weight_at, count_at, with_weight}
use Rattle.scheduler.specs.Weights.{weights_of}
use Rattle.scheduler.specs.ByNumber.{after_weight}
use Rattle.director.specs.declared.state.Director.{Director}
use Rattle.director.specs.declared.state.Refusal.{Refusal}
use Rattle.director.specs.declared.state.Answer.{Answer}
use Rattle.director.specs.State.{Result, lent, refusal}
use Rattle.director.specs.Judge.{Judged, sound_of}

-- "Weight and count 15, 5." (SCOPE 5.1)
unfoldable pub number_judged : Director → List ℕ → ℕ → Judged
number_judged d row k =
    cond (sound_of d row)
    (cond (ltb k d.service.servers) (Ok tt) (Err Refusal.NoServer))
    (Err Refusal.Unsound)

-- the state with server k's weight set and the walk as its scheduler has it then: "An accepted setup and an accepted weight call keep the largest weight
-- and the divisor (2.12) true" (SCOPE 3.5)
abbrev pub weighed : Director → (k w : ℕ) → Director
weighed d k w = record {
  service = d.service;
  servers = with_weight d.servers k w;
  weights = weights_of (with_weight d.servers k w) d.service.servers;
  walk = after_weight d.service.scheduler d.walk (weight_at d.servers k) w;
  clock = d.clock;
}

abbrev pub on_weight : Director → List ℕ → (k w : ℕ) → Judged → Result
on_weight d row k w (Err why) = refusal why d (lent row [])
on_weight d row k w (Ok done) = record { answer = Answer.Done; director = weighed d k w; lent = lent row [] }

-- the weight call
unfoldable pub weight_of : Director → List ℕ → (k w : ℕ) → Result
weight_of d row k w = on_weight d row k w (number_judged d row k)

abbrev pub on_count : Director → List ℕ → ℕ → Judged → Result
on_count d row k (Err why) = refusal why d (lent row [])
on_count d row k (Ok done) = record { answer = Answer.Number (count_at d.servers k); director = d; lent = lent row [] }

-- the count call: "it tells the count as of the latest accepted" (SCOPE 8.15) clock
unfoldable pub count_call_of : Director → List ℕ → ℕ → Result
count_call_of d row k = on_count d row k (number_judged d row k)
