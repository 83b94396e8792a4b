-- `reply::state_after` meets its contract: after a refusal that changes nothing the state is the one handed in, at its own place.
use Prim.Native.Nat.{ℕ}
use mathlib.Core.Path.{◌≡◌, refl, sym, subst, ◌∙◌}
use Rattle.nidhaaguf.specs.declared.state.State.{State}
use Rattle.nidhaaguf.proofs.reply.state_after.Goals as goal

-- a state at another place
abbrev placed : State → ℕ → State
placed s place = record {
  service = s.service;
  clock = s.clock;
  servers = s.servers;
  place = place;
  level = s.level;
  largest_weight = s.largest_weight;
  weight_divisor = s.weight_divisor;
}

pub returns-then-changes_nothing : goal.returns-then-changes_nothing
returns-then-changes_nothing c = λ given known.
    let nothing = sym c.changes_nothing.ensures ∙ c.if-changes_nothing.true in
    rw (nothing, c.from-state.ensures, known.back nothing) (subst (λ (place : ℕ). placed given place ≡ given) known.its_place refl)
