-- Where a redirection writes: at even places of the header and of the transport part.
use mathlib.Core.Path.{◌≡◌, refl}
use Prim.Native.Nat.{ℕ, ◌+◌, ◌≤◌, ◌<◌}
use native.Mathlib.Omega.{arith}
use lib.Dec.{eqb, lit≤}
use Rattle.lists.proofs.Cases.{by_test}
use Rattle.packet.specs.Redirect.{address_place, port_place, sum_place}
use Rattle.packet.specs.Laws.{Outside}
use Rattle.packet.specs.declared.redirect.Side.{Side}
use Rattle.packet.specs.declared.redirect.Side.TheVariants.{Source, Destination}

-- an even place from low to high
pub record Even (low high at : ℕ) : Type 0 where
  pub half : ℕ
  pub even : at ≡ half + half
  pub least : low ≤ at
  pub most : at ≤ high

pub address_place_lem : (side : Side) → Even 12 16 (address_place side)
address_place_lem Source = record { half = 6; even = refl; least = lit≤ tt; most = lit≤ tt }
address_place_lem Destination = record { half = 8; even = refl; least = lit≤ tt; most = lit≤ tt }

pub port_place_lem : (side : Side) → Even 0 2 (port_place side)
port_place_lem Source = record { half = 0; even = refl; least = lit≤ tt; most = lit≤ tt }
port_place_lem Destination = record { half = 1; even = refl; least = lit≤ tt; most = lit≤ tt }

pub sum_place_lem : (protocol : ℕ) → Even 6 16 (sum_place protocol)
sum_place_lem protocol =
    by_test (Even 6 16) (eqb protocol 6) 16 6
    (λ e. record { half = 8; even = refl; least = lit≤ tt; most = lit≤ tt })
    (λ e. record { half = 3; even = refl; least = lit≤ tt; most = lit≤ tt })

-- the other side, and where its address and port stand: apart from this side's
abbrev pub other : Side → Side
other Source = Destination
other Destination = Source

pub address_apart : (side : Side) (i : ℕ) → address_place (other side) ≤ i → i < address_place (other side) + 4 → Outside (address_place side) 4 i
address_apart Source i h l = λ j b. omega arith
address_apart Destination i h l = λ j b. omega arith

pub port_apart : (side : Side) (i : ℕ) → port_place (other side) ≤ i → i < port_place (other side) + 2 → Outside (port_place side) 2 i
port_apart Source i h l = λ j b. omega arith
port_apart Destination i h l = λ j b. omega arith
