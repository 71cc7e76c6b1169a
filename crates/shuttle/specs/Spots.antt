-- What the code has in place of the numbers of actions and of states.
use Rattle.std.specs.Prelude.{◌≡◌, ℕ, ◌==◌}
use Rattle.shuttle.specs.declared.direction.Direction.{Direction}
use Rattle.shuttle.specs.declared.direction.Direction.TheVariants.{Left, Right}
use Rattle.shuttle.specs.declared.spot.Spot.{Spot}
use Rattle.shuttle.specs.Shuttles.{place_of, bit_of}

-- The action that leads each way.
abbrev pub action_of : Direction → ℕ
action_of Left = 0
action_of Right = 1

-- The spot is that of the state.
pub record IsSpot (state : ℕ) (spot : Spot) : Type 0 where
  pub place_is : spot.place ≡ place_of state
  pub bit_is : spot.bit ≡ (bit_of state == 1)
