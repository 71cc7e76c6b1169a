-- What holds of the order of loads.
use Rattle.std.specs.Prelude.{◌≡◌, Bool, true, ◌⊎◌}

-- Of any two loads one is at most the other, no two different ones are level, and the order is transitive.
pub record Ranking {L : Type 0} (le : L → L → Bool) : Type 0 where
  pub total : (x y : L) → (le x y ≡ true) ⊎ (le y x ≡ true)
  pub same : (x y : L) → le x y ≡ true → le y x ≡ true → x ≡ y
  pub chain : (x y z : L) → le x y ≡ true → le y z ≡ true → le x z ≡ true
