-- Numbers that are out of range.
use Rattle.std.specs.Prelude.{Bool, ◌||◌, ℕ, ◌==◌, nat_lt}

-- x is not from 1 to n
abbrev pub outside : ℕ → ℕ → Bool
outside n x = x == 0 || nat_lt n x
