-- Sums of numbers that fit 32 bits.
use Rattle.std.specs.Prelude.{ℕ, ◌+◌, min}

-- A sum that would pass 2^32 - 1 stops there.
abbrev pub plus : ℕ → ℕ → ℕ
plus x y = min (x + y) 4294967295
