-- What is barred.
use Rattle.std.specs.Prelude.{ℕ, Bool, false, cond, ◌&&◌, nat_lt, [], slice_index_or}
use Rattle.tree.specs.declared.bars.Bars.{Bars}

-- the observation and the action are within the limits of an alphabet
abbrev pub stands : ℕ → ℕ → Bool
stands o a = nat_lt o 16 && nat_lt a 8

-- action a is barred at observation o
abbrev pub barred_at : Bars → ℕ → ℕ → Bool
barred_at b o a = cond (stands o a) (slice_index_or (slice_index_or b.barred o []) a false) false
