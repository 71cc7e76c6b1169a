-- The laws of sets, each by what is in the set that is made.
use Rattle.std.specs.Prelude.{◌≡◌, ℕ, ◌-◌, ◌^◌, ◌<◌, Bool, false, not, ◌&&◌, ◌||◌, ◌==◌, bit_and, bit_or, nat_lt}
use Rattle.sets.specs.Mask.{has, set_of, only}

pub record SetLaws : Type 0 where
  -- two sets with the same states are the same number
  pub same : (a b : ℕ) → ((t : ℕ) → has a t ≡ has b t) → a ≡ b
  pub none : (t : ℕ) → has 0 t ≡ false
  pub one : (s t : ℕ) → has (only s) t ≡ (s == t)
  pub chosen : (n : ℕ) (p : ℕ → Bool) (t : ℕ) → has (set_of n p) t ≡ (nat_lt t n && p t)
  -- a number below 2 ^ n is a set of states below n, and so is one whose states all are
  pub within : (a n t : ℕ) → a < 2 ^ n → has a t ≡ (nat_lt t n && has a t)
  pub bounded : (a n : ℕ) → ((t : ℕ) → has a t ≡ (nat_lt t n && has a t)) → a < 2 ^ n
  -- what the operators on numbers do to sets
  pub union : (a b t : ℕ) → has (bit_or a b) t ≡ (has a t || has b t)
  pub intersection : (a b t : ℕ) → has (bit_and a b) t ≡ (has a t && has b t)
  pub complement : (n a t : ℕ) → a < 2 ^ n → t < n → has (2 ^ n - 1 - a) t ≡ not (has a t)
