-- Sets of states. A set is a number: state t is in it if bit t is 1. The empty set is 0.
use Rattle.std.specs.Prelude.{◌≡◌, ℕ, zero, suc, ◌+◌, ◌/◌, ◌%◌, ◌^◌, ◌<◌, Bool, true, false, not, ◌&&◌, cond, MatchOption, Option, ◌==◌}

-- Membership.
unfoldable pub has : ℕ → ℕ → Bool
has set t = (set / 2 ^ t % 2) == 1

-- The set of the states below n that pass a test.
unfoldable pub set_of : ℕ → (ℕ → Bool) → ℕ
set_of zero p = 0
set_of (suc n) p = cond (p n) (2 ^ n) 0 + set_of n p

-- The set of one state.
abbrev pub only : ℕ → ℕ
only t = 2 ^ t

-- State s is in the set, and no smaller one is.
pub record Smallest (set s : ℕ) : Type 0 where
  pub below : s < 64
  pub here : has set s ≡ true
  pub before : (t : ℕ) → t < s → has set t ≡ false

-- From a set its smallest state is taken, and the others are left; nothing can be taken from the empty set, which is left as it is.
abbrev pub Takes : ℕ → Option ℕ → ℕ → Type 0
Takes set r left =
    MatchOption r ((set ≡ 0) × (left ≡ 0)) (λ s. Smallest set s × ((t : ℕ) → has left t ≡ (has set t && not (s == t))))
