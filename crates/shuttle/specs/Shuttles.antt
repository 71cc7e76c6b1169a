-- What a shuttle is: it runs along a row of n places, from place 0 to place n - 1, the far end, and it has a bit that is set there.
use Rattle.std.specs.Prelude.{◌≡◌, ℕ, ◌+◌, ◌*◌, ◌/◌, ◌%◌, Bool, true, cond, ◌&&◌, ◌||◌, MatchBool, ◌==◌, nat_le, nat_lt}
use Rattle.sets.specs.Mask.{has, set_of, only}
use Rattle.environment.specs.System.{System, empty}

-- State 2p + f is place p with the bit f.
abbrev pub place_of : ℕ → ℕ
place_of s = s / 2

abbrev pub bit_of : ℕ → ℕ
bit_of s = s % 2

abbrev pub is_far_end : ℕ → ℕ → Bool
is_far_end n p = p + 1 == n

-- Action 0 leads one place to the left, action 1 one place to the right; none leads off an end.
abbrev pub is_step : ℕ → ℕ → ℕ → Bool
is_step a p q = (a == 0 && q + 1 == p) || (a == 1 && q == p + 1)

-- The state in which it arrives at place p, if the bit was f before: the bit stays as it is, but at the far end it is 1.
abbrev pub arrival_at : ℕ → ℕ → ℕ → ℕ
arrival_at n p f = 2 * p + cond (is_far_end n p) 1 f

-- By action a the shuttle comes from state s to state t: one place on, in the state in which it arrives there.
abbrev pub comes_to : ℕ → ℕ → ℕ → ℕ → Bool
comes_to n a s t = is_step a (place_of s) (place_of t) && t == arrival_at n (place_of t) (bit_of s)

-- Place 0 is seen as 0, the far end as 2, and every place between as 1.
abbrev pub sight_of : ℕ → ℕ → ℕ
sight_of n p = cond (p == 0) 0 (cond (is_far_end n p) 2 1)

-- A shuttle of n places. It begins at place 0 with the bit clear, and is to stop there with the bit set.
abbrev pub line : ℕ → System
line n = record {
  actions = 2;
  observations = 3;
  states = 2 * n;
  initial = only 0;
  goal = only 1;
  observation = λ s. cond (nat_lt s (2 * n)) (sight_of n (place_of s)) 0;
  outcomes = λ s a. cond (nat_lt s (2 * n)) (set_of (2 * n) (comes_to n a s)) 0;
}

-- There are shuttles of 2 to 32 places; with any other number it is the empty environment.
abbrev pub is_row : ℕ → Bool
is_row n = nat_le 2 n && nat_le n 32

-- State s is one of a shuttle of n places.
abbrev pub is_state : ℕ → ℕ → Bool
is_state n s = is_row n && nat_lt s (2 * n)

abbrev pub shuttle : ℕ → System
shuttle n = cond (is_row n) (line n) empty

-- In every state that a move leads to, the bit is as it was before; but at the far end it is 1.
abbrev pub KeepsBit : ℕ → ℕ → ℕ → Type 0
KeepsBit n s outcomes = (t : ℕ) → has outcomes t ≡ true → MatchBool (is_far_end n (place_of t)) (bit_of t ≡ 1) (bit_of t ≡ bit_of s)
