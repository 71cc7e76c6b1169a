-- What a pair of environments is: the two side by side, of which one moves at a time.
use Rattle.std.specs.Prelude.{◌≡◌, ℕ, ◌+◌, ◌-◌, ◌*◌, ◌/◌, ◌%◌, ◌<◌, Bool, cond, not, ◌&&◌, MatchBool, ◌==◌, nat_le, nat_lt}
use Rattle.sets.specs.Mask.{has, set_of, only}
use Rattle.environment.specs.System.{System, empty}

-- The product of two sets: the states s1 * w + s2 with s1 < h in the first and s2 < w in the second.
unfoldable pub product : ℕ → ℕ → ℕ → ℕ → ℕ
product h w first second = set_of (h * w) (λ t. has first (t / w) && has second (t % w))

-- State s1 * S2 + s2 of the two side by side is x in state s1 and y in state s2, and observations go likewise. The actions of x come
-- first: they move the first part and leave the second; then come those of y, the other way round.
abbrev pub beside : System → System → System
beside x y = record {
  actions = x.actions + y.actions;
  observations = x.observations * y.observations;
  states = x.states * y.states;
  initial = product x.states y.states x.initial y.initial;
  goal = product x.states y.states x.goal y.goal;
  observation = λ s. cond (nat_lt s (x.states * y.states)) (x.observation (s / y.states) * y.observations + y.observation (s % y.states)) 0;
  outcomes = λ s a. cond (nat_lt s (x.states * y.states))
      (cond (nat_lt a x.actions) (product x.states y.states (x.outcomes (s / y.states) a) (only (s % y.states)))
      (product x.states y.states (only (s / y.states)) (y.outcomes (s % y.states) (a - x.actions)))) 0;
}

abbrev pub is_empty : System → Bool
is_empty x = x.actions == 0 && (x.observations == 0 && x.states == 0)

-- There is a pair if neither part is the empty environment and no count passes its limit; otherwise it is the empty environment.
abbrev pub fits : System → System → Bool
fits x y =
    not (is_empty x)
    && (not (is_empty y) && (nat_le (x.actions + y.actions) 8 && (nat_le (x.observations * y.observations) 16 && nat_le (x.states * y.states) 64)))

abbrev pub pair : System → System → System
pair x y = cond (fits x y) (beside x y) empty

-- The same by the parts alone: system z is x and y side by side. It begins where both begin, and its goal is where both goals are. By an
-- action of x it comes just to the states whose first part is an outcome in x and whose second part is as before, and by an action of y
-- the other way round.
pub record SideBySide (x y z : System) : Type 0 where
  pub actions_are : z.actions ≡ x.actions + y.actions
  pub observations_are : z.observations ≡ x.observations * y.observations
  pub states_are : z.states ≡ x.states * y.states
  pub begins : (s1 s2 : ℕ) → s1 < x.states → s2 < y.states → has z.initial (s1 * y.states + s2) ≡ (has x.initial s1 && has y.initial s2)
  pub stops : (s1 s2 : ℕ) → s1 < x.states → s2 < y.states → has z.goal (s1 * y.states + s2) ≡ (has x.goal s1 && has y.goal s2)
  pub sees : (s1 s2 : ℕ) → s1 < x.states → s2 < y.states → z.observation (s1 * y.states + s2) ≡ x.observation s1 * y.observations + y.observation s2
  pub first_moves : (s1 s2 a t1 t2 : ℕ) → s1 < x.states → s2 < y.states → t1 < x.states → t2 < y.states → a < x.actions
      → has (z.outcomes (s1 * y.states + s2) a) (t1 * y.states + t2) ≡ (has (x.outcomes s1 a) t1 && s2 == t2)
  pub second_moves : (s1 s2 a t1 t2 : ℕ) → s1 < x.states → s2 < y.states → t1 < x.states → t2 < y.states → a < y.actions
      → has (z.outcomes (s1 * y.states + s2) (x.actions + a)) (t1 * y.states + t2) ≡ (s1 == t1 && has (y.outcomes s2 a) t2)

-- What a pair of x and y is: the two side by side if they fit, and the empty environment if they do not.
pub record PairOf (x y z : System) : Type 0 where
  pub is : z ≡ pair x y
  pub parts : MatchBool (fits x y) (SideBySide x y z) (z ≡ empty)
