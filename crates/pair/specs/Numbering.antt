-- How a pair is numbered by the counts of its parts, which it keeps, so that it need not ask for them at every question. A pair that is
-- made has the counts that its parts have, and is then what `Pairs` says; the definitions here also say what any other counts would
-- come to, so that every value of the type has a meaning.
use Rattle.std.specs.Prelude.{◌≡◌, ℕ, ◌+◌, ◌-◌, ◌*◌, ◌/◌, ◌%◌, ◌<◌, ◌≤◌, Bool, cond, not, ◌&&◌, Some, None, Option, ◌==◌, nat_le, nat_lt}
use Rattle.sets.specs.Mask.{only}
use Rattle.environment.specs.System.{System}
use Rattle.pair.specs.declared.shape.Counts.{Counts}
use Rattle.pair.specs.declared.shape.Shape.{Shape}
use Rattle.pair.specs.declared.shape.Parts.{Parts}
use Rattle.pair.specs.declared.shape.Mover.{Mover}
use Rattle.pair.specs.declared.shape.Mover.TheVariants.{First, Second}
use Rattle.pair.specs.Pairs.{product}

-- Three counts, of any size.
pub record Sizes : Type 0 where
  pub actions : ℕ
  pub observations : ℕ
  pub states : ℕ

-- what the code keeps of a part, as such numbers
abbrev pub sizes_of : Counts → Sizes
sizes_of c = record { actions = c.actions; observations = c.observations; states = c.states }

abbrev pub counts_of : System → Sizes
counts_of x = record { actions = x.actions; observations = x.observations; states = x.states }

-- The counts are those of the system.
pub record AreCounts (x : System) (c : Sizes) : Type 0 where
  pub actions_are : c.actions ≡ x.actions
  pub observations_are : c.observations ≡ x.observations
  pub states_are : c.states ≡ x.states

-- The parts of a state.
abbrev pub parts_of : Sizes → Sizes → ℕ → Option Parts
parts_of c d s = cond (nat_lt s (c.states * d.states)) (Some (record { first = s / d.states; second = s % d.states })) None

-- Which part an action moves.
abbrev pub mover_of : Sizes → Sizes → ℕ → Option Mover
mover_of c d a = cond (nat_lt a c.actions) (Some (First a)) (cond (nat_lt a (c.actions + d.actions)) (Some (Second (a - c.actions))) None)

-- The observation of a state whose parts have these; 0 for one that a part does not have.
abbrev pub sight_of : Sizes → Sizes → ℕ → ℕ → ℕ
sight_of c d o1 o2 = cond (nat_lt o1 c.observations && nat_lt o2 d.observations) (o1 * d.observations + o2) 0

abbrev pub seen_in : Sizes → Sizes → System → System → Option Parts → ℕ
seen_in c d x y (Some p) = sight_of c d (x.observation p.first) (y.observation p.second)
seen_in c d x y None = 0

abbrev pub led_by : Sizes → Sizes → System → System → Parts → Option Mover → ℕ
led_by c d x y p (Some (First a)) = product c.states d.states (x.outcomes p.first a) (only p.second)
led_by c d x y p (Some (Second a)) = product c.states d.states (only p.first) (y.outcomes p.second a)
led_by c d x y p None = 0

abbrev pub led_from : Sizes → Sizes → System → System → Option Mover → Option Parts → ℕ
led_from c d x y m (Some p) = led_by c d x y p m
led_from c d x y m None = 0

-- The pair of x and y by the counts c and d.
abbrev pub joined : Sizes → Sizes → System → System → System
joined c d x y = record {
  actions = c.actions + d.actions;
  observations = c.observations * d.observations;
  states = c.states * d.states;
  initial = product c.states d.states x.initial y.initial;
  goal = product c.states d.states x.goal y.goal;
  observation = λ s. seen_in c d x y (parts_of c d s);
  outcomes = λ s a. led_from c d x y (mover_of c d a) (parts_of c d s);
}

-- The pair of x and y by the counts that it keeps.
abbrev pub by_shape : Shape → System → System → System
by_shape s x y = joined (sizes_of s.first) (sizes_of s.second) x y

-- Counts of an environment: they keep its limits, and where there is a state, there is an observation.
pub record Small (c : Sizes) : Type 0 where
  pub few_actions : c.actions ≤ 8
  pub few_observations : c.observations ≤ 16
  pub few_states : c.states ≤ 64
  pub seen : 0 < c.states → 0 < c.observations

-- The counts that a pair keeps: those of its parts, or none if there is no pair of them.
abbrev pub counts_nothing : Sizes → Bool
counts_nothing c = c.actions == 0 && (c.observations == 0 && c.states == 0)

abbrev pub together : Sizes → Sizes → Bool
together c d =
    not (counts_nothing c)
    && (not (counts_nothing d) && (nat_le (c.actions + d.actions) 8 && (nat_le (c.observations * d.observations) 16 && nat_le (c.states * d.states) 64)))

abbrev pub none : Sizes
none = record { actions = 0; observations = 0; states = 0 }

pub record Shaped (c d first second : Sizes) : Type 0 where
  pub first_is : first ≡ cond (together c d) c none
  pub second_is : second ≡ cond (together c d) d none
