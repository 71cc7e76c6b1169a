-- What an environment is: one finite system.
use Rattle.std.specs.Prelude.{◌≡◌, ℕ, ◌^◌, ◌<◌, ◌≤◌, Bool, not, ◌==◌}

-- Actions, observations and states are numbered from 0. A set of states is a number whose bit t says whether state t is in it.
pub record System : Type 0 where
  pub actions : ℕ
  pub observations : ℕ
  pub states : ℕ
  pub initial : ℕ
  pub goal : ℕ
  -- what is seen in each state
  pub observation : ℕ → ℕ
  -- the states to which an action may lead from a state
  pub outcomes : ℕ → ℕ → ℕ

-- An action is legal in a state if its outcome set is not empty.
abbrev pub is_legal : System → ℕ → ℕ → Bool
is_legal x s a = not (x.outcomes s a == 0)

-- The empty environment: all counts and all sets are zero.
abbrev pub empty : System
empty = record {
  actions = 0;
  observations = 0;
  states = 0;
  initial = 0;
  goal = 0;
  observation = λ _. 0;
  outcomes = λ _ _. 0;
}

-- What holds of every environment's system.
pub record Sound (x : System) : Type 0 where
  pub few_actions : x.actions ≤ 8
  pub few_observations : x.observations ≤ 16
  pub few_states : x.states ≤ 64
  -- sets hold only states of the system
  pub initial_in : x.initial < 2 ^ x.states
  pub goal_in : x.goal < 2 ^ x.states
  pub outcomes_in : (s a : ℕ) → x.outcomes s a < 2 ^ x.states
  -- observations of its states are observations of the system
  pub observation_in : (s : ℕ) → s < x.states → x.observation s < x.observations
  -- a question about a state or an action out of range is answered by 0
  pub observation_out : (s : ℕ) → x.states ≤ s → x.observation s ≡ 0
  pub no_such_state : (s a : ℕ) → x.states ≤ s → x.outcomes s a ≡ 0
  pub no_such_action : (s a : ℕ) → x.actions ≤ a → x.outcomes s a ≡ 0

-- A system over an alphabet: its actions and its observations are the alphabet's.
pub record Over (acts sights : ℕ) (x : System) : Type 0 where
  pub actions_are : x.actions ≡ acts
  pub observations_are : x.observations ≡ sights
