-- What an accepted model sheet says, and what its reader answers.
use Rattle.std.specs.Prelude.{◌≡◌, ℕ, ◌+◌, ◌*◌, ◌<◌, ◌≤◌, cond, ◌&&◌, List, Decides, Result, nat_lt, slice_index}
use Rattle.environment.specs.System.{System}
use Rattle.sets.specs.Mask.{has}
use Rattle.faults.specs.declared.SheetFault.{SheetFault}
use Rattle.modelsheet.specs.declared.model.Model.{Model}
use Rattle.modelsheet.specs.Judge.{Judged, judge}
use Rattle.modelsheet.specs.Sheet.{states_of, actions_of, observations_of, initial_of, goal_of, sight_of, head_of, OnChain}

-- The finite system that a model stands for. A state or an action out of range has 0 for an answer.
abbrev pub system_of : Model → System
system_of m = record {
  actions = m.actions;
  observations = m.observations;
  states = m.states;
  initial = m.initial;
  goal = m.goal;
  observation = λ s. cond (nat_lt s m.states) (slice_index m.sights s) 0;
  outcomes = λ s a. cond (nat_lt s m.states && nat_lt a m.actions) (slice_index m.leads (s * m.actions + a)) 0;
}

-- The system that the bytes of a sheet lay down: an action leads from a state to the targets on the chain of the two. There is a state,
-- and a run may begin in one.
pub record Says (b : List ℕ) (x : System) : Type 0 where
  pub actions_are : x.actions ≡ actions_of b
  pub observations_are : x.observations ≡ observations_of b
  pub states_are : x.states ≡ states_of b
  pub initial_is : x.initial ≡ initial_of b
  pub goal_is : x.goal ≡ goal_of b
  pub some_state : 1 ≤ x.states
  pub some_initial : 1 ≤ x.initial
  pub sees : (s : ℕ) → s < states_of b → x.observation s ≡ sight_of b s
  pub leads_to : (s a t : ℕ) → s < states_of b → a < actions_of b → Decides (has (x.outcomes s a) t) (OnChain b (head_of b (s * actions_of b + a)) t)

-- A sheet that passes every check is read as what it says; any other is refused by the first check that fails.
abbrev pub Read : List ℕ → Result Model SheetFault → Type 0
Read b = Judged (judge b) (λ m. Says b (system_of m))
