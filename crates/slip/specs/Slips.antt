-- What a slip over an environment is: each legal action may also leave the state as it is.
use Rattle.std.specs.Prelude.{◌≡◌, ℕ, Bool, not, ◌&&◌, ◌||◌, ◌==◌, nat_lt}
use Rattle.sets.specs.Mask.{has, set_of}
use Rattle.environment.specs.System.{System, is_legal}

-- By a legal action the slip comes from state s to any outcome below, or stays at s.
abbrev pub slips_to : System → ℕ → ℕ → ℕ → Bool
slips_to x s a t = is_legal x s a && (has (x.outcomes s a) t || s == t)

-- A set that is not empty gets the state, of the 64 that there can be.
abbrev pub Slips : ℕ → ℕ → ℕ → Type 0
Slips outcomes s slipped = (t : ℕ) → has slipped t ≡ (not (outcomes == 0) && (has outcomes t || (nat_lt s 64 && s == t)))

-- All else is as below.
abbrev pub slip : System → System
slip x = record {
  actions = x.actions;
  observations = x.observations;
  states = x.states;
  initial = x.initial;
  goal = x.goal;
  observation = x.observation;
  outcomes = λ s a. set_of x.states (slips_to x s a);
}

-- An action is legal in the slip exactly where it is legal below, and there the state itself is one of the outcomes.
pub record LegalAsBelow (x : System) : Type 0 where
  pub legal : (s a : ℕ) → is_legal (slip x) s a ≡ is_legal x s a
  pub stays : (s a : ℕ) → has ((slip x).outcomes s a) s ≡ is_legal x s a
