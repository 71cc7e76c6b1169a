-- What follows from the law of systems.
use Rattle.std.proofs.Common.{◌≡◌, ℕ, ◌<◌, refl, inl, inr, arith, lit<, lit≤}
use Rattle.std.proofs.lemmas.Bool.{cases_lt}
use Rattle.environment.specs.System.{System, Sound, empty}

pub empty_sound : Sound empty
empty_sound = record {
  few_actions = lit≤ tt;
  few_observations = lit≤ tt;
  few_states = lit≤ tt;
  initial_in = lit< tt;
  goal_in = lit< tt;
  outcomes_in = λ s a. lit< tt;
  observation_in = λ s h. omega arith;
  observation_out = λ s h. refl;
  no_such_state = λ s a h. refl;
  no_such_action = λ s a h. refl;
}

-- an action leads somewhere only from a state of the system
pub leads_from : (x : System) → Sound x → (s a : ℕ) → (x.outcomes s a ≡ 0 → ⊥) → s < x.states
leads_from x law s a some = elim (cases_lt s x.states) [ inl h ↦ h | inr h ↦ absurd (some (law.no_such_state s a h)) ]

-- systems that agree in everything are one
pub same_system : (x y : System) → x.actions ≡ y.actions → x.observations ≡ y.observations → x.states ≡ y.states → x.initial ≡ y.initial → x.goal ≡ y.goal
    → ((s : ℕ) → x.observation s ≡ y.observation s) → ((s a : ℕ) → x.outcomes s a ≡ y.outcomes s a) → x ≡ y
same_system x y p q r t u v w = λ i. record {
  actions = p i;
  observations = q i;
  states = r i;
  initial = t i;
  goal = u i;
  observation = λ s. v s i;
  outcomes = λ s a. w s a i;
}
