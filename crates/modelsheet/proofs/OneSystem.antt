-- The bytes of a sheet say one system, and a model without states is the empty one.
use Rattle.std.proofs.Common.{◌≡◌, ℕ, ◌+◌, ◌*◌, cond, ◌&&◌, ltb, List, get_or, sym, refl, ◌∙◌, inl, inr, arith}
use Rattle.std.proofs.lemmas.Bool.{cases_lt, cond-false, le-ltb, and_left}
use Rattle.std.proofs.lemmas.Bool.Decides.{same_from_decides}
use Rattle.environment.specs.System.{System, Sound, empty}
use Rattle.environment.proofs.Systems.{same_system}
use Rattle.sets.specs.Mask.{has}
use Rattle.sets.proofs.Bits.{same_set}
use Rattle.modelsheet.specs.Says.{Says}
use Rattle.modelsheet.specs.Sheet.{states_of, actions_of}

module _ (b : List ℕ) (x y : System) (p : Sound x) (q : Sound y) (h : Says b x) (k : Says b y) where
  seen : (s : ℕ) → x.observation s ≡ y.observation s
  seen s = elim (cases_lt s (states_of b)) [
    | inl l ↦ h.sees s l ∙ sym (k.sees s l)
    | inr g ↦ p.observation_out s (omega (arith, h.states_are)) ∙ sym (q.observation_out s (omega (arith, k.states_are)))
  ]

  led : (s a : ℕ) → x.outcomes s a ≡ y.outcomes s a
  led s a = elim (cases_lt s (states_of b)) [
    | inl l ↦ elim (cases_lt a (actions_of b)) [
      | inl m ↦
          same_set (x.outcomes s a) (y.outcomes s a)
          (λ t. same_from_decides (has (x.outcomes s a) t) (has (y.outcomes s a) t) (h.leads_to s a t l m) (k.leads_to s a t l m))
      | inr n ↦ p.no_such_action s a (omega (arith, h.actions_are)) ∙ sym (q.no_such_action s a (omega (arith, k.actions_are)))
    ]
    | inr g ↦ p.no_such_state s a (omega (arith, h.states_are)) ∙ sym (q.no_such_state s a (omega (arith, k.states_are)))
  ]

  pub one_system : x ≡ y
  one_system =
      same_system x y (h.actions_are ∙ sym k.actions_are) (h.observations_are ∙ sym k.observations_are) (h.states_are ∙ sym k.states_are)
      (h.initial_is ∙ sym k.initial_is) (h.goal_is ∙ sym k.goal_is) seen led

-- what the system of a model without states, actions and observations is, whatever stands in its arrays
pub empty_system : (seen leads : List ℕ) → ◌≡◌ {A = System} (record {
  actions = 0;
  observations = 0;
  states = 0;
  initial = 0;
  goal = 0;
  observation = λ s. cond (ltb s 0) (get_or seen s 0) 0;
  outcomes = λ s a. cond (ltb s 0 && ltb a 0) (get_or leads (s * 0 + a) 0) 0;
}) empty
empty_system seen leads =
    same_system _ empty refl refl refl refl refl (λ s. cond-false (ltb s 0) _ 0 (le-ltb s 0 (omega arith)))
    (λ s a. cond-false (ltb s 0 && ltb a 0) _ 0 (and_left (ltb s 0) (ltb a 0) (le-ltb s 0 (omega arith))))
