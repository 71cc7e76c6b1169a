-- The parts that were read make up what the sheet says.
use Rattle.std.proofs.Common.{◌≡◌, ℕ, ◌+◌, ◌*◌, ◌<◌, cond, ◌&&◌, ltb, List, get_or, Ok, Decides, sym, refl, ap, ◌∙◌, subst, arith}
use Rattle.std.proofs.lemmas.Nat.{mul-add-lt}
use Rattle.std.proofs.lemmas.Bool.{lt-ltb, and_from, cond-true}
use Rattle.environment.specs.System.{System}
use Rattle.sets.specs.Mask.{has}
use Rattle.modelsheet.specs.declared.model.sheet.Sets.{Sets}
use Rattle.modelsheet.specs.declared.model.sheet.Shape.{Shape}
use Rattle.modelsheet.specs.Judge.{judge, judge_header, judge_sets, judge_sights, judge_heads}
use Rattle.modelsheet.specs.Laid.{Laid, SetsRead, SightsRead, HeadsRead}
use Rattle.modelsheet.specs.Says.{Says}
use Rattle.modelsheet.specs.Sheet.{states_of, actions_of, head_of, OnChain}

pub judged : (b : List ℕ) → judge_header b ≡ Ok tt → judge_sets b ≡ Ok tt → judge_sights b (states_of b) 0 ≡ Ok tt → judge_heads b (states_of b * actions_of b) 0 ≡ Ok tt → judge b ≡ Ok tt
judged b p q r s = rw (p, q, r, s) refl

module _ (b : List ℕ) (x : Shape) (y : Sets) (seen leads : List ℕ) (laid : Laid b x) where
  abbrev built : System
  built = record {
    actions = x.actions;
    observations = x.observations;
    states = x.states;
    initial = y.initial;
    goal = y.goal;
    observation = λ s. cond (ltb s x.states) (get_or seen s 0) 0;
    outcomes = λ s a. cond (ltb s x.states && ltb a x.actions) (get_or leads (s * x.actions + a) 0) 0;
  }

  in-range : (s a : ℕ) → s < states_of b → a < actions_of b → built.outcomes s a ≡ get_or leads (s * actions_of b + a) 0
  in-range s a h k =
      cond-true (ltb s x.states && ltb a x.actions) (get_or leads (s * x.actions + a) 0) 0
      (and_from (ltb s x.states) (ltb a x.actions) (lt-ltb s x.states (omega (arith, laid.states_are))) (lt-ltb a x.actions (omega (arith, laid.actions_are))))
      ∙ ap (λ n. get_or leads (s * n + a) 0) laid.actions_are

  pub says : SetsRead b y → SightsRead b seen → HeadsRead b leads → Says b built
  says sets sights heads = record {
    actions_are = laid.actions_are;
    observations_are = laid.observations_are;
    states_are = laid.states_are;
    initial_is = sets.initial_is;
    goal_is = sets.goal_is;
    some_state = omega (arith, laid.states_are, laid.some_states);
    some_initial = sets.initial_some;
    sees =
        λ s h. cond-true (ltb s x.states) (get_or seen s 0) 0 (lt-ltb s x.states (omega (arith, laid.states_are)))
        ∙ sights.sights_are s h;
    leads_to =
        λ s a t h k. let place : s * actions_of b + a < states_of b * actions_of b = omega (arith, mul-add-lt s (actions_of b) a (states_of b) h k) in
        subst (λ m. Decides (has m t) (OnChain b (head_of b (s * actions_of b + a)) t)) (sym (in-range s a h k)) (heads.chains (s * actions_of b + a) place t);
  }
