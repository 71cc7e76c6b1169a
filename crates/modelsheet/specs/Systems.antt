-- The system of a model is a sound one.
-- Lemmas alone, which the proof of a law rests on; no contract speaks of them.
use Rattle.std.specs.Prelude.{◌+◌, ◌*◌, ◌^◌, ◌<◌, ◌&&◌, nat_lt, slice_index}
use Rattle.std.proofs.lemmas.Bool.{cond_both, cond-true, cond-false, lt-ltb, le-ltb, and_left, and_right}
use Rattle.std.proofs.Common.{subst, sym}
use Rattle.std.proofs.lemmas.Nat.{pow_pos}
use Rattle.environment.specs.System.{Sound}
use Rattle.modelsheet.specs.declared.model.Model.{Model}
use Rattle.modelsheet.specs.Says.{system_of}

pub system_sound : (m : Model) → Sound (system_of m)
system_sound m = record {
  few_actions = m.able;
  few_observations = m.narrow;
  few_states = m.few;
  initial_in = m.begins;
  goal_in = m.stops;
  outcomes_in =
      λ s a. cond_both (nat_lt s m.states && nat_lt a m.actions) (slice_index m.leads (s * m.actions + a)) 0 (λ x. x < 2 ^ m.states) (λ _. m.led (s * m.actions + a)) (λ _. pow_pos m.states);
  observation_in =
      λ s h. subst (λ x. x < m.observations) (sym (cond-true (nat_lt s m.states) (slice_index m.sights s) 0 (lt-ltb s m.states h))) (m.seen s h);
  observation_out = λ s h. cond-false (nat_lt s m.states) _ _ (le-ltb s m.states h);
  no_such_state = λ s a h. cond-false (nat_lt s m.states && nat_lt a m.actions) _ _ (and_left (nat_lt s m.states) (nat_lt a m.actions) (le-ltb s m.states h));
  no_such_action = λ s a h. cond-false (nat_lt s m.states && nat_lt a m.actions) _ _ (and_right (nat_lt s m.states) (nat_lt a m.actions) (le-ltb a m.actions h));
}
