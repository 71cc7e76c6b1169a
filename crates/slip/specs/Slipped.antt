-- What holds of a slip over a system.
-- Lemmas alone, which the proof of a law rests on; no contract speaks of them.
use Rattle.std.specs.Prelude.{◌≡◌, ℕ, ◌<◌, Bool, true, false, ◌&&◌, ◌||◌, ltb, ◌==◌, ◌≢◌, nat_lt, refl}
use Rattle.std.proofs.Common.{sym, ap, ◌∙◌, inl, inr, arith}
use Rattle.std.proofs.lemmas.Bool.{cases_Bool, cases_eq, both_ways, eq-eqb, ne_eqb, eqb-true, eqb-false, lt-ltb, and_left, and_from, or_right, not-true, not-false, not_from_true, not_from_false}
use Rattle.sets.specs.Mask.{has}
use Rattle.sets.proofs.Bits.{has_none, same_set}
use Rattle.sets.proofs.More.{More, more-has}
use Rattle.sets.proofs.Chosen.{chosen-lt, has_chosen, is_chosen, none_chosen, within_chosen}
use Rattle.environment.specs.System.{System, Sound, is_legal}
use Rattle.environment.proofs.Systems.{leads_from}
use Rattle.slip.specs.Slips.{slips_to, slip, Slips, LegalAsBelow}

module _ (x : System) (law : Sound x) (s a : ℕ) where
  -- an action that is not legal leads nowhere
  pub still : x.outcomes s a ≡ 0 → (slip x).outcomes s a ≡ 0
  still e = none_chosen x.states (slips_to x s a) (λ t h. and_left (is_legal x s a) _ (not_from_true _ (eq-eqb (x.outcomes s a) 0 e)))

  -- a legal one leads to the outcomes below, and to the state itself
  moves : (o r : ℕ) → o ≡ x.outcomes s a → (o ≢ 0) → More o s r → r ≡ (slip x).outcomes s a
  moves o r e some made = is_chosen r x.states (slips_to x s a) by
    where
      ok : is_legal x s a ≡ true
      ok = not_from_false _ (ne_eqb (x.outcomes s a) 0 (λ z. some (e ∙ z)))

      here : s < x.states
      here = leads_from x law s a (λ z. some (e ∙ z))

      -- all of these are states of the system
      within : (t : ℕ) → (has (x.outcomes s a) t || s == t) ≡ (nat_lt t x.states && (has (x.outcomes s a) t || s == t))
      within t = elim (cases_Bool (s == t)) [
        | inl y ↦ let z : ltb t x.states ≡ true = lt-ltb t x.states (omega (arith, eqb-true s t y, here)) in rw z refl
        | inr n ↦ rw n (both (has (x.outcomes s a) t) (nat_lt t x.states) (within_chosen (x.outcomes s a) x.states t (law.outcomes_in s a)))
      ]
        where
          both : (b l : Bool) → b ≡ (l && b) → (b || false) ≡ (l && (b || false))
          both true l q = q
          both false true q = refl
          both false false q = refl

      by : (t : ℕ) → has r t ≡ (nat_lt t x.states && slips_to x s a t)
      by t =
          more-has o x.states s r law.few_states here made t ∙ ap (λ (n : ℕ). has n t || s == t) e
          ∙ within t ∙ ap (λ b. nat_lt t x.states && (b && (has (x.outcomes s a) t || s == t))) (sym ok)

  pub slips : (o r : ℕ) → o ≡ x.outcomes s a → Slips o s r → r ≡ (slip x).outcomes s a
  slips o r e made = elim (cases_eq o 0) [
    | inl z ↦ same_set r 0 (λ t. made t ∙ rw (eq-eqb o 0 z) (sym (has_none t))) ∙ sym (still (sym e ∙ z))
    | inr some ↦ moves o r e some (λ t. made t ∙ rw (ne_eqb o 0 some) refl)
  ]

pub slip_sound : (x : System) → Sound x → Sound (slip x)
slip_sound x law = record {
  few_actions = law.few_actions;
  few_observations = law.few_observations;
  few_states = law.few_states;
  initial_in = law.initial_in;
  goal_in = law.goal_in;
  outcomes_in = λ s a. chosen-lt x.states (slips_to x s a);
  observation_in = law.observation_in;
  observation_out = law.observation_out;
  no_such_state = λ s a h. still x law s a (law.no_such_state s a h);
  no_such_action = λ s a h. still x law s a (law.no_such_action s a h);
}

pub as_below : (x : System) → Sound x → LegalAsBelow x
as_below x law = record { legal = legal; stays = stays }
  where
    stays : (s a : ℕ) → has ((slip x).outcomes s a) s ≡ is_legal x s a
    stays s a = elim (cases_Bool (is_legal x s a)) [
      | inl y ↦
          has_chosen x.states (slips_to x s a) s
          ∙ and_from _ _ (lt-ltb s x.states (leads_from x law s a (eqb-false (x.outcomes s a) 0 (not-true _ y)))) (and_from _ _ y (or_right _ _ (eq-eqb s s refl)))
          ∙ sym y
      | inr n ↦ ap (λ (o : ℕ). has o s) (still x law s a (eqb-true (x.outcomes s a) 0 (not-false _ n))) ∙ has_none s ∙ sym n
    ]

    legal : (s a : ℕ) → is_legal (slip x) s a ≡ is_legal x s a
    legal s a = elim (cases_Bool (is_legal x s a)) [
      | inl y ↦
          not_from_false _ (ne_eqb ((slip x).outcomes s a) 0 (λ z. both_ways (has 0 s) (has_none s) (sym (ap (λ (o : ℕ). has o s) z) ∙ stays s a ∙ y))) ∙ sym y
      | inr n ↦ not_from_true _ (eq-eqb ((slip x).outcomes s a) 0 (still x law s a (eqb-true (x.outcomes s a) 0 (not-false _ n)))) ∙ sym n
    ]
