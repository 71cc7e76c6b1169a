-- A pair is a sound system, and it is the two parts side by side.
-- Lemmas, and what only they use, which the proof of a law rests on; no contract speaks of them.
use Rattle.std.specs.Prelude.{◌≡◌, ℕ, ◌+◌, ◌-◌, ◌*◌, ◌/◌, ◌%◌, ◌^◌, ◌<◌, ◌≤◌, ◌≢◌, ◌&&◌, Some, None, Option, nat_lt, refl}
use Rattle.std.proofs.Math.Path.{sym}
use Rattle.std.proofs.Common.{ap, ap₂, subst, subst₂, ◌∙◌, inl, inr, arith, mul_comm, mul-zero, zero-mul}
use Rattle.std.proofs.lemmas.Nat.{div_below, div-mul-add, mod_below, mod-mul-add, mul-add-lt, mul-lt, pow_pos}
use Rattle.std.proofs.lemmas.Bool.{cases_Bool, cases_lt, cases_eq, cond_both, cond-true, cond-false, lt-ltb, le-ltb, ltb-true, and_parts, and_right, and_from}
use Rattle.sets.specs.Mask.{has, set_of, only}
use Rattle.sets.proofs.Bits.{has_none, has_one}
use Rattle.sets.proofs.Chosen.{chosen-lt, has_chosen, none_chosen}
use Rattle.environment.specs.System.{System, Sound, empty}
use Rattle.environment.proofs.Systems.{same_system}
use Rattle.pair.specs.declared.shape.Shape.{Shape}
use Rattle.pair.specs.declared.shape.Parts.{Parts}
use Rattle.pair.specs.declared.shape.Mover.{Mover}
use Rattle.pair.specs.declared.shape.Mover.TheVariants.{First, Second}
use Rattle.pair.specs.Numbering.{Sizes, sizes_of, counts_of, AreCounts, Small, parts_of, mover_of, sight_of, seen_in, led_from, joined, by_shape, Shaped, none}
use Rattle.pair.specs.Pairs.{product, beside, fits, SideBySide, PairOf}

-- a product that is not 0 has a second factor that is not 0
pub wide : (h w : ℕ) → (h * w ≢ 0) → 0 < w
wide h w some = elim (cases_eq w 0) [ inl e ↦ absurd (some (ap (λ (x : ℕ). h * x) e ∙ mul-zero h)) | inr ne ↦ omega arith ]

product_lt : (h w p q : ℕ) → product h w p q < 2 ^ (h * w)
unfolding product
product_lt h w p q = chosen-lt (h * w) _

-- what is in a product: row s1, place s2
product-has : (h w p q s1 s2 : ℕ) → s1 < h → s2 < w → has (product h w p q) (s1 * w + s2) ≡ (has p s1 && has q s2)
unfolding product
product-has h w p q s1 s2 k l =
    let at : s1 * w + s2 < h * w = omega (arith, mul-add-lt s1 w s2 h k l, mul_comm w h) in
    has_chosen (h * w) _ (s1 * w + s2) ∙ ap (λ b. b && (has p ((s1 * w + s2) / w) && has q ((s1 * w + s2) % w))) (lt-ltb _ _ at)
    ∙ ap₂ (λ (x y : ℕ). has p x && has q y) (div-mul-add s1 w s2 l) (mod-mul-add s1 w s2 l)

module _ (c d : Sizes) (x y : System) where
  led-lt : (m : Option Mover) (p : Option Parts) → led_from c d x y m p < 2 ^ (c.states * d.states)
  led-lt m None = pow_pos (c.states * d.states)
  led-lt None (Some p) = pow_pos (c.states * d.states)
  led-lt (Some (First a)) (Some p) = product_lt c.states d.states _ _
  led-lt (Some (Second a)) (Some p) = product_lt c.states d.states _ _

  unmoved : (p : Option Parts) → led_from c d x y None p ≡ 0
  unmoved None = refl
  unmoved (Some p) = refl

  no_state : (s : ℕ) → c.states * d.states ≤ s → parts_of c d s ≡ None
  no_state s h = cond-false (nat_lt s (c.states * d.states)) _ None (le-ltb s (c.states * d.states) h)

  no_action : (a : ℕ) → c.actions + d.actions ≤ a → mover_of c d a ≡ None
  no_action a h =
      cond-false (nat_lt a c.actions) _ _ (le-ltb a c.actions (omega arith)) ∙ cond-false (nat_lt a (c.actions + d.actions)) _ None (le-ltb a (c.actions + d.actions) h)

  sight-lt : (o1 o2 : ℕ) → 0 < c.observations * d.observations → sight_of c d o1 o2 < c.observations * d.observations
  sight-lt o1 o2 some =
      cond_both (nat_lt o1 c.observations && nat_lt o2 d.observations) (o1 * d.observations + o2) 0 (λ n. n < c.observations * d.observations)
      (λ e. let h = and_parts (nat_lt o1 c.observations) (nat_lt o2 d.observations) e in
      omega (arith, mul-add-lt o1 d.observations o2 c.observations (ltb-true _ _ h.0) (ltb-true _ _ h.1), mul_comm c.observations d.observations))
      (λ _. some)

  -- a pair by counts that keep the limits is a sound system
  pub joined_sound : c.actions + d.actions ≤ 8 → c.observations * d.observations ≤ 16 → c.states * d.states ≤ 64
      → (0 < c.states * d.states → 0 < c.observations * d.observations) → Sound (joined c d x y)
  joined_sound able narrow few seen = record {
    few_actions = able;
    few_observations = narrow;
    few_states = few;
    initial_in = product_lt c.states d.states x.initial y.initial;
    goal_in = product_lt c.states d.states x.goal y.goal;
    outcomes_in = λ s a. led-lt (mover_of c d a) (parts_of c d s);
    observation_in = λ s h. rw (lt-ltb s (c.states * d.states) h) (sight-lt _ _ (seen (omega arith)));
    observation_out = λ s h. ap (seen_in c d x y) (no_state s h);
    no_such_state = λ s a h. ap (led_from c d x y (mover_of c d a)) (no_state s h);
    no_such_action = λ s a h. ap (λ m. led_from c d x y m (parts_of c d s)) (no_action a h) ∙ unmoved (parts_of c d s);
  }

-- a pair by any shape is a sound system
pub by_shape_sound : (k : Shape) (x y : System) → Sound (by_shape k x y)
by_shape_sound k x y = joined_sound (sizes_of k.first) (sizes_of k.second) x y k.able k.narrow k.few k.seen

-- a pair of counts that are all zero is the empty environment
none_joined : (x y : System) → joined none none x y ≡ empty
unfolding product set_of
none_joined x y =
    same_system (joined none none x y) empty refl refl refl refl refl (λ s. ap (seen_in none none x y) (no_state none none x y s (omega arith)))
    (λ s a. ap (led_from none none x y (mover_of none none a)) (no_state none none x y s (omega arith)))

-- where a sound system has a state, it has an observation
pub state_seen : (x : System) → Sound x → 0 < x.states → 0 < x.observations
state_seen x law h = omega (arith, law.observation_in 0 h)

-- counts that are the system's are these
pub counts_are : (x : System) (c : Sizes) → AreCounts x c → c ≡ counts_of x
counts_are x c h = λ i. record { actions = h.actions_are i; observations = h.observations_are i; states = h.states_are i }

module _ (x y : System) (p : Sound x) (q : Sound y) where
  -- states and observations of the parts
  at : (s1 s2 : ℕ) → s1 < x.states → s2 < y.states → parts_of (counts_of x) (counts_of y) (s1 * y.states + s2) ≡ Some (record { first = s1; second = s2 })
  at s1 s2 h k =
      let lt : s1 * y.states + s2 < x.states * y.states = omega (arith, mul-add-lt s1 y.states s2 x.states h k, mul_comm y.states x.states) in
      cond-true (nat_lt (s1 * y.states + s2) (x.states * y.states)) _ None (lt-ltb _ _ lt)
      ∙ ap₂ (λ (m n : ℕ). Some (record { first = m; second = n })) (div-mul-add s1 y.states s2 k) (mod-mul-add s1 y.states s2 k)

  -- an action past the last leads nowhere
  past : (s a : ℕ) → x.actions + y.actions ≤ a → 0 ≡ product x.states y.states (only (s / y.states)) (y.outcomes (s % y.states) (a - x.actions))
  unfolding product
  past s a h =
      sym (none_chosen (x.states * y.states) _
      (λ t l. and_right (has (only (s / y.states)) (t / y.states)) _ (ap (λ (z : ℕ). has z (t % y.states)) (q.no_such_action (s % y.states) (a - x.actions) (omega arith)) ∙ has_none (t % y.states))))

  -- by the parts' own counts the pair is what it is to be
  joined_beside : joined (counts_of x) (counts_of y) x y ≡ beside x y
  joined_beside = same_system (joined (counts_of x) (counts_of y) x y) (beside x y) refl refl refl refl refl seen led
    where
      seen : (s : ℕ) → seen_in (counts_of x) (counts_of y) x y (parts_of (counts_of x) (counts_of y) s) ≡ (beside x y).observation s
      seen s = elim (cases_lt s (x.states * y.states)) [
        | inl l ↦
            let w = wide x.states y.states (λ e. omega arith) in
            rw (lt-ltb s (x.states * y.states) l)
            (cond-true (nat_lt (x.observation (s / y.states)) x.observations && nat_lt (y.observation (s % y.states)) y.observations) _ 0
            (and_from _ _ (lt-ltb _ _ (p.observation_in _ (div_below s y.states x.states w l))) (lt-ltb _ _ (q.observation_in _ (mod_below s y.states w)))))
        | inr g ↦ rw (le-ltb s (x.states * y.states) g) refl
      ]

      led : (s a : ℕ) → led_from (counts_of x) (counts_of y) x y (mover_of (counts_of x) (counts_of y) a) (parts_of (counts_of x) (counts_of y) s) ≡ (beside x y).outcomes s a
      led s a = elim (cases_lt s (x.states * y.states)) [
        | inl l ↦ rw (lt-ltb s (x.states * y.states) l) (elim (cases_lt a x.actions) [
          | inl m ↦ rw (lt-ltb a x.actions m) refl
          | inr n ↦ rw (le-ltb a x.actions n) (elim (cases_lt a (x.actions + y.actions)) [
            | inl m ↦ rw (lt-ltb a (x.actions + y.actions) m) refl
            | inr far ↦ rw (le-ltb a (x.actions + y.actions) far) (past s a far)
          ])
        ])
        | inr g ↦ rw (le-ltb s (x.states * y.states) g) refl
      ]

  by_parts : SideBySide x y (joined (counts_of x) (counts_of y) x y)
  by_parts = record {
    actions_are = refl;
    observations_are = refl;
    states_are = refl;
    begins = λ s1 s2 h k. product-has x.states y.states x.initial y.initial s1 s2 h k;
    stops = λ s1 s2 h k. product-has x.states y.states x.goal y.goal s1 s2 h k;
    sees =
        λ s1 s2 h k. ap (seen_in (counts_of x) (counts_of y) x y) (at s1 s2 h k)
        ∙ cond-true (nat_lt (x.observation s1) x.observations && nat_lt (y.observation s2) y.observations) _ 0
        (and_from _ _ (lt-ltb _ _ (p.observation_in s1 h)) (lt-ltb _ _ (q.observation_in s2 k)));
    first_moves =
        λ s1 s2 a t1 t2 h k l m n. ap (λ (z : ℕ). has z (t1 * y.states + t2)) (ap₂ (led_from (counts_of x) (counts_of y) x y) (by_first a n) (at s1 s2 h k))
        ∙ product-has x.states y.states (x.outcomes s1 a) (only s2) t1 t2 l m ∙ ap (λ b. has (x.outcomes s1 a) t1 && b) (has_one s2 t2);
    second_moves =
        λ s1 s2 a t1 t2 h k l m n. ap (λ (z : ℕ). has z (t1 * y.states + t2)) (ap₂ (led_from (counts_of x) (counts_of y) x y) (by_second a n) (at s1 s2 h k))
        ∙ product-has x.states y.states (only s1) (y.outcomes s2 a) t1 t2 l m ∙ ap (λ b. b && has (y.outcomes s2 a) t2) (has_one s1 t1);
  }
    where
      by_first : (a : ℕ) → a < x.actions → mover_of (counts_of x) (counts_of y) a ≡ Some (First a)
      by_first a h = cond-true (nat_lt a x.actions) _ _ (lt-ltb a x.actions h)

      by_second : (a : ℕ) → a < y.actions → mover_of (counts_of x) (counts_of y) (x.actions + a) ≡ Some (Second a)
      by_second a h =
          let e : x.actions + a - x.actions ≡ a = omega arith in
          cond-false (nat_lt (x.actions + a) x.actions) _ _ (le-ltb _ _ (omega arith))
          ∙ cond-true (nat_lt (x.actions + a) (x.actions + y.actions)) _ None (lt-ltb _ _ (omega arith)) ∙ ap (λ (n : ℕ). Some (Second n)) e

  pub paired_by : (f s : Sizes) → Shaped (counts_of x) (counts_of y) f s → PairOf x y (joined f s x y)
  paired_by f s shaped = elim (cases_Bool (fits x y)) [
    | inl yes-fits ↦
        let ef : f ≡ counts_of x = shaped.first_is ∙ cond-true (fits x y) _ none yes-fits in
        let es : s ≡ counts_of y = shaped.second_is ∙ cond-true (fits x y) _ none yes-fits in
        let e : joined f s x y ≡ joined (counts_of x) (counts_of y) x y = ap₂ (λ (c d : Sizes). joined c d x y) ef es in
        record { is = e ∙ joined_beside ∙ sym (cond-true (fits x y) (beside x y) empty yes-fits); parts = rw yes-fits (subst (SideBySide x y) (sym e) by_parts) }
    | inr no-fit ↦
        let ef : f ≡ none = shaped.first_is ∙ cond-false (fits x y) (counts_of x) none no-fit in
        let es : s ≡ none = shaped.second_is ∙ cond-false (fits x y) (counts_of y) none no-fit in
        let e : joined f s x y ≡ empty = ap₂ (λ (c d : Sizes). joined c d x y) ef es ∙ none_joined x y in
        record { is = e ∙ sym (cond-false (fits x y) (beside x y) empty no-fit); parts = rw no-fit e }
  ]

  pub paired : (c d f s : Sizes) → AreCounts x c → AreCounts y d → Shaped c d f s → PairOf x y (joined f s x y)
  paired c d f s m n shaped = paired_by f s (subst₂ (λ (k l : Sizes). Shaped k l f s) (counts_are x c m) (counts_are y d n) shaped)

-- the counts of a sound system
pub small : (x : System) → Sound x → Small (counts_of x)
small x law = record { few_actions = law.few_actions; few_observations = law.few_observations; few_states = law.few_states; seen = state_seen x law }

-- where both parts have a state, both have an observation
pub both_seen : (c d : Sizes) → Small c → Small d → 0 < c.states * d.states → 0 < c.observations * d.observations
both_seen c d p q some = mul-lt 0 0 c.observations d.observations (p.seen (left c.states d.states some)) (q.seen (right c.states d.states some))
  where
    left : (m n : ℕ) → 0 < m * n → 0 < m
    left m n h = elim (cases_eq m 0) [ inl e ↦ absurd (omega (arith, subst (λ (k : ℕ). 0 < k * n) e h, zero-mul n)) | inr ne ↦ omega arith ]

    right : (m n : ℕ) → 0 < m * n → 0 < n
    right m n h = left n m (subst (λ (k : ℕ). 0 < k) (mul_comm m n) h)
