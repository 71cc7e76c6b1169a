-- Where the moves of a shuttle lead.
-- Lemmas alone, which the proof of a law rests on; no contract speaks of them.
use Rattle.std.specs.Prelude.{◌≡◌, ℕ, ◌+◌, ◌*◌, ◌^◌, ◌<◌, ◌≤◌, true, false, cond, MatchBool, ◌==◌, nat_le, nat_lt, refl}
use Rattle.std.proofs.Common.{sym, ap, ◌∙◌, inl, inr, arith, lit≤, lit<}
use Rattle.std.proofs.lemmas.Nat.{pow_pos, pow_below}
use Rattle.std.proofs.lemmas.Bool.{cases_Bool, both_ways, cond_both, cond-true, cond-false, eqb-true, eq-eqb, leb-true, lt-ltb, le-ltb, and_parts, and_from, and_left}
use Rattle.std.proofs.lemmas.Bool.Decides.{nat_tests}
use Rattle.sets.specs.Mask.{has, set_of, only}
use Rattle.sets.proofs.Bits.{has_none}
use Rattle.sets.proofs.Chosen.{chosen-lt, has_chosen, none_chosen, one_chosen}
use Rattle.environment.specs.System.{Sound, empty}
use Rattle.environment.proofs.Systems.{empty_sound}
use Rattle.shuttle.specs.Shuttles.{place_of, bit_of, is_far_end, is_step, arrival_at, comes_to, sight_of, line, is_row, is_state, shuttle, KeepsBit}

-- an action leads to one place at most
one_step : (a p q r : ℕ) → is_step a p q ≡ true → is_step a p r ≡ true → q ≡ r
one_step a p q r h k = grind (arith, nat_tests)

bit-lt : (s : ℕ) → bit_of s < 2
bit-lt s = omega arith

-- the bit on arrival
bit_then : (n p f : ℕ) → f < 2 → cond (is_far_end n p) 1 f < 2
bit_then n p f h = cond_both (is_far_end n p) 1 f (λ x. x < 2) (λ _. lit< tt) (λ _. h)

place_then : (n p f : ℕ) → f < 2 → place_of (arrival_at n p f) ≡ p
place_then n p f h = let b = bit_then n p f h in omega arith

arrival-lt : (n p f : ℕ) → f < 2 → p < n → arrival_at n p f < 2 * n
arrival-lt n p f h l = let b = bit_then n p f h in omega arith

-- no state of a shuttle that runs is past what a set can hold
pub arrival_few : (n p f r : ℕ) → is_row n ≡ true → f < 2 → p < n → r ≡ arrival_at n p f → r < 64
arrival_few n p f r row h l e = let k = leb-true n 32 (and_parts (nat_le 2 n) (nat_le n 32) row).1 in let q = arrival-lt n p f h l in omega arith

pub arrival_in : (n s p : ℕ) → is_state n s ≡ true → p < n → arrival_at n p (bit_of s) < 64
arrival_in n s p here l = arrival_few n p (bit_of s) _ (and_parts (is_row n) (nat_lt s (2 * n)) here).0 (bit-lt s) l refl

-- the bit as a truth value
pub bit_back : (s : ℕ) → cond (bit_of s == 1) 1 0 ≡ bit_of s
bit_back s = let h = bit-lt s in grind (arith, nat_tests)

module _ (n a s : ℕ) where
  pub moved : (q : ℕ) → q < n → is_step a (place_of s) q ≡ true → set_of (2 * n) (comes_to n a s) ≡ only (arrival_at n q (bit_of s))
  moved q l step = one_chosen (2 * n) (arrival_at n q (bit_of s)) (comes_to n a s) (arrival-lt n q (bit_of s) (bit-lt s) l) here other
    where
      e : place_of (arrival_at n q (bit_of s)) ≡ q
      e = place_then n q (bit_of s) (bit-lt s)

      here : comes_to n a s (arrival_at n q (bit_of s)) ≡ true
      here =
          and_from _ _ (ap (is_step a (place_of s)) e ∙ step)
          (eq-eqb (arrival_at n q (bit_of s)) _ (ap (λ (p : ℕ). arrival_at n p (bit_of s)) (sym e)))

      other : (t : ℕ) → t < 2 * n → comes_to n a s t ≡ true → t ≡ arrival_at n q (bit_of s)
      other t k h =
          let p = and_parts (is_step a (place_of s) (place_of t)) _ h in
          eqb-true t _ p.1 ∙ ap (λ (r : ℕ). arrival_at n r (bit_of s)) (one_step a (place_of s) (place_of t) q p.0 step)

  pub unmoved : ((q : ℕ) → q < n → is_step a (place_of s) q ≡ false) → set_of (2 * n) (comes_to n a s) ≡ 0
  unmoved none = none_chosen (2 * n) (comes_to n a s) (λ t k. and_left _ _ (none (place_of t) (omega arith)))

  -- the outcomes from a state of a shuttle
  pub leads : is_state n s ≡ true → (shuttle n).outcomes s a ≡ set_of (2 * n) (comes_to n a s)
  leads here = let h = and_parts (is_row n) (nat_lt s (2 * n)) here in rw h.0 (cond-true (nat_lt s (2 * n)) _ 0 h.1)

sight-lt : (n p : ℕ) → sight_of n p < 3
sight-lt n p = cond_both (p == 0) 0 _ (λ x. x < 3) (λ _. lit< tt) (λ _. cond_both (is_far_end n p) 2 1 (λ x. x < 3) (λ _. lit< tt) (λ _. lit< tt))

line_sound : (n : ℕ) → 2 ≤ n → n ≤ 32 → Sound (line n)
line_sound n some few = record {
  few_actions = lit≤ tt;
  few_observations = lit≤ tt;
  few_states = omega arith;
  initial_in = pow_below 0 (2 * n) (omega arith);
  goal_in = pow_below 1 (2 * n) (omega arith);
  outcomes_in = λ s a. cond_both (nat_lt s (2 * n)) _ 0 (λ x. x < 2 ^ (2 * n)) (λ _. chosen-lt (2 * n) (comes_to n a s)) (λ _. pow_pos (2 * n));
  observation_in = λ s h. rw (lt-ltb s (2 * n) h) (sight-lt n (place_of s));
  observation_out = λ s h. cond-false (nat_lt s (2 * n)) _ 0 (le-ltb s (2 * n) h);
  no_such_state = λ s a h. cond-false (nat_lt s (2 * n)) _ 0 (le-ltb s (2 * n) h);
  no_such_action = λ s a h. cond_both (nat_lt s (2 * n)) _ 0 (λ x. x ≡ 0) (λ _. unmoved n a s (λ q l. grind (arith, nat_tests))) (λ _. refl);
}

pub shuttle_sound : (n : ℕ) → Sound (shuttle n)
shuttle_sound n =
    cond_both (is_row n) (line n) empty Sound
    (λ e. let h = and_parts (nat_le 2 n) (nat_le n 32) e in line_sound n (leb-true 2 n h.0) (leb-true n 32 h.1))
    (λ _. empty_sound)

-- the bit of the state in which it arrives
bit_kept : (n f t : ℕ) → f < 2 → t ≡ arrival_at n (place_of t) f → MatchBool (is_far_end n (place_of t)) (bit_of t ≡ 1) (bit_of t ≡ f)
bit_kept n f t h e = elim (cases_Bool (is_far_end n (place_of t))) [
  | inl far ↦ rw far (let g : t ≡ 2 * place_of t + 1 = e ∙ ap (λ x. 2 * place_of t + x) (cond-true (is_far_end n (place_of t)) 1 f far) in omega arith)
  | inr near ↦ rw near (let g : t ≡ 2 * place_of t + f = e ∙ ap (λ x. 2 * place_of t + x) (cond-false (is_far_end n (place_of t)) 1 f near) in omega arith)
]

pub keeps_bit : (n s a : ℕ) → KeepsBit n s ((shuttle n).outcomes s a)
keeps_bit n s a = cond_both (is_row n) (line n) empty (λ x. KeepsBit n s (x.outcomes s a)) (λ _. on_line) (λ _. nowhere)
  where
    nowhere : KeepsBit n s 0
    nowhere t h = absurd (both_ways (has 0 t) (has_none t) h)

    on_line : KeepsBit n s ((line n).outcomes s a)
    on_line =
        cond_both (nat_lt s (2 * n)) (set_of (2 * n) (comes_to n a s)) 0 (KeepsBit n s)
        (λ _ t h. let p = and_parts (nat_lt t (2 * n)) (comes_to n a s t) (sym (has_chosen (2 * n) (comes_to n a s) t) ∙ h) in
        bit_kept n (bit_of s) t (bit-lt s) (eqb-true t (arrival_at n (place_of t) (bit_of s)) (and_parts (is_step a (place_of s) (place_of t)) (t == arrival_at n (place_of t) (bit_of s)) p.1).1))
        (λ _. nowhere)
