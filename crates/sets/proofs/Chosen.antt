-- Laws of a set that is given by a test: what is in it, that it is bounded, and when it is the empty set, a single state or another set.
use Rattle.std.proofs.Common.{◌≡◌, ℕ, zero, suc, ◌+◌, ◌^◌, ◌<◌, Bool, true, false, ◌&&◌, ◌||◌, eqb, ltb, sym, ap, ◌∙◌, ap₂, inl, inr, pow-suc, zero-add, arith}
use lib.Bits.{bit_or, or_shifted_r}
use Rattle.std.proofs.lemmas.Nat.{pow_pos}
use Rattle.std.proofs.lemmas.Bool.{cases_Bool, cases_eq, cases_lt, cases_order, cond_both, cond-true, cond-false, eq-eqb, ne_eqb, le-ltb, lt-ltb, and_left, and_right, and_from}
use Rattle.std.proofs.lemmas.Bool.Decides.{nat_tests}
use Rattle.sets.specs.Mask.{has, set_of, only}
use Rattle.sets.proofs.Bits.{has_union, has_one, has_none, has_above, same_set}

pub chosen-lt : (n : ℕ) (p : ℕ → Bool) → set_of n p < 2 ^ n
unfolding set_of
chosen-lt zero p = pow_pos 0
chosen-lt (suc n) p =
    cond_both (p n) (2 ^ n) 0 (λ x. x + set_of n p < 2 ^ suc n) (λ _. let h = chosen-lt n p in omega (arith, pow-suc 2 n)) (λ _. let h = chosen-lt n p in omega (arith, pow-suc 2 n))

takes : (n : ℕ) (p : ℕ → Bool) → p n ≡ true → set_of (suc n) p ≡ bit_or (set_of n p) (2 ^ n)
unfolding set_of
takes n p e =
    sym (ap (bit_or (set_of n p)) (omega arith) ∙ or_shifted_r 1 n (set_of n p) (chosen-lt n p)
    ∙ ap (λ x. x + set_of n p) (omega arith ∙ sym (cond-true (p n) (2 ^ n) 0 e)))

keeps : (n : ℕ) (p : ℕ → Bool) → p n ≡ false → set_of (suc n) p ≡ set_of n p
unfolding set_of
keeps n p e = rw (cond-false (p n) (2 ^ n) 0 e) (zero-add (set_of n p))

pub has_chosen : (n : ℕ) (p : ℕ → Bool) (t : ℕ) → has (set_of n p) t ≡ (ltb t n && p t)
unfolding set_of
has_chosen zero p t = has_none t ∙ sym (ap (λ b. b && p t) (le-ltb t 0 (omega arith)))
has_chosen (suc n) p t = elim (cases_Bool (p n)) [
  | inl e ↦ ap (λ m. has m t) (takes n p e) ∙ has_union (set_of n p) (2 ^ n) t ∙ ap₂ ◌||◌ (has_chosen n p t) (has_one n t) ∙ in-case e
  | inr e ↦ ap (λ m. has m t) (keeps n p e) ∙ has_chosen n p t ∙ out_case e
]
  where
    in-case : p n ≡ true → ((ltb t n && p t) || eqb n t) ≡ (ltb t (suc n) && p t)
    in-case e = elim (cases_order t n) [ inl f ↦ let h = ap p f in grind (arith, nat_tests) | inr f ↦ grind (arith, nat_tests) ]

    out_case : p n ≡ false → (ltb t n && p t) ≡ (ltb t (suc n) && p t)
    out_case e = elim (cases_order t n) [ inl f ↦ let h = ap p f in grind (arith, nat_tests) | inr f ↦ grind (arith, nat_tests) ]

-- a set whose states are those that pass the test
pub is_chosen : (a n : ℕ) (p : ℕ → Bool) → ((t : ℕ) → has a t ≡ (ltb t n && p t)) → a ≡ set_of n p
is_chosen a n p h = same_set a (set_of n p) (λ t. h t ∙ sym (has_chosen n p t))

-- nothing passes the test
pub none_chosen : (n : ℕ) (p : ℕ → Bool) → ((t : ℕ) → t < n → p t ≡ false) → set_of n p ≡ 0
none_chosen n p h = same_set (set_of n p) 0 (λ t. has_chosen n p t ∙ out t ∙ sym (has_none t))
  where
    out : (t : ℕ) → (ltb t n && p t) ≡ false
    out t = elim (cases_lt t n) [ inl l ↦ and_right (ltb t n) (p t) (h t l) | inr g ↦ and_left (ltb t n) (p t) (le-ltb t n g) ]

-- one state passes the test, and no other does
pub one_chosen : (n s : ℕ) (p : ℕ → Bool) → s < n → p s ≡ true → ((t : ℕ) → t < n → p t ≡ true → t ≡ s) → set_of n p ≡ only s
one_chosen n s p l here other = same_set (set_of n p) (only s) (λ t. has_chosen n p t ∙ by t ∙ sym (has_one s t))
  where
    by : (t : ℕ) → (ltb t n && p t) ≡ eqb s t
    by t = elim (cases_eq t s) [
      | inl e ↦ ap (λ x. ltb x n && p x) e ∙ and_from (ltb s n) (p s) (lt-ltb s n l) here ∙ sym (eq-eqb s t (sym e))
      | inr ne ↦ elim (cases_lt t n) [
        | inl k ↦ elim (cases_Bool (p t)) [
          | inl y ↦ absurd (ne (other t k y))
          | inr z ↦ and_right (ltb t n) (p t) z ∙ sym (ne_eqb s t (λ e. ne (sym e)))
        ]
        | inr g ↦ and_left (ltb t n) (p t) (le-ltb t n g) ∙ sym (ne_eqb s t (λ e. ne (sym e)))
      ]
    ]

-- a set of states below n is the one that its own membership gives
pub within_chosen : (a n t : ℕ) → a < 2 ^ n → has a t ≡ (ltb t n && has a t)
within_chosen a n t h = elim (cases_lt t n) [
  | inl l ↦ sym (ap (λ b. b && has a t) (lt-ltb t n l))
  | inr g ↦ has_above a n t h g ∙ sym (and_left (ltb t n) (has a t) (le-ltb t n g))
]

pub chosen_within : (a n : ℕ) → ((t : ℕ) → has a t ≡ (ltb t n && has a t)) → a < 2 ^ n
chosen_within a n h = rw (is_chosen a n (has a) h) (chosen-lt n (has a))
