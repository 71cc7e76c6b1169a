-- Laws of the ways in which code goes through a set: the smallest state of it, what is left without another set or one state, and one
-- state alone.
use Rattle.std.proofs.Common.{◌≡◌, cond, ltb, ℕ, zero, suc, ◌+◌, ◌-◌, ◌/◌, ◌%◌, ◌^◌, ◌<◌, true, false, not, ◌&&◌, ◌||◌, eqb, sym, refl, ap, ◌∙◌, subst, ap₂, inl, inr, pow-suc, div-one, arith}
use lib.Bits.{bit_and, bit_or, or_disjoint}
use lib.Count.{count_trailing_zeros, under}
use Rattle.std.proofs.lemmas.Bool.{cases_eq, cases_lt, cases_Bool, eq-eqb, ne_eqb, not_from_true, le-ltb, lt-ltb, and_left, and_right, or_right}
use Rattle.std.proofs.lemmas.Nat.{pow_pos}
use Rattle.sets.specs.Mask.{has, only, Smallest}
use Rattle.sets.proofs.Bits.{has_union, has_intersection, has_one, has_none, has_above, has-not, has-suc, has_self, same_set}

low_bit : (a : ℕ) → has a 0 ≡ eqb (a % 2) 1
unfolding has
low_bit a = ap (λ (x : ℕ). eqb (x % 2) 1) (div-one a)

half_lt : (n x : ℕ) → x < 2 ^ suc n → x / 2 < 2 ^ n
half_lt n x lt = omega (arith, pow-suc 2 n)

-- the smallest state of a set that is not empty, over any width
pub record Least (n x t : ℕ) : Type 0 where
  pub below : t < n
  pub here : has x t ≡ true
  pub before : (k : ℕ) → k < t → has x k ≡ false

pub least : (n x : ℕ) → 0 < x → x < 2 ^ n → Least n x (count_trailing_zeros n x)
unfolding count_trailing_zeros
least zero x h lt = absurd (omega arith)
least (suc n) x h lt = by_digit (λ g. least n (x / 2) g (half_lt n x lt)) (x % 2) refl
  where
    lower : (t : ℕ) → x % 2 ≡ 0 → ((k : ℕ) → k < t → has (x / 2) k ≡ false) → (k : ℕ) → k < suc t → has x k ≡ false
    lower t e b zero l = low_bit x ∙ ne_eqb _ _ (λ q. omega arith)
    lower t e b (suc k) l = has-suc x k ∙ b k (omega arith)

    by_digit : (0 < x / 2 → Least n (x / 2) (count_trailing_zeros n (x / 2))) → (d : ℕ) → x % 2 ≡ d → Least (suc n) x (under d (count_trailing_zeros n (x / 2)))
    by_digit ih zero e =
        let r = ih (omega arith) in
        record { below = omega (arith, r.below); here = has-suc x (count_trailing_zeros n (x / 2)) ∙ r.here; before = lower (count_trailing_zeros n (x / 2)) e r.before }
    by_digit ih (suc zero) e = record { below = omega arith; here = low_bit x ∙ eq-eqb _ _ e; before = λ k l. absurd (omega arith) }
    by_digit ih (suc (suc d)) e = absurd (omega arith)

pub smallest : (x : ℕ) → 0 < x → x < 2 ^ 64 → Smallest x (count_trailing_zeros 64 x)
smallest x h lt = let t = least 64 x h lt in record { below = t.below; here = t.here; before = t.before }

below_pow : (n : ℕ) → n < 2 ^ n
below_pow zero = pow_pos 0
below_pow (suc n) = let h = below_pow n in omega (arith, pow-suc 2 n)

-- a set that is not empty has a state
pub some_state : (x : ℕ) → (x ≡ 0 → ⊥) → (t : ℕ) × (has x t ≡ true)
some_state x ne = let t = least x x (omega (arith, ne)) (below_pow x) in (count_trailing_zeros x x, t.here)

-- a state that is new makes the number larger
pub or_new : (x t : ℕ) → has x t ≡ false → bit_or x (2 ^ t) ≡ x + 2 ^ t
or_new x t h = or_disjoint x (2 ^ t) (same_set (bit_and x (2 ^ t)) 0 (λ k. has_intersection x (2 ^ t) k ∙ both k ∙ sym (has_none k)))
  where
    both : (k : ℕ) → (has x k && has (2 ^ t) k) ≡ false
    both k = elim (cases_eq t k) [
      | inl e ↦ and_left _ _ (subst (λ (y : ℕ). has x y ≡ false) e h)
      | inr ne ↦ and_right (has x k) _ (has_one t k ∙ ne_eqb t k ne)
    ]

-- what is left of set a without set b
abbrev pub without : ℕ → ℕ → ℕ
without a b = bit_and a (2 ^ 64 - 1 - b)

pub has_without : (a b k : ℕ) → a < 2 ^ 64 → b < 2 ^ 64 → has (without a b) k ≡ (has a k && not (has b k))
has_without a b k ha hb = elim (cases_lt k 64) [
  | inl lt ↦ has_intersection a (2 ^ 64 - 1 - b) k ∙ ap (λ x. has a k && x) (has-not 64 b k hb lt)
  | inr ge ↦
      has_intersection a (2 ^ 64 - 1 - b) k ∙ and_left (has a k) _ (has_above a 64 k ha ge) ∙ sym (and_left (has a k) (not (has b k)) (has_above a 64 k ha ge))
]

-- an empty set has no state
pub has_empty : (x t : ℕ) → x ≡ 0 → has x t ≡ false
has_empty x t z = ap (λ (y : ℕ). has y t) z ∙ has_none t

-- what is in the set that `only` makes
pub has_only : (s t : ℕ) → has (cond (ltb s 64) (only s) 0) t ≡ (ltb s 64 && eqb s t)
has_only s t = elim (cases_lt s 64) [ inl l ↦ rw (lt-ltb s 64 l) (has_one s t) | inr g ↦ rw (le-ltb s 64 g) (has_none t) ]

-- a state past 63 is in no set, so that it does not matter whether it is taken out
pub has_except : (x s t : ℕ) → x < 2 ^ 64 → (has x t && not (ltb s 64 && eqb s t)) ≡ (has x t && not (eqb s t))
has_except x s t fit = elim (cases_lt s 64) [
  | inl l ↦ rw (lt-ltb s 64 l) refl
  | inr g ↦ elim (cases_eq s t) [
    | inl e ↦ rw (has_above x 64 t fit (omega arith)) refl
    | inr ne ↦ rw (le-ltb s 64 g, ne_eqb s t ne) refl
  ]
]

-- what is left once the state s is taken
abbrev pub Left : ℕ → ℕ → ℕ → Type 0
Left set s left = (t : ℕ) → has left t ≡ (has set t && not (eqb s t))

module _ (set s left : ℕ) (here : has set s ≡ true) (taken : Left set s left) where
  -- the number of the set falls
  pub left-lt : left < set
  left-lt = omega (arith, same_set set (bit_or left (2 ^ s)) back, or_new left s gone, pow_pos s)
    where
      gone : has left s ≡ false
      gone = taken s ∙ and_right (has set s) _ (not_from_true _ (eq-eqb s s refl))

      other : (t : ℕ) → eqb s t ≡ false → ((has set t && not (eqb s t)) || eqb s t) ≡ has set t
      other t e = elim (cases_Bool (has set t)) [ inl a ↦ rw (e, a) refl | inr a ↦ rw (e, a) refl ]

      back : (t : ℕ) → has set t ≡ has (bit_or left (2 ^ s)) t
      back t = elim (cases_eq s t) [
        | inl e ↦ subst (λ (x : ℕ). has set x ≡ has (bit_or left (2 ^ s)) x) e (here ∙ sym (has_union left (2 ^ s) s ∙ or_right (has left s) _ (has_self s)))
        | inr ne ↦ sym (has_union left (2 ^ s) t ∙ ap₂ ◌||◌ (taken t) (has_one s t) ∙ other t (ne_eqb s t ne))
      ]
