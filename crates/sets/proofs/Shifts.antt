-- Laws of shifted sets: every state of a set moved down or up.
use Rattle.std.proofs.Common.{◌≡◌, ℕ, suc, ◌+◌, ◌-◌, ◌*◌, ◌/◌, ◌%◌, ◌^◌, ◌<◌, false, not, ◌&&◌, eqb, ltb, leb, Option, None, Some, refl, sym, ap, ◌∙◌, inl, inr, mul_assoc, pow-suc, arith}
use native.Mathlib.Nat.{sub-zero, mul-mod_left}
use lib.Bits.{and_mask}
use Rattle.std.specs.Option.{SomeIff, unwrap_or}
use Rattle.std.proofs.Math.Bool.{and-false, and-true, and_comm}
use Rattle.std.proofs.lemmas.Nat.{pow-add, pow_pos, shl-shr, shr-shr}
use Rattle.std.proofs.lemmas.Bool.{cases_lt, le-ltb, lt-ltb, le-leb, lt-leb, and_left, and_right}
use Rattle.sets.specs.Mask.{has}
use Rattle.sets.proofs.Bits.{has_above, has_none, has_intersection, has-not}

-- all states below k
pub has_all : (k t : ℕ) → has (2 ^ k - 1) t ≡ ltb t k
has_all k t = elim (cases_lt t k) [
  | inl l ↦ ap (λ (x : ℕ). has x t) (sym (sub-zero (2 ^ k - 1))) ∙ has-not k 0 t (pow_pos k) l ∙ ap not (has_none t) ∙ sym (lt-ltb t k l)
  | inr g ↦ has_above (2 ^ k - 1) k t (omega (arith, pow_pos k)) g ∙ sym (le-ltb t k g)
]

-- down by k states
pub has_down : (x k t : ℕ) → has (x / 2 ^ k) t ≡ has x (k + t)
unfolding has
has_down x k t = ap (λ (y : ℕ). eqb (y % 2) 1) (shr-shr x k t)

-- up by k states: nothing is below k, and what was at t is at k + t
pub has_up : (y k t : ℕ) → has (y * 2 ^ k) (k + t) ≡ has y t
has_up y k t = sym (has_down (y * 2 ^ k) k t) ∙ ap (λ (x : ℕ). has x t) (shl-shr y k)

pub has_under : (y k t : ℕ) → t < k → has (y * 2 ^ k) t ≡ false
unfolding has
has_under y k t l =
    let e : suc (k - suc t) + t ≡ k = omega arith in
    let split : y * 2 ^ k ≡ y * 2 ^ (k - suc t) * 2 * 2 ^ t =
    ap (λ (n : ℕ). y * 2 ^ n) (sym e) ∙ ap (λ (n : ℕ). y * n) (pow-add 2 (suc (k - suc t)) t ∙ ap (λ (n : ℕ). n * 2 ^ t) (pow-suc 2 (k - suc t)))
    ∙ sym (mul_assoc y (2 ^ (k - suc t) * 2) (2 ^ t)) ∙ ap (λ (n : ℕ). n * 2 ^ t) (sym (mul_assoc y (2 ^ (k - suc t)) 2)) in
    ap (λ (n : ℕ). eqb (n / 2 ^ t % 2) 1) split ∙ ap (λ (n : ℕ). eqb (n % 2) 1) (shl-shr (y * 2 ^ (k - suc t) * 2) t)
    ∙ ap (λ (n : ℕ). eqb n 1) (mul-mod_left (y * 2 ^ (k - suc t)) 2)

-- the states below n alone, as a remainder leaves them
pub has_cut : (x n t : ℕ) → has (x % 2 ^ n) t ≡ (ltb t n && has x t)
has_cut x n t =
    ap (λ (y : ℕ). has y t) (sym (and_mask x n)) ∙ has_intersection x (2 ^ n - 1) t ∙ ap (λ b. has x t && b) (has_all n t) ∙ and_comm (has x t) (ltb t n)

-- what is in a set that is moved up by k states, of which those past 63 are gone
pub has_moved : (x k t : ℕ) → has ((x * 2 ^ k) % 2 ^ 64) t ≡ (ltb t 64 && leb k t && has x (t - k))
has_moved x k t = has_cut (x * 2 ^ k) 64 t ∙ elim (cases_lt t k) [
  | inl l ↦ rw (has_under x k t l, lt-leb k t l, and-false (ltb t 64)) refl
  | inr g ↦ let e : k + (t - k) ≡ t = omega arith in rw (le-leb k t g, and-true (ltb t 64), ap (has (x * 2 ^ k)) (sym e) ∙ has_up x k (t - k)) refl
]

-- the same, as `checked_shl` makes it
pub has_shl : (o : Option ℕ) (x k t : ℕ) → SomeIff o (k < 64) ((x * 2 ^ k) % 2 ^ 64) → has (unwrap_or o 0) t ≡ (ltb t 64 && leb k t && has x (t - k))
has_shl None x k t far = has_none t ∙ elim (cases_lt t 64) [
  | inl l ↦ rw (lt-leb k t (omega arith)) (sym (and_left (ltb t 64 && false) _ (and_right (ltb t 64) false refl)))
  | inr g ↦ rw (le-ltb t 64 g) refl
]
has_shl (Some y) x k t is = ap (λ (z : ℕ). has z t) is.1 ∙ has_moved x k t
