-- The laws of bits: what is in a union, an intersection, a complement and a single state, and that two sets with the same states are one.
use Rattle.std.proofs.Common.{◌≡◌, ℕ, zero, suc, ◌+◌, ◌-◌, ◌/◌, ◌%◌, ◌^◌, ◌<◌, ◌≤◌, min, max, true, false, not, ◌&&◌, ◌||◌, eqb, ◌⊎◌, sym, refl, ap, ◌∙◌, subst, inl, inr, ⊎_elim, mul_comm, pow-suc, arith, pow_mono}
use native.Mathlib.Nat.{div-eq_of_lt, mul-mod_left, div-div-eq-div-mul}
use lib.Arith.{bin_ind}
use lib.Bits.{bit_and, bit_or, and_shr, or_shr, and_step, or_step, and_mask}
use Rattle.std.proofs.lemmas.Bool.{eq-eqb, ne_eqb, cases_lt, cases_order, both_ways}
use Rattle.std.proofs.lemmas.Bool.Decides.{nat_tests}
use Rattle.std.proofs.lemmas.Nat.{pow_pos, pow_below, pow-add, shl-shr, mod_below}
use Rattle.sets.specs.Mask.{has}

bit : (n : ℕ) → n % 2 < 2
bit n = mod_below n 2 (omega arith)

two_cases : (x : ℕ) → x < 2 → (x ≡ 0) ⊎ (x ≡ 1)
two_cases x h = ⊎_elim (λ e. inl (omega arith)) (λ e. inr (omega arith)) (cases_lt x 1)

or_low : (a b : ℕ) → bit_or a b % 2 ≡ max (a % 2) (b % 2)
or_low a b = let h = bit a in let k = bit b in omega (arith, or_step a b)

and_low : (a b : ℕ) → bit_and a b % 2 ≡ min (a % 2) (b % 2)
and_low a b = let h = bit a in let k = bit b in omega (arith, and_step a b)

max_bit : (x y : ℕ) → (x ≡ 0) ⊎ (x ≡ 1) → (y ≡ 0) ⊎ (y ≡ 1) → eqb (max x y) 1 ≡ (eqb x 1 || eqb y 1)
max_bit x y (inl e) (inl f) = rw (e, f)
max_bit x y (inl e) (inr f) = rw (e, f)
max_bit x y (inr e) (inl f) = rw (e, f)
max_bit x y (inr e) (inr f) = rw (e, f)

min_bit : (x y : ℕ) → (x ≡ 0) ⊎ (x ≡ 1) → (y ≡ 0) ⊎ (y ≡ 1) → eqb (min x y) 1 ≡ (eqb x 1 && eqb y 1)
min_bit x y (inl e) (inl f) = rw (e, f)
min_bit x y (inl e) (inr f) = rw (e, f)
min_bit x y (inr e) (inl f) = rw (e, f)
min_bit x y (inr e) (inr f) = rw (e, f)

pub has_union : (a b t : ℕ) → has (bit_or a b) t ≡ (has a t || has b t)
unfolding has
has_union a b t =
    ap (λ x. eqb (x % 2) 1) (or_shr a b t) ∙ ap (λ x. eqb x 1) (or_low (a / 2 ^ t) (b / 2 ^ t))
    ∙ max_bit _ _ (two_cases _ (bit (a / 2 ^ t))) (two_cases _ (bit (b / 2 ^ t)))

pub has_intersection : (a b t : ℕ) → has (bit_and a b) t ≡ (has a t && has b t)
unfolding has
has_intersection a b t =
    ap (λ x. eqb (x % 2) 1) (and_shr a b t) ∙ ap (λ x. eqb x 1) (and_low (a / 2 ^ t) (b / 2 ^ t))
    ∙ min_bit _ _ (two_cases _ (bit (a / 2 ^ t))) (two_cases _ (bit (b / 2 ^ t)))

-- nothing stands above the length
pub has_above : (m n t : ℕ) → m < 2 ^ n → n ≤ t → has m t ≡ false
unfolding has
has_above m n t h k = let p : 2 ^ n ≤ 2 ^ t = pow_mono k in let e : m / 2 ^ t ≡ 0 = div-eq_of_lt (omega arith) in ap (λ x. eqb (x % 2) 1) e

pub has_in : (m n t : ℕ) → m < 2 ^ n → has m t ≡ true → t < n
has_in m n t h k = ⊎_elim (λ l. l) (λ g. absurd (both_ways (has m t) (has_above m n t h g) k)) (cases_lt t n)

pub has_none : (t : ℕ) → has 0 t ≡ false
has_none t = has_above 0 0 t (pow_pos 0) (omega arith)

pub has-suc : (m t : ℕ) → has m (suc t) ≡ has (m / 2) t
unfolding has
has-suc m t = ap (λ x. eqb (x % 2) 1) (ap (λ x. m / x) (pow-suc 2 t ∙ mul_comm (2 ^ t) 2) ∙ sym (div-div-eq-div-mul m 2 (2 ^ t)))

pub has_self : (s : ℕ) → has (2 ^ s) s ≡ true
unfolding has
has_self s = ap (λ x. eqb (x % 2) 1) (ap (λ x. x / 2 ^ s) (omega arith) ∙ shl-shr 1 s)

has_low : (d t : ℕ) → has (2 ^ (suc d + t)) t ≡ false
unfolding has
has_low d t =
    ap (λ x. eqb (x % 2) 1) (ap (λ x. x / 2 ^ t) (pow-add 2 (suc d) t) ∙ shl-shr (2 ^ suc d) t)
    ∙ ap (λ x. eqb (x % 2) 1) (pow-suc 2 d) ∙ ap (λ x. eqb x 1) (mul-mod_left (2 ^ d) 2)

pub has_one : (s t : ℕ) → has (2 ^ s) t ≡ eqb s t
has_one s t =
    ⊎_elim (λ e. subst (λ x. has (2 ^ s) x ≡ eqb s x) e (has_self s ∙ sym (eq-eqb s s refl)))
    (⊎_elim (λ l. has_above (2 ^ s) (suc s) t (pow_below s (suc s) (omega arith)) (omega arith) ∙ sym (ne_eqb s t (λ e. omega arith)))
    (λ g. let e : suc (s - suc t) + t ≡ s = omega arith in subst (λ x. has (2 ^ x) t ≡ false) e (has_low (s - suc t) t) ∙ sym (ne_eqb s t (λ f. omega arith))))
    (cases_order s t)

-- two sets with the same members are one number
digit_same : (x y : ℕ) → (x ≡ 0) ⊎ (x ≡ 1) → (y ≡ 0) ⊎ (y ≡ 1) → eqb x 1 ≡ eqb y 1 → x ≡ y
digit_same x y h k e = grind (arith, nat_tests)

has-zero : (m : ℕ) → has m 0 ≡ eqb (m % 2) 1
unfolding has
has-zero m = ap (λ x. eqb (x % 2) 1) (omega arith)

pub same_set : (a b : ℕ) → ((t : ℕ) → has a t ≡ has b t) → a ≡ b
same_set a =
    bin_ind (λ n. (b : ℕ) → ((t : ℕ) → has n t ≡ has b t) → n ≡ b)
    (λ b e. bin_ind (λ n. ((t : ℕ) → has 0 t ≡ has n t) → 0 ≡ n) (λ _. refl) (λ n ih f. step 0 n (ih (λ t. f' n f t)) (f 0)) b e)
    (λ n ih b e. step n b (ih (b / 2) (λ t. sym (has-suc n t) ∙ e (suc t) ∙ has-suc b t)) (e 0)) a
  where
    step : (n m : ℕ) → n / 2 ≡ m / 2 → has n 0 ≡ has m 0 → n ≡ m
    step n m h e =
        let d = digit_same (n % 2) (m % 2) (two_cases _ (bit n)) (two_cases _ (bit m)) (sym (has-zero n) ∙ e ∙ has-zero m) in
        omega arith

    f' : (n : ℕ) → ((t : ℕ) → has 0 t ≡ has n t) → (t : ℕ) → has 0 t ≡ has (n / 2) t
    f' n f t = has_none t ∙ sym (has_none (suc t)) ∙ f (suc t) ∙ has-suc n t

-- ---- the forms that code has
pub bit_test : (m t : ℕ) → eqb (bit_and (m / 2 ^ t) 1) 1 ≡ has m t
unfolding has
bit_test m t = ap (λ x. eqb x 1) (and_mask (m / 2 ^ t) 1)

low_other : (k m : ℕ) → m < 2 ^ suc k → (2 ^ suc k - 1 - m) % 2 ≡ 1 - m % 2
low_other k m h = let b = bit m in omega (arith, pow-suc 2 k, pow_pos k)

half_other : (k m : ℕ) → m < 2 ^ suc k → (2 ^ suc k - 1 - m) / 2 ≡ 2 ^ k - 1 - m / 2
half_other k m h = omega (arith, pow-suc 2 k, pow_pos k)

flip_bit : (x : ℕ) → (x ≡ 0) ⊎ (x ≡ 1) → eqb (1 - x) 1 ≡ not (eqb x 1)
flip_bit x (inl e) = rw e
flip_bit x (inr e) = rw e

pub has-not : (k m t : ℕ) → m < 2 ^ k → t < k → has (2 ^ k - 1 - m) t ≡ not (has m t)
has-not zero m t h l = absurd (omega arith)
has-not (suc k) m zero h l =
    has-zero _ ∙ ap (λ x. eqb x 1) (low_other k m h) ∙ flip_bit (m % 2) (two_cases _ (bit m)) ∙ ap not (sym (has-zero m))
has-not (suc k) m (suc t) h l =
    has-suc _ t ∙ ap (λ x. has x t) (half_other k m h) ∙ has-not k (m / 2) t (omega (arith, pow-suc 2 k)) (omega arith) ∙ ap not (sym (has-suc m t))
