-- Laws of sets of configurations: what is in one of which a memory's set of states is exchanged, and that a set of fewer weighs less.
use Rattle.std.proofs.Common.{◌≡◌, ℕ, zero, suc, ◌*◌, ◌^◌, ◌<◌, ◌≤◌, ◌⊎◌, Bool, true, false, not, ◌&&◌, eqb, ltb, List, [], ◌∷◌, length, get_or, set, sym, refl, ap, ◌∙◌, subst, inl, inr, arith}
use lib.Bits.{bit_and, and_le_r}
use mathlib.Core.Bool.{and-true}
use Rattle.std.proofs.lemmas.Bool.{cases_Bool, cases_eq, cases_lt, both_ways, eq-eqb, ne_eqb, lt-ltb, and_left, and_right, and_from, and_parts, eqb-true, not_from_false}
use Rattle.std.proofs.lemmas.List.{get_or-set_same, get_or-set_other, get_or_past, set_past}
use Rattle.sets.specs.Mask.{has}
use Rattle.sets.proofs.Arrays.{zeros}
use Rattle.sets.proofs.Bits.{has_intersection, same_set}
use Rattle.sets.proofs.Chosen.{chosen_within}
use Rattle.sets.proofs.Members.{has_empty}
use Rattle.configurations.specs.Holds.{holds, same, Nothing, Less, weight}

-- four empty sets of states hold nothing
pub none_held : Nothing (0 ∷ 0 ∷ 0 ∷ 0 ∷ [])
none_held m s = has_empty (get_or (0 ∷ 0 ∷ 0 ∷ 0 ∷ []) m 0) s (zeros 4 m)

-- nothing is held past the last memory
pub held_past : (c : List ℕ) (m s : ℕ) → length c ≤ m → holds c m s ≡ false
held_past c m s far = has_empty (get_or c m 0) s (get_or_past c m 0 far)

-- the set of memory i is exchanged for y
module _ (c : List ℕ) (i y : ℕ) (lt : i < length c) where
  pub exchanged_here : (s : ℕ) → holds (set c i y) i s ≡ has y s
  exchanged_here s = ap (λ (x : ℕ). has x s) (get_or-set_same c i y 0 lt)

  pub exchanged_there : (m s : ℕ) → (i ≡ m → ⊥) → holds (set c i y) m s ≡ holds c m s
  exchanged_there m s ne = ap (λ (x : ℕ). has x s) (get_or-set_other c i m y 0 (λ e. ne (sym e)))

-- a set of states that is a part of another is a number at most as large, and smaller if a state is missing in it
pub part-le : (a b : ℕ) → ((t : ℕ) → has a t ≡ true → has b t ≡ true) → a ≤ b
part-le a b sub = omega (arith, and_le_r a b, same_set a (bit_and a b) (λ t. both t (has a t) refl ∙ sym (has_intersection a b t)))
  where
    both : (t : ℕ) (x : Bool) → has a t ≡ x → has a t ≡ (has a t && has b t)
    both t true e = rw (e, sub t e) refl
    both t false e = rw e refl

pub part-lt : (a b s : ℕ) → ((t : ℕ) → has a t ≡ true → has b t ≡ true) → has a s ≡ false → has b s ≡ true → a < b
part-lt a b s sub out here = elim (cases_eq a b) [
  | inl e ↦ absurd (both_ways (has a s) out (ap (λ (x : ℕ). has x s) e ∙ here))
  | inr ne ↦ omega (arith, part-le a b sub)
]

-- a set of fewer configurations weighs less
module _ (a b : List ℕ) (sub : (m s : ℕ) → holds a m s ≡ true → holds b m s ≡ true) where
  row-le : (m : ℕ) → get_or a m 0 ≤ get_or b m 0
  row-le m = part-le _ _ (sub m)

  pub weight-le : weight a ≤ weight b
  weight-le = omega (arith, row-le 0, row-le 1, row-le 2, row-le 3)

  pub weight-lt : (m s : ℕ) → m < 4 → holds a m s ≡ false → holds b m s ≡ true → weight a < weight b
  weight-lt m s lt out here = by m lt out here
    where
      row-lt : (k : ℕ) → holds a k s ≡ false → holds b k s ≡ true → get_or a k 0 < get_or b k 0
      row-lt k o h = part-lt _ _ s (sub k) o h

      by : (k : ℕ) → k < 4 → holds a k s ≡ false → holds b k s ≡ true → weight a < weight b
      by zero l o h = omega (arith, row-lt 0 o h, row-le 1, row-le 2, row-le 3)
      by (suc zero) l o h = omega (arith, row-le 0, row-lt 1 o h, row-le 2, row-le 3)
      by (suc (suc zero)) l o h = omega (arith, row-le 0, row-le 1, row-lt 2 o h, row-le 3)
      by (suc (suc (suc zero))) l o h = omega (arith, row-le 0, row-le 1, row-le 2, row-lt 3 o h)
      by (suc (suc (suc (suc k)))) l o h = absurd (omega arith)

-- a configuration is the same as itself
pub same_self : (m s : ℕ) → same m s m s ≡ true
same_self m s = and_from (eqb m m) (eqb s s) (eq-eqb m m refl) (eq-eqb s s refl)

-- what is taken out is not there any more, what is left was there before, and the set weighs less
module _ (m s : ℕ) (before after : List ℕ) (less : Less m s before after) where
  pub less_in : (n t : ℕ) → holds after n t ≡ true → holds before n t ≡ true
  less_in n t h = (and_parts (holds before n t) _ (sym (less n t) ∙ h)).0

  pub less_out : holds after m s ≡ false
  less_out = less m s ∙ ap (λ b. holds before m s && not b) (same_self m s) ∙ and_right (holds before m s) false refl

  pub less-lt : m < 4 → holds before m s ≡ true → weight after < weight before
  less-lt lt here = weight-lt after before less_in m s lt less_out here

-- where one set is within another, it still is once a configuration is taken out of both
pub less_within : (m s : ℕ) (a b c d : List ℕ) → Less m s a b → Less m s c d → ((n t : ℕ) → holds a n t ≡ true → holds c n t ≡ true) → (n t : ℕ) → holds b n t ≡ true → holds d n t ≡ true
less_within m s a b c d ab cd sub n t h = let e = and_parts (holds a n t) _ (sym (ab n t) ∙ h) in cd n t ∙ and_from (holds c n t) _ (sub n t e.0) e.1

-- what is gone was not there before, or is the one that was taken out
pub gone : (m s : ℕ) (b a : List ℕ) → Less m s b a → (n t : ℕ) → holds a n t ≡ false → (holds b n t ≡ false) ⊎ ((m ≡ n) × (s ≡ t))
gone m s b a less n t h = elim (cases_Bool (same m s n t)) [
  | inl y ↦ let e = and_parts (eqb m n) (eqb s t) y in inr (eqb-true m n e.0, eqb-true s t e.1)
  | inr z ↦ elim (cases_Bool (holds b n t)) [
    | inl y ↦ absurd (both_ways _ h (less n t ∙ and_from (holds b n t) _ y (not_from_false _ z)))
    | inr y ↦ inl y
  ]
]

-- a set of configurations within the four memories and 64 states weighs less than 4 times 2 ^ 64
pub weight_bounded : (c : List ℕ) → ((m s : ℕ) → holds c m s ≡ true → s < 64) → weight c < 4 * 2 ^ 64
weight_bounded c low = omega (arith, row 0, row 1, row 2, row 3)
  where
    row : (m : ℕ) → get_or c m 0 < 2 ^ 64
    row m = chosen_within (get_or c m 0) 64 (λ t. by t (has (get_or c m 0) t) refl)
      where
        by : (t : ℕ) (b : Bool) → has (get_or c m 0) t ≡ b → has (get_or c m 0) t ≡ (ltb t 64 && has (get_or c m 0) t)
        by t true e = rw (lt-ltb t 64 (low m t e)) refl
        by t false e = rw e (sym (and_right (ltb t 64) false refl))

-- another configuration does not go with one that is taken out
other_stays : (c : List ℕ) (m s n t : ℕ) → (m ≡ n → ⊥) → (holds c n t && not (same m s n t)) ≡ holds c n t
other_stays c m s n t ne = ap (λ b. holds c n t && not (b && eqb s t)) (ne_eqb m n ne) ∙ and-true (holds c n t)

-- the configuration (m, s) taken out of the set by its memory's set of states
pub one_less : (c : List ℕ) (m s x : ℕ) → ((t : ℕ) → has x t ≡ (has (get_or c m 0) t && not (eqb s t))) → Less m s c (set c m x)
one_less c m s x made n t = elim (cases_lt m (length c)) [
  | inl lt ↦ elim (cases_eq m n) [
    | inl e ↦
        subst (λ (k : ℕ). holds (set c m x) k t ≡ (holds c k t && not (same m s k t))) e
        (exchanged_here c m x lt t ∙ made t ∙ ap (λ b. holds c m t && not (b && eqb s t)) (sym (eq-eqb m m refl)))
    | inr ne ↦ exchanged_there c m x lt n t ne ∙ sym (other_stays c m s n t ne)
  ]
  | inr far ↦ elim (cases_eq m n) [
    | inl e ↦
        subst (λ (k : ℕ). holds (set c m x) k t ≡ (holds c k t && not (same m s k t))) e
        (ap (λ (l : List ℕ). holds l m t) (set_past c m x far) ∙ held_past c m t far ∙ sym (and_left (holds c m t) _ (held_past c m t far)))
    | inr ne ↦ ap (λ (l : List ℕ). holds l n t) (set_past c m x far) ∙ sym (other_stays c m s n t ne)
  ]
]
