-- Laws of a set with one more state, as the call `with` makes it.
use Rattle.std.proofs.Common.{◌≡◌, ℕ, ◌^◌, ◌<◌, ◌≤◌, true, ◌&&◌, ◌||◌, eqb, ltb, ◌⊎◌, sym, ap, ◌∙◌, subst, inl, inr, ⊎_elim, arith}
use lib.Bits.{bit_or}
use Rattle.std.proofs.lemmas.Nat.{or_lt, pow_below}
use Rattle.std.proofs.lemmas.Bool.{eq-eqb, eqb-true, lt-ltb, or_cases, or_left, or_right}
use Rattle.sets.specs.Mask.{has}
use Rattle.sets.proofs.Bits.{has_one, has_union, same_set}

-- what `with` promises of the set `new` that it makes of `old` and the state v
abbrev pub More : ℕ → ℕ → ℕ → Type 0
More old v new = (t : ℕ) → has new t ≡ (has old t || (ltb v 64 && eqb v t))

module _ (old n v new : ℕ) (few : n ≤ 64) (low : v < n) (made : More old v new) where
  pub more-has : (t : ℕ) → has new t ≡ (has old t || eqb v t)
  more-has t = made t ∙ ap (λ x. has old t || (x && eqb v t)) (lt-ltb v 64 (omega arith))

  pub more_in : old < 2 ^ n → new < 2 ^ n
  more_in h =
      let e : new ≡ bit_or old (2 ^ v) = same_set new (bit_or old (2 ^ v)) (λ t. more-has t ∙ ap (λ x. has old t || x) (sym (has_one v t)) ∙ sym (has_union old (2 ^ v) t)) in
      subst (λ x. x < 2 ^ n) (sym e) (or_lt n old (2 ^ v) h (pow_below v n low))

  pub more_old : (t : ℕ) → has old t ≡ true → has new t ≡ true
  more_old t h = more-has t ∙ or_left (has old t) (eqb v t) h

  pub more_new : (t : ℕ) → t ≡ v → has new t ≡ true
  more_new t e = more-has t ∙ or_right (has old t) (eqb v t) (eq-eqb v t (sym e))

  pub more_only : (t : ℕ) → has new t ≡ true → (has old t ≡ true) ⊎ (v ≡ t)
  more_only t h = ⊎_elim inl (λ e. inr (eqb-true v t e)) (or_cases (has old t) (eqb v t) (sym (more-has t) ∙ h))
