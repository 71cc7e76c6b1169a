use Rattle.std.proofs.Common.{◌≡◌, ℕ, ◌/◌, ◌^◌, ◌<◌, ◌≤◌, inl, inr, arith, pow_mono}
use native.Mathlib.Nat.{div-eq_of_lt}
use Rattle.std.proofs.lemmas.Bool.{eqb-true, eq-eqb, le-leb, cases_lt}
use Rattle.std.proofs.lemmas.Nat.{le-div, pow_pos}
use Rattle.sets.proofs.StateSet.within.Goals as goal

-- a number of which nothing is left after a shift is below that power
shifted_away : (n k : ℕ) → n / 2 ^ k ≡ 0 → n < 2 ^ k
shifted_away n k e =
    elim (cases_lt n (2 ^ k)) [ inl p ↦ p | inr q ↦ absurd (omega (arith, le-div 1 n (2 ^ k) (pow_pos k) (omega arith))) ]

pub returns-then-count-ge64 : goal.returns-then-count-ge64
returns-then-count-ge64 c =
    let p : 2 ^ 64 ≤ 2 ^ c.args.count = pow_mono c.if-count-ge64.true in
    let fits : c.self.inside.mask < 2 ^ 64 = c.self.invariant in
    rw (← c.self.view_is) (λ _. omega arith, λ _. le-leb 64 c.args.count c.if-count-ge64.true)

pub returns-else-count-ge64 : goal.returns-else-count-ge64
returns-else-count-ge64 c =
    rw (← c.self.view_is) (λ e. shifted_away c.self.inside.mask c.args.count (eqb-true _ _ e), λ h. eq-eqb _ _ (div-eq_of_lt h))
