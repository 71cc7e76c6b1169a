use Rattle.std.proofs.Common.{◌≡◌, ℕ, ◌+◌, ◌-◌, ◌≤◌, min, ltb, sym, ◌∙◌, inl, inr, arith}
use Rattle.std.proofs.lemmas.Bool.{cases_lt, lt-ltb, le-ltb}
use Rattle.sets.proofs.Bits.{has_none}
use Rattle.sets.proofs.Shifts.{has_all, has_down}
use Rattle.sets.proofs.StateSet.below.Goals as goal
use Rattle.sets.proofs.StateSet.below.Goals.{then-count-eq0, else-count-eq0}

-- what is left of 64 states after a shift
left : (n t : ℕ) → n ≤ 64 → ltb (64 - n + t) 64 ≡ ltb t n
left n t h = elim (cases_lt t n) [
  | inl l ↦ lt-ltb (64 - n + t) 64 (omega arith) ∙ sym (lt-ltb t n l)
  | inr g ↦ le-ltb (64 - n + t) 64 (omega arith) ∙ sym (le-ltb t n g)
]

pub returns : goal.returns
returns c = λ t. elim c.if-count-eq0.branch [
  | then-count-eq0 w ↦ rw (w.result-is, w.if-count-eq0.true) (has_none t ∙ sym (le-ltb t 0 (omega arith)))
  | else-count-eq0 w ↦
      let n = min c.args.count 64 in
      rw (w.result-is, w.min.ensures) (has_down 18446744073709551615 (64 - n) t ∙ has_all 64 (64 - n + t) ∙ left n t (omega arith))
]
