use Rattle.std.proofs.Common.{◌≡◌, ℕ, true}
use Rattle.sets.specs.Mask.{has}
use Rattle.measure.proofs.loads.Runs.greatest.Given as goal

-- what is left to look at is in the set
abbrev pub invariant-loop-state : goal.invariant-loop-state
invariant-loop-state g l = (t : ℕ) → has l.state-iterator t ≡ true → has l.fn.states t ≡ true
