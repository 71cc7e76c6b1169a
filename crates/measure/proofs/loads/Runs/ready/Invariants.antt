use Rattle.std.proofs.Common.{◌≡◌, ℕ, true}
use Rattle.sets.specs.Mask.{has}
use Rattle.configurations.specs.Holds.{holds}
use Rattle.measure.proofs.loads.Runs.ready.Given as goal

-- what is left to look at waits
abbrev pub invariant-loop-state : goal.invariant-loop-state
invariant-loop-state g l = (s : ℕ) → has l.state-iterator s ≡ true → holds l.waiting.states l.memory s ≡ true
