use Rattle.std.proofs.Common.{◌≡◌, ℕ, ◌<◌, false}
use Rattle.configurations.specs.Holds.{holds}
use Rattle.configurations.proofs.set.Configurations.first.Given as goal

abbrev pub invariant-loop-memory : goal.invariant-loop-memory
invariant-loop-memory l = (m s : ℕ) → m < l.memory → holds l.self.states m s ≡ false
