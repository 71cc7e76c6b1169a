use Rattle.std.proofs.Common.{◌≡◌, ℕ, not, ◌&&◌, ltb, length}
use Rattle.configurations.specs.Holds.{holds}
use Rattle.configurations.proofs.set.Configurations.without.Given as goal

-- without the other's configurations up to this memory, and with all from it on
abbrev pub invariant-loop-memory : goal.invariant-loop-memory
invariant-loop-memory l = (length l.left.states ≡ 4) × ((m s : ℕ) → holds l.left.states m s ≡ (holds l.self.states m s && not (ltb m l.memory && holds l.other.states m s)))
