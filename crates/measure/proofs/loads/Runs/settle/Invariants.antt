use Rattle.std.proofs.Common.{◌≡◌, ℕ, ◌<◌, ◌≤◌, true, length, get_or}
use Rattle.configurations.specs.Holds.{holds, weight}
use Rattle.measure.specs.Refused.{size}
use Rattle.measure.proofs.loads.Runs.settle.Given as goal

-- only configurations of the table wait, and the loads past theirs are as they were
abbrev pub invariant-loop-at : goal.invariant-loop-at
invariant-loop-at g l =
    (length l.loads ≡ length l.fn.loads)
    × ((m s : ℕ) → holds l.waiting.states m s ≡ true → (m < l.self.table.now.memories) × (s < (g.E.Environment.meaning l.self.environment.now).states))
    × ((k : ℕ) → size (g.E.Environment.meaning l.self.environment.now) l.self.table.now ≤ k → get_or l.loads k g.M.Measure.none ≡ get_or l.fn.loads k g.M.Measure.none)

abbrev pub decreases-loop-at : goal.decreases-loop-at
decreases-loop-at g l = weight l.waiting.states
