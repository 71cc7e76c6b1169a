use Rattle.std.proofs.Common.{◌≡◌, ℕ, true, false}
use Rattle.configurations.specs.Holds.{holds, weight}
use Rattle.picture.specs.Kinds.{is_moving}
use Rattle.picture.specs.Settling.{Rests}
use Rattle.picture.proofs.Picture.rests.Given as goal

-- what waits moves, and what does not wait comes to rest
abbrev pub invariant-loop-quorum : goal.invariant-loop-quorum
invariant-loop-quorum l =
    ((m s : ℕ) → holds l.waiting.states m s ≡ true → is_moving l.self m s ≡ true) × ((m s : ℕ) → holds l.waiting.states m s ≡ false → Rests l.quorum l.self m s)

abbrev pub decreases-loop-quorum : goal.decreases-loop-quorum
decreases-loop-quorum l = weight l.waiting.states
