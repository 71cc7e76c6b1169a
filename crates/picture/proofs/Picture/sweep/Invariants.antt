use Rattle.std.proofs.Common.{◌≡◌, ℕ, ◌<◌, true, false}
use Rattle.configurations.specs.Holds.{holds, weight}
use Rattle.picture.specs.Settling.{Waits, Swept}
use Rattle.picture.proofs.Picture.sweep.Given as goal

-- as long as nothing was taken out, what waits at the memories so far has to
abbrev pub invariant-loop-memory : goal.invariant-loop-memory
invariant-loop-memory l =
    Swept l.quorum l.self l.initial.waiting.states l.waiting.states
    × (l.more ≡ true → weight l.waiting.states < weight l.initial.waiting.states)
    × (l.more ≡ false → l.waiting ≡ l.initial.waiting)
    × (l.more ≡ false → (m s : ℕ) → m < l.memory → holds l.initial.waiting.states m s ≡ true → Waits l.quorum l.self l.initial.waiting.states m s)
