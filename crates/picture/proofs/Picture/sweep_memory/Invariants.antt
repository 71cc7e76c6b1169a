use Rattle.std.proofs.Common.{◌≡◌, ℕ, ◌<◌, true, false}
use Rattle.sets.specs.Mask.{has}
use Rattle.configurations.specs.Holds.{holds, weight}
use Rattle.picture.specs.Settling.{Waits, Swept}
use Rattle.picture.proofs.Picture.sweep_memory.Given as goal

-- what is left was not looked at yet, and waits; as long as nothing was taken out, what was looked at has to wait
abbrev pub invariant-loop-state : goal.invariant-loop-state
invariant-loop-state l =
    ((s : ℕ) → has l.state-iterator s ≡ true → holds l.waiting.states l.memory s ≡ true)
    × Swept l.quorum l.self l.initial.waiting.states l.waiting.states
    × (l.more ≡ true → weight l.waiting.states < weight l.initial.waiting.states)
    × (l.more ≡ false → l.waiting ≡ l.initial.waiting)
    × (l.more ≡ false → (s : ℕ) → holds l.initial.waiting.states l.memory s ≡ true → has l.state-iterator s ≡ false → Waits l.quorum l.self l.initial.waiting.states l.memory s)
