use Rattle.std.proofs.Common.{◌≡◌, ℕ, ◌&&◌, ltb}
use Rattle.configurations.specs.Holds.{holds}
use Rattle.picture.specs.Kinds.{is_moving}
use Rattle.measure.proofs.loads.Runs.moving.Given as goal

-- those of the memories up to here
abbrev pub invariant-loop-memory : goal.invariant-loop-memory
invariant-loop-memory g l =
    (m s : ℕ) → holds l.moving.states m s ≡ (is_moving l.self.picture.now m s && (ltb m l.memory && ltb s (g.E.Environment.meaning l.self.environment.now).states))
