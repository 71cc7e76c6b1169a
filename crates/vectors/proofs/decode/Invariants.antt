use Rattle.std.proofs.Common.{◌+◌, ◌≤◌, length}
use Rattle.vectors.proofs.decode.Given as goal

-- for what may still come there is room
abbrev pub invariant-loop-pair : goal.invariant-loop-pair
invariant-loop-pair l = l.length + l.pair-iterator.n ≤ length l.file
