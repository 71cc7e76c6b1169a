use Rattle.std.proofs.Common.{Bool, length}
use Rattle.tree.specs.declared.walk.Walk.{Walk}
use Rattle.tree.specs.Trails.{places_of}
use Rattle.tree.specs.Walks.{Back}
use Rattle.tree.proofs.walk.Walk.retreat.Given as goal

-- the way back from here is the rest of the way back from the start
abbrev pub invariant-loop-at : goal.invariant-loop-at
invariant-loop-at l = (x : Walk) (r : Bool) → Back l.bars l.self x r → Back l.bars l.initial.self x r

abbrev pub decreases-loop-at : goal.decreases-loop-at
decreases-loop-at l = length (places_of l.self.trail)
