use Rattle.std.proofs.Common.{◌*◌, ◌-◌, ◌^◌}
use Rattle.configurations.specs.Holds.{weight}
use Rattle.picture.proofs.Live.{Live}
use Rattle.picture.proofs.Picture.draw.Given as goal

abbrev pub invariant-loop-at : goal.invariant-loop-at
invariant-loop-at g l = Live (g.E.Environment.meaning l.environment) l.table l.self l.marks.states

-- each configuration more leaves fewer that are not reached
abbrev pub decreases-loop-at : goal.decreases-loop-at
decreases-loop-at g l = 4 * 2 ^ 64 - weight l.self.reached.states
