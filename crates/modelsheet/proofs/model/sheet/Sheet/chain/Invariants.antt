use Rattle.std.proofs.Common.{◌+◌, ◌-◌, cond, eqb}
use Rattle.modelsheet.specs.Sheet.{records_of}
use Rattle.modelsheet.proofs.Walks.{Walked}
use Rattle.modelsheet.proofs.model.sheet.Sheet.chain.Given as goal

abbrev pub invariant-records : goal.invariant-records
invariant-records l = Walked l.self l.head.state l.head.action l.first l.index l.met

abbrev pub decreases-records : goal.decreases-records
decreases-records l = cond (eqb l.index 0) 0 (records_of l.self + 1 - l.index)
