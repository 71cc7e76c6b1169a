use Rattle.std.proofs.Common.{◌≡◌}
use Rattle.case.specs.declared.case.Phase.TheVariants.{Searching}
use Rattle.case.specs.Calls.{Kept}
use Rattle.case.proofs.case.Case.advance.Given as goal

-- one table is judged in each turn
abbrev pub invariant-tables : goal.invariant-tables
invariant-tables g l = (l.judged ≡ l.counter) × (l.self.phase ≡ Searching) × Kept l.initial.self l.self
