use Rattle.std.proofs.Common.{◌≡◌, ◌*◌}
use Rattle.case.specs.declared.case.Phase.TheVariants.{Searching}
use Rattle.planner.specs.Verdicts.{Sized}
use Rattle.planner.proofs.search.Given as goal

abbrev pub invariant-advances : goal.invariant-advances
invariant-advances g l =
    (l.case.phase ≡ Searching) × (l.judged ≡ l.counter * 1000000)
    × Sized l.initial.case.walk.table.memories l.initial.case.walk.table.actions l.initial.case.walk.table.observations l.case.walk.table
