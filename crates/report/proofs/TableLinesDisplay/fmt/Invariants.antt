use Rattle.std.specs.Fmt.{HasWritten, IsPlainFormatter}
use Rattle.report.specs.Text.{each, row_lines}
use Rattle.report.proofs.TableLinesDisplay.fmt.Given as goal

-- The rows of the memories before this one have been written.
abbrev pub invariant-loop-memory : goal.invariant-loop-memory
invariant-loop-memory g l =
    IsPlainFormatter l.initial.f → HasWritten g.W.Write.write_str_gives l.initial.f (each l.memory (row_lines l.table)) l.f
