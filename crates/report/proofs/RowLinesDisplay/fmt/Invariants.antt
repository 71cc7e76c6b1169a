use Rattle.std.specs.Fmt.{HasWritten, IsPlainFormatter}
use Rattle.report.specs.Text.{each, entry_text}
use Rattle.report.proofs.RowLinesDisplay.fmt.Given as goal

-- The entries of the observations before this one have been written.
abbrev pub invariant-loop-observation : goal.invariant-loop-observation
invariant-loop-observation g l =
    IsPlainFormatter l.initial.f → HasWritten g.W.Write.write_str_gives l.initial.f (each l.observation (entry_text l.table l.memory)) l.f
