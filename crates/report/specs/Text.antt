-- The text that the program prints for each verdict. Every line ends with byte 10, and every number is in decimal.
use Rattle.std.specs.Prelude.{ℕ, zero, suc, List, [], ◌∷◌, ◌++◌, Some, None, codes, decimal, Option}
use Rattle.controller.specs.declared.entry.Entry.{Entry}
use Rattle.controller.specs.declared.entry.Entry.TheVariants.{Blank, Stop, Move}
use Rattle.controller.specs.declared.table.Table.{Table}
use Rattle.controller.specs.Tables.{entry_at}
use Rattle.refusals.specs.Number.{number}
use Rattle.faults.specs.declared.Head.{Head}
use Rattle.faults.specs.declared.JobFault.{JobFault}
use Rattle.faults.specs.Place.{refusal_of, layer_of, byte_of, head_of}
use Rattle.report.specs.declared.Verdict.{Verdict}
use Rattle.report.specs.declared.Verdict.TheVariants.{Found, Exhausted, Open, Refused}

-- A word and a number, alone on a line: "found 9".
abbrev pub count_line : List ℕ → ℕ → List ℕ
count_line word n = word ++ (decimal n ++ (10 ∷ []))

-- The line of entry (m, o): "0 2 0 1" for a move with action 0 to memory 1, "1 0 stop" for stop, no line for blank.
abbrev pub entry_line : ℕ → ℕ → Entry → List ℕ
entry_line m o Blank = []
entry_line m o Stop = decimal m ++ (codes " " ++ (decimal o ++ (codes " stop" ++ (10 ∷ []))))
entry_line m o (Move a n) =
    decimal m ++ (codes " " ++ (decimal o ++ (codes " " ++ (decimal a ++ (codes " " ++ (decimal n ++ (10 ∷ [])))))))

-- The line of a table's entry (m, o).
abbrev pub entry_text : Table → ℕ → ℕ → List ℕ
entry_text t m o = entry_line m o (entry_at t m o)

-- f 0, f 1 and so on to f (n - 1), one after another.
unfoldable pub each : ℕ → (ℕ → List ℕ) → List ℕ
each zero f = []
each (suc n) f = each n f ++ f n

-- The lines of memory m, by observation; the lines of the table, by memory.
abbrev pub row_lines : Table → ℕ → List ℕ
row_lines t m = each t.observations (entry_text t m)

abbrev pub table_lines : Table → List ℕ
table_lines t = each t.memories (row_lines t)

-- The worst number of steps, "worst 2"; "worst -" where there is none.
abbrev pub worst_line : Option ℕ → List ℕ
worst_line None = codes "worst -" ++ (10 ∷ [])
worst_line (Some w) = count_line (codes "worst ") w

-- The end of a fault's line: the state and the action where the fault lies in a chain.
abbrev pub head_text : Option Head → List ℕ
head_text None = 10 ∷ []
head_text (Some h) = codes " state " ++ (decimal h.state ++ (codes " action " ++ (decimal h.action ++ (10 ∷ []))))

-- "refused 7 layer 1 byte 34 state 0 action 1"
abbrev pub fault_line : JobFault → List ℕ
fault_line f =
    codes "refused "
    ++ (decimal (number (refusal_of f))
    ++ (codes " layer " ++ (decimal (layer_of f) ++ (codes " byte " ++ (decimal (byte_of f) ++ head_text (head_of f))))))

-- The whole text of a verdict.
abbrev pub report_text : Verdict → List ℕ
report_text (Found judged table worst) = count_line (codes "found ") judged ++ (table_lines table ++ worst_line worst)
report_text (Exhausted judged) = count_line (codes "none ") judged
report_text (Open judged) = count_line (codes "open ") judged
report_text (Refused fault) = fault_line fault
