-- The checks of a job file in their order, and what an accepted one says.
use Rattle.std.specs.Prelude.{◌≡◌, ℕ, ◌≤◌, cond, List, length, drop, Ok, Err, Result, nat_lt, slice_index}
use Rattle.refusals.specs.declared.Refusal.{Refusal}
use Rattle.refusals.specs.declared.Refusal.TheVariants as refuse
use Rattle.refusals.specs.Range.{outside}
use Rattle.faults.specs.declared.JobFault.{JobFault}
use Rattle.faults.specs.declared.JobFault.TheVariants.{File}
use Rattle.faults.specs.Place.{in_file}
use Rattle.modelsheet.specs.Judge.{Judged, and_then, judge, raise}
use Rattle.modelsheet.specs.Says.{Says, system_of}
use Rattle.jobfile.specs.declared.job.Rule.{Rule}
use Rattle.jobfile.specs.declared.job.Rule.TheVariants.{Strict, Patient}
use Rattle.jobfile.specs.declared.job.Job.{Job}

-- Byte 0 is the bound on memories, byte 1 the rule; the sheet stands from byte 2 on.
abbrev pub bound_of : List ℕ → ℕ
bound_of b = slice_index b 0

abbrev pub rule_byte_of : List ℕ → ℕ
rule_byte_of b = slice_index b 1

abbrev pub sheet_of : List ℕ → List ℕ
sheet_of b = drop 2 b

-- The byte of each rule.
abbrev pub rule_byte : Rule → ℕ
rule_byte Strict = 0
rule_byte Patient = 1

-- A fault of the file itself.
abbrev pub refused : Refusal → ℕ → Result Unit JobFault
refused r at = Err (File (record { refusal = r; byte = at }))

abbrev pub judge_rule : ℕ → Result Unit JobFault
judge_rule byte = cond (nat_lt 1 byte) (refused refuse.Rule 1) (Ok tt)

-- The whole job file.
abbrev pub judge_job : List ℕ → Result Unit JobFault
judge_job b =
    cond (nat_lt (length b) 2) (refused refuse.Length (length b))
    (cond (outside 4 (bound_of b)) (refused refuse.Bound 0)
    (and_then (judge_rule (rule_byte_of b)) (λ _.
    raise in_file (judge (sheet_of b)))))

-- A rule byte is the byte of a rule, or is refused.
abbrev pub RuleRead : ℕ → Result Rule JobFault → Type 0
RuleRead byte = Judged (judge_rule byte) (λ rule. rule_byte rule ≡ byte)

-- What an accepted job file says.
pub record Asks (b : List ℕ) (j : Job) : Type 0 where
  pub bound_is : j.bound ≡ bound_of b
  pub bound_some : 1 ≤ j.bound
  pub bound_few : j.bound ≤ 4
  pub rule_is : rule_byte j.rule ≡ rule_byte_of b
  pub model_says : Says (sheet_of b) (system_of j.model)

-- A job file that passes every check is read as what it says; any other is refused by the first check that fails.
abbrev pub JobRead : List ℕ → Result Job JobFault → Type 0
JobRead b = Judged (judge_job b) (Asks b)
