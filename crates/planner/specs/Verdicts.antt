-- Which verdict a job file gets.
use Rattle.std.specs.Prelude.{◌≡◌, ℕ, ◌≤◌, List, Ok, Err}
use Rattle.controller.specs.declared.table.Table.{Table}
use Rattle.modelsheet.specs.Sheet.{actions_of, observations_of}
use Rattle.jobfile.specs.Job.{bound_of, judge_job, sheet_of}
use Rattle.report.specs.declared.Verdict.{Verdict}
use Rattle.report.specs.declared.Verdict.TheVariants.{Found, Exhausted, Open, Refused}

-- the number of tables judged: at least one, and at most 100 advances of 1,000,000
abbrev pub Counted : ℕ → Type 0
Counted n = (1 ≤ n) × (n ≤ 100000000)

-- a table of n memories over a actions and o observations
pub record Sized (n a o : ℕ) (t : Table) : Type 0 where
  pub memories : t.memories ≡ n
  pub actions : t.actions ≡ a
  pub observations : t.observations ≡ o

-- a search that was made for tables of n memories over a actions and o observations: it is open only after all its tables
abbrev pub Searched : ℕ → ℕ → ℕ → Verdict → Type 0
Searched n a o (Found judged table worst) = Counted judged × Sized n a o table
Searched n a o (Exhausted judged) = Counted judged
Searched n a o (Open judged) = judged ≡ 100000000
Searched n a o (Refused fault) = ⊥

-- the search that an accepted job file asks for
abbrev pub SearchedFor : List ℕ → Verdict → Type 0
SearchedFor b v = (judge_job b ≡ Ok tt) × Searched (bound_of b) (actions_of (sheet_of b)) (observations_of (sheet_of b)) v

-- A file is refused by exactly the first check that fails; a search is made for any other.
abbrev pub Answered : List ℕ → Verdict → Type 0
Answered b (Found judged table worst) = SearchedFor b (Found judged table worst)
Answered b (Exhausted judged) = SearchedFor b (Exhausted judged)
Answered b (Open judged) = SearchedFor b (Open judged)
Answered b (Refused fault) = judge_job b ≡ Err fault
