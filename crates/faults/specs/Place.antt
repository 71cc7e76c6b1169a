-- What each fault of a job file says: its layer, its refusal, its byte, and on a chain the state and the action.
use Rattle.std.specs.Prelude.{ℕ, Some, None, Option}
use Rattle.refusals.specs.declared.Refusal.{Refusal}
use Rattle.faults.specs.declared.Fault.{Fault}
use Rattle.faults.specs.declared.ChainFault.{ChainFault}
use Rattle.faults.specs.declared.SheetFault.{SheetFault}
use Rattle.faults.specs.declared.SheetFault.TheVariants.{Chain, Sheet}
use Rattle.faults.specs.declared.JobFault.{JobFault}
use Rattle.faults.specs.declared.JobFault.TheVariants as job
use Rattle.faults.specs.declared.Head.{Head}

-- how a fault is carried up
abbrev pub in_sheet : ChainFault → SheetFault
in_sheet f = Chain f

abbrev pub in_file : SheetFault → JobFault
in_file f = job.Sheet f

-- 1 chain, 2 sheet, 3 job file
abbrev pub layer_of : JobFault → ℕ
layer_of (job.Sheet (Chain f)) = 1
layer_of (job.Sheet (Sheet f)) = 2
layer_of (job.File f) = 3

-- what is refused, and the byte: in the file for layer 3, else in the sheet
abbrev pub fault_of : JobFault → Fault
fault_of (job.Sheet (Chain f)) = f.fault
fault_of (job.Sheet (Sheet f)) = f
fault_of (job.File f) = f

abbrev pub refusal_of : JobFault → Refusal
refusal_of f = (fault_of f).refusal

abbrev pub byte_of : JobFault → ℕ
byte_of f = (fault_of f).byte

abbrev pub head_of : JobFault → Option Head
head_of (job.Sheet (Chain f)) = Some f.head
head_of (job.Sheet (Sheet f)) = None
head_of (job.File f) = None
