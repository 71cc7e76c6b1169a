use Rattle.std.proofs.Common.{◌≡◌, ℕ, ◌≤◌, List, Ok, refl, subst, rules}
use Rattle.std.proofs.lemmas.List.{take_rest}
use Rattle.std.proofs.lemmas.Map.Keys.{le_from_is_le}
use Rattle.modelsheet.specs.Judge.{judge}
use Rattle.modelsheet.specs.Says.{Says, system_of}
use Rattle.jobfile.specs.Job.{bound_of, sheet_of}
use Rattle.jobfile.proofs.job.Job.read.Goals as goal

pub returns : goal.returns
returns c =
    let b = c.args.file.now in
    let k = c.if-not-contains.ensures.cases in
    let some : 1 ≤ bound_of b = le_from_is_le _ _ (rw c.new.ensures.start at k.0) in
    let few : bound_of b ≤ 4 = le_from_is_le _ _ (rw c.new.ensures.end at k.1) in
    let sheet : judge (sheet_of b) ≡ Ok tt = subst (λ (l : List ℕ). judge l ≡ Ok tt) (take_rest b 2) c.in_ok-model.ensures.0 in
    let says = subst (λ (l : List ℕ). Says l (system_of c.in_ok-model.model)) (take_rest b 2) c.in_ok-model.ensures.1 in (
      search rules,
      record { bound_is = refl; bound_some = some; bound_few = few; rule_is = c.in_ok-rule.ensures.1; model_says = says },
    )
