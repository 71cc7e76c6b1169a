use Rattle.std.proofs.Common.{◌≡◌, List, ℕ, Ok, sym, subst}
use Rattle.modelsheet.specs.Judge.{judge_header}
use Rattle.modelsheet.proofs.Whole.{judged, says}
use Rattle.modelsheet.proofs.LaidOut.{laid_out}
use Rattle.modelsheet.proofs.model.Model.read.Goals as goal

pub returns : goal.returns
returns c =
    let b = c.in_ok-sheet.sheet in
    let h = c.in_ok-sheet.ensures in
    let p = c.in_ok-sets.ensures in
    let q = c.in_ok-sights.ensures in
    let r = c.in_ok-leads.ensures in
    let laid = laid_out c.sheet.view_is c.sheet.invariant in
    let header = subst (λ (l : List ℕ). judge_header l ≡ Ok tt) (sym h.1) h.0 in
    rw (← h.1)
    (judged b header p.0 q.0 r.0, says b c.sheet.inside.shape c.in_ok-sets.sets c.in_ok-sights.sights c.in_ok-leads.leads laid p.1 q.1 r.1)
