use Rattle.std.proofs.Common.{◌-◌, ◌<◌, ◌≤◌, Some, None, ◌∙◌, arith, rules, tests}
use Rattle.std.proofs.lemmas.Iterator.{IsFirst-from_position, YieldsList-from_slice}
use Rattle.modelsheet.proofs.Sights.{sights_in, sights_refused, sights_passed, sights_read}
use Rattle.modelsheet.proofs.LaidOut.{laid_out}
use Rattle.modelsheet.proofs.model.sheet.Sheet.sights.Goals as goal

pub returns-in-Some : goal.returns-in-Some
returns-in-Some c =
    let laid = laid_out c.self.view_is c.self.invariant in
    let n = c.first_head.result - 21 in
    let top = c.self.inside.shape.observations in
    let found = IsFirst-from_position _ _ (Some c.in-Some.state) (λ x. top ≤ x) (λ x. x < top) c.in-Some.ensures.ran (YieldsList-from_slice (sights_in n c.self.inside.bytes.now) cc) (λ x q k. search (rules, tests)) (λ x q k. search (rules, tests)) in
    sights_refused c.args.self.now c.self.inside.bytes.now n top c.self.view_is (omega arith) laid.observations_are (omega arith) c.in-Some.state found.0 found.1 found.2
    ∙ c.sheet_fault.ensures

pub returns : goal.returns
returns c =
    let laid = laid_out c.self.view_is c.self.invariant in
    let n = c.first_head.result - 21 in
    let top = c.self.inside.shape.observations in
    let found = IsFirst-from_position _ _ None (λ x. top ≤ x) (λ x. x < top) c.in_default.ensures.ran (YieldsList-from_slice (sights_in n c.self.inside.bytes.now) cc) (λ x q k. search (rules, tests)) (λ x q k. search (rules, tests)) in (
      sights_passed c.args.self.now c.self.inside.bytes.now n top c.self.view_is (omega arith) laid.observations_are (omega arith) found,
      sights_read c.args.self.now c.self.inside.bytes.now n top c.self.view_is (omega arith) laid.observations_are (omega arith) found c.copy_from_slice.new.self _ c.copy_from_slice.ensures.after,
    )
