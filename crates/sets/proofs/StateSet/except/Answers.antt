use Rattle.std.proofs.Common.{ℕ, not, ◌&&◌, ap, ◌∙◌}
use Rattle.sets.specs.Mask.{has}
use Rattle.sets.proofs.Members.{has_only, has_without, has_except}
use Rattle.sets.proofs.StateSet.except.Goals as goal

pub returns : goal.returns
returns c = λ t.
    let x = c.self.inside.mask in
    rw (← c.self.view_is)
    (has_without x c.result.inside.mask t c.self.invariant c.result.invariant
    ∙ ap (λ b. has x t && not b) (ap (λ (y : ℕ). has y t) (c.result.view_is ∙ c.only.ensures) ∙ has_only c.args.state t)
    ∙ has_except x c.args.state t c.self.invariant)
