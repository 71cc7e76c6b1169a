use Rattle.std.proofs.Common.{◌||◌, ap, ◌∙◌}
use Rattle.sets.specs.Mask.{has}
use Rattle.sets.proofs.Members.{has_only}
use Rattle.sets.proofs.StateSet.with.Goals as goal

pub returns-in-0-to-63 : goal.returns-in-0-to-63
returns-in-0-to-63 c = λ t. c.union.ensures t ∙ ap (λ b. has c.args.self t || b) (ap (λ x. has x t) c.only.ensures ∙ has_only c.args.state t)
