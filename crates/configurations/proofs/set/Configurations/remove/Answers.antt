use Rattle.std.proofs.Common.{ℕ, not, eqb, ◌&&◌, ap, ◌∙◌}
use Rattle.sets.specs.Mask.{has}
use Rattle.configurations.proofs.Sets.{one_less}
use Rattle.configurations.proofs.set.Configurations.remove.Goals as goal

pub returns : goal.returns
returns c = rw c.set.ensures.changed (one_less _ _ _ _ (λ t. c.except.ensures t ∙ ap (λ (x : ℕ). has x t && not (eqb c.args.at.state t)) c.at.ensures))
