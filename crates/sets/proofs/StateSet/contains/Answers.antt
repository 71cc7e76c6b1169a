use Rattle.std.proofs.Common.{sym, ◌∙◌}
use Rattle.std.proofs.lemmas.Bool.{le-ltb}
use Rattle.sets.proofs.Bits.{has_above}
use Rattle.sets.proofs.StateSet.contains.Goals as goal

pub returns-else-state-lt64 : goal.returns-else-state-lt64
returns-else-state-lt64 c =
    rw (← c.self.view_is) (le-ltb c.args.state 64 c.if-state-lt64.false ∙ sym (has_above c.self.inside.mask 64 c.args.state c.self.invariant c.if-state-lt64.false))
