use Rattle.std.proofs.Common.{rules}
use Rattle.slip.specs.Slipped.{slips}
use Rattle.slip.proofs.SlipEnvironment.outcomes.Goals as goal

pub returns-clause-value : goal.returns-clause-value
returns-clause-value g c =
    let e = c.args.self.now.below in
    search (rules, slips (g.E.Environment.meaning e) (g.met.E.Environment.sound e) c.args.state c.args.action, c.outcomes.ensures.value, c.slipped.ensures)
