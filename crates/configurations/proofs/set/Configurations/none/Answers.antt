use Rattle.configurations.proofs.Sets.{none_held}
use Rattle.configurations.proofs.set.Configurations.none.Goals as goal

pub returns : goal.returns
returns c = none_held
