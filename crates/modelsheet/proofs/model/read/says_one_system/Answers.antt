use Rattle.modelsheet.proofs.OneSystem.{one_system}
use Rattle.modelsheet.proofs.model.read.says_one_system.Goals as goal

pub returns : goal.returns
returns c = one_system
