use Rattle.slip.specs.Slipped.{as_below}
use Rattle.slip.proofs.legal_as_below.Goals as goal

pub returns : goal.returns
returns c = as_below
