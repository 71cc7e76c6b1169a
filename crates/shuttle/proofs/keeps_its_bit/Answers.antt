use Rattle.shuttle.specs.Steps.{keeps_bit}
use Rattle.shuttle.proofs.keeps_its_bit.Goals as goal

pub returns : goal.returns
returns c = keeps_bit
