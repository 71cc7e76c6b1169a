use Rattle.sets.proofs.Bits.{has_none}
use Rattle.slip.proofs.slipped.Goals as goal

pub returns-then-is_empty : goal.returns-then-is_empty
returns-then-is_empty c = λ t. rw (c.is_empty.ensures.0 c.if-is_empty.true) (has_none t)
