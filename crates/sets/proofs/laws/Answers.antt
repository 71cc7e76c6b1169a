use Rattle.sets.proofs.Bits.{has_union, has_intersection, has-not, has_one, has_none, same_set}
use Rattle.sets.proofs.Chosen.{has_chosen, within_chosen, chosen_within}
use Rattle.sets.proofs.laws.Goals as goal

pub returns : goal.returns
returns c = record {
  same = same_set;
  none = has_none;
  one = has_one;
  chosen = has_chosen;
  within = within_chosen;
  bounded = chosen_within;
  union = has_union;
  intersection = has_intersection;
  complement = has-not;
}
