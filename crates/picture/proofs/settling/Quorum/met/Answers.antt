use Rattle.picture.proofs.settling.Quorum.met.Goals as goal
use Rattle.picture.proofs.Sweeps.{met_every, met_any}

pub returns-in-Every : goal.returns-in-Every
returns-in-Every c = rw c.in-Every.is (met_every c.args.outcomes c.args.waiting c.intersection.result c.is_empty.result c.intersection.ensures c.is_empty.ensures)

pub returns-in-Any : goal.returns-in-Any
returns-in-Any c = rw c.in-Any.is (met_any c.args.outcomes c.args.waiting c.without.result c.is_empty-in-Any.result c.without.ensures c.is_empty-in-Any.ensures)
