use Rattle.configurations.proofs.Sets.{less-lt}
use Rattle.measure.proofs.loads.Runs.settle.Goals as goal

pub loop-at-smaller : goal.loop-at-smaller
loop-at-smaller g c = let here = c.in-Some.ensures in less-lt _ _ c.loop-at.waiting.states c.remove.new.self.states c.remove.ensures here.0 here.1
