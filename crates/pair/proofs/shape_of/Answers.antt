use Rattle.pair.specs.Numbering.{sizes_of}
use Rattle.pair.specs.Paired.{paired}
use Rattle.pair.proofs.shape_of.Goals as goal

pub returns : goal.returns
returns g c =
    let e = c.args.first.now in
    let f = c.args.second.now in
    paired (g.E.Environment.meaning e) (g.F.Environment.meaning f) (g.met.E.Environment.sound e) (g.met.F.Environment.sound f)
    (sizes_of c.counts.result) (sizes_of c.counts-2.result) (sizes_of c.of.result.first) (sizes_of c.of.result.second) c.counts.ensures c.counts-2.ensures c.of.ensures
