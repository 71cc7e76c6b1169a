use Rattle.pair.proofs.Rows.{Framed, Copied}
use Rattle.pair.proofs.shape.Shape.product.Given as goal

abbrev pub invariant-loop-part : goal.invariant-loop-part
invariant-loop-part l = record {
  framed : Framed l.self.first.states l.width l.fn.first l.fn.second l.initial.part-iterator l.row;
  copied : Copied l.width l.initial.part-iterator l.row l.part-iterator l.set;
}
