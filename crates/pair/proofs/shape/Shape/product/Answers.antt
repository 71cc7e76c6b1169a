use Rattle.std.proofs.Common.{◌≡◌, ◌∙◌, arith}
use Rattle.pair.proofs.Rows.{cut, nothing_copied, room, copied_more, all_copied}
use Rattle.pair.proofs.shape.Shape.product.Goals as goal

pub loop-part-init : goal.loop-part-init
loop-part-init c =
    let s = c.args.self.now in
    let begin : c.into_iter-part-iterator.result ≡ c.intersection-rows.result = c.into_iter-part-iterator.ensures.into_iter_gives ∙ c.states-part-items.ensures in
    rw begin (record {
      framed = record {
        few = s.few;
        rows_cut = cut c.args.first s.first.states c.below.result c.intersection-rows.result s.first.few_states c.below.ensures c.intersection-rows.ensures;
        row_cut = cut c.args.second s.second.states c.below-2.result c.intersection-row.result s.second.few_states c.below-2.ensures c.intersection-row.ensures;
      };
      copied = nothing_copied s.second.states c.intersection-rows.result c.intersection-row.result;
    })

pub overflow_mul-part : goal.overflow_mul-part
overflow_mul-part c =
    let i = c.loop-part.invariant in
    let fits = room _ _ _ _ _ _ _ _ i.framed i.copied.left_in c.in-Some.ensures.steps.0 in
    omega (arith, fits)

pub loop-part-preserved : goal.loop-part-preserved
loop-part-preserved c =
    let i = c.loop-part.invariant in record {
      framed = i.framed;
      copied =
          copied_more _ _ _ _ _ _ _ _ i.framed i.copied.left_in c.in-Some.ensures.steps.0 c.moved_up.result c.moved_up.ensures
          c.next.new.self c.loop-part.set c.union-set.result c.in-Some.ensures.steps.1 i.copied c.union-set.ensures;
    }

pub returns : goal.returns
returns c =
    let i = c.loop-part.invariant in
    all_copied _ _ _ _ _ _ _ _ i.framed i.copied c.in-None.ensures.steps.0
