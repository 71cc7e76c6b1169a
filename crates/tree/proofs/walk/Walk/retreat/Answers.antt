use Rattle.std.proofs.Common.{refl, ◌∙◌, subst}
use Rattle.controller.specs.declared.place.Place.{Place}
use Rattle.controller.specs.Tables.{Written}
use Rattle.tree.specs.Walks.{root, turn, up}
use Rattle.tree.proofs.Ways.{back_counts, left_at}
use Rattle.tree.proofs.walk.Walk.retreat.Goals as goal

pub returns : goal.returns
returns c = let way = c.loop-at.invariant _ _ (root c.in_default.ensures.0 c.in_default.ensures.1) in record { way = way; counts = back_counts way }

pub returns-in-Some-following : goal.returns-in-Some-following
returns-in-Some-following c =
    let w = c.loop-at.self in
    let here = c.in-Some.ensures in
    let left = left_at c.args.bars.now w c.in-Some.at _ here.1 c.entry-entry.ensures in
    let P : Place → Type 0 = λ p. Written p.memory p.observation c.in-Some-following.next w.table c.set.new.self in
    let way = c.loop-at.invariant _ _ (turn {w = w} here.0 (left ∙ c.in-Some-following.ensures) (subst P here.1 c.set.ensures) refl) in
    record { way = way; counts = back_counts way }

pub loop-at-preserved : goal.loop-at-preserved
loop-at-preserved c x r h =
    let w = c.loop-at.self in
    let here = c.in-Some.ensures in
    let left = left_at c.args.bars.now w c.in-Some.at _ here.1 c.entry-entry.ensures in
    c.loop-at.invariant x r (up {w = w} (left ∙ c.in_default-following.ensures) (c.ascend.ensures here.0) h)
