use Rattle.std.proofs.Common.{ℕ, ◌&&◌, ◌||◌, eqb, sym, ap, ◌∙◌, subst}
use Rattle.sets.specs.Mask.{has}
use Rattle.configurations.specs.Holds.{holds}
use Rattle.picture.proofs.Live.{Added, left_in, left_out, all_in, fewer_left, live_none, live_rests, live_moves, live_all}
use Rattle.picture.proofs.Picture.draw.Goals as goal
use Rattle.picture.proofs.Picture.draw.Goals.{in-Moving, in_default-kind}

pub loop-at-init : goal.loop-at-init
loop-at-init g c =
    live_none _ _ _ c.none-marks.result.states c.add.new.self.states c.none-marks.ensures
    (λ m s. c.add.ensures m s ∙ ap (λ (y : ℕ). holds c.none-marks.result.states m s || (eqb 0 m && has y s)) c.initial.ensures.value) c.none-self.ensures

pub loop-at-smaller : goal.loop-at-smaller
loop-at-smaller g c =
    let at = c.in-Some.ensures in
    fewer_left c.loop-at.self c.put.new.self _ _ _ at.memory (left_out _ _ _ c.without.ensures _ _ at.here) c.put.ensures

pub loop-at-preserved : goal.loop-at-preserved
loop-at-preserved g c =
    let at = c.in-Some.ensures in
    let here = left_in _ _ _ c.without.ensures _ _ at.here in
    let fresh = left_out _ _ _ c.without.ensures _ _ at.here in
    elim c.match-kind.branch [
      | in-Moving w ↦
          rw w.marks-is
          (live_moves _ _ c.loop-at.self c.put.new.self c.loop-at.marks.states _ _ c.match-kind.kind c.loop-at.invariant here fresh c.put.ensures (w.kind-is ∙ sym w.in-Moving.is ∙ c.kind_of-kind.ensures.value)
          w.in-Moving.next w.in-Moving.outcomes _ w.kind-is w.in-Moving.ensures.reached (subst (λ (o : ℕ). Added w.in-Moving.next o c.loop-at.marks.states w.add-in-Moving.new.self.states) w.from.ensures w.add-in-Moving.ensures))
      | in_default-kind w ↦
          rw w.marks-is
          (live_rests _ _ c.loop-at.self c.put.new.self c.loop-at.marks.states _ _ c.match-kind.kind c.loop-at.invariant here fresh c.put.ensures (w.kind-is ∙ c.kind_of-kind.ensures.value)
          (λ n o e. w.in_default-kind.not-Moving n o (sym w.kind-is ∙ e)))
    ]

pub returns : goal.returns
returns g c = live_all _ _ c.loop-at.self c.loop-at.marks.states c.loop-at.invariant (all_in _ _ _ c.without.ensures c.in_default.ensures)
