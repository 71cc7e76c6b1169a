use Rattle.std.proofs.Common.{not, ◌&&◌, eqb, get_or, refl, sym, ap, ◌∙◌, subst, arith}
use Rattle.std.proofs.lemmas.Bool.{true≢false, and_parts, and_from, eq-eqb}
use Rattle.sets.specs.Mask.{has}
use Rattle.sets.proofs.Members.{has_empty}
use Rattle.configurations.specs.Holds.{holds}
use Rattle.configurations.proofs.Sets.{less-lt, weight-le}
use Rattle.picture.specs.declared.steps.Step.{Step}
use Rattle.picture.specs.Settling.{Met}
use Rattle.picture.proofs.Sweeps.{swept_more}
use Rattle.picture.proofs.Picture.sweep_memory.Goals as goal

pub loop-state-preserved-then-met : goal.loop-state-preserved-then-met
loop-state-preserved-then-met c =
    let inv = c.loop-state.invariant in
    let t = c.in-Some.ensures.steps in
    let m = c.args.memory in
    let s = c.in-Some.state in
    let less = c.remove.ensures in
    let here = inv.0 s t.0.here in (
      λ u h.
          let e = and_parts (has c.loop-state.state-iterator u) (not (eqb s u)) (sym (t.1 u) ∙ h) in
          less m u ∙ and_from (holds c.loop-state.waiting.states m u) _ (inv.0 u e.0) (ap (λ b. not (b && eqb s u)) (eq-eqb m m refl) ∙ e.1),
      swept_more _ _ _ _ _ _ _ inv.1 less
          (subst (λ (x : Step). Met c.args.quorum x.outcomes (get_or c.loop-state.waiting.states x.next 0)) c.step-next.ensures (rw (← c.from.ensures, ← c.at-in-loop-state.ensures) c.if-met.ensures)),
      λ _. omega (arith, less-lt _ _ c.loop-state.waiting.states c.remove.new.self.states less c.requires here, weight-le c.loop-state.waiting.states c.args.waiting.now.states inv.1.fewer),
      λ e. absurd (true≢false e),
      λ e. absurd (true≢false e),
    )

pub returns-clause-waits : goal.returns-clause-waits
returns-clause-waits c = λ e s h. c.loop-state.invariant.4 e s h (has_empty _ s c.in-None.ensures.steps.0)
