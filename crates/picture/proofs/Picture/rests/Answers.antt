use Rattle.std.proofs.Common.{◌≡◌, ℕ, true, List, sym, ap, ◌∙◌, subst}
use Rattle.std.specs.Prelude.{MatchBool}
use Rattle.configurations.specs.Holds.{holds, Nothing, Something}
use Rattle.configurations.specs.declared.set.Configurations.{Configurations}
use Rattle.picture.specs.Settling.{still, Waits}
use Rattle.picture.proofs.Sweeps.{none_waits, waits_on}
use Rattle.picture.proofs.Picture.rests.Goals as goal

pub loop-quorum-init : goal.loop-quorum-init
loop-quorum-init c = (λ m s h. sym (c.moving-waiting.ensures m s) ∙ h, λ m s h. still (sym (c.moving-waiting.ensures m s) ∙ h))

pub returns : goal.returns
returns c =
    let call = c.sweep.ensures in
    let w = call.swept in
    let left = c.sweep.new.waiting.states in
    let stop = c.loop-quorum-test.false in
    let waits : (m s : ℕ) → holds left m s ≡ true → Waits c.args.quorum c.args.self.now left m s =
    subst (λ (xs : List ℕ). (m s : ℕ) → holds xs m s ≡ true → Waits c.args.quorum c.args.self.now xs m s) (sym (ap (λ (x : Configurations). x.states) (call.same stop))) (call.waits stop) in (
      λ e m s. w.sound c.loop-quorum.invariant.1 m s (subst (λ b. MatchBool b (Nothing left) (Something left)) e c.is_empty.ensures m s),
      λ all. none_waits left c.is_empty.result c.is_empty.ensures
          (λ m s. waits_on c.args.self.now left (λ m s h. c.loop-quorum.invariant.0 m s (w.fewer m s h)) c.args.quorum waits (all m s)),
    )
