use Rattle.std.proofs.Common.{◌≡◌, ℕ, ◌<◌, true, List, sym, ap, ◌∙◌, subst, inl, inr, arith}
use Rattle.std.proofs.lemmas.Bool.{cases_eq, true≢false}
use Rattle.configurations.specs.Holds.{holds, weight}
use Rattle.configurations.specs.declared.set.Configurations.{Configurations}
use Rattle.configurations.proofs.Sets.{weight-le}
use Rattle.picture.specs.Settling.{Waits}
use Rattle.picture.proofs.Sweeps.{swept_both}
use Rattle.picture.proofs.Picture.sweep.Goals as goal
use Rattle.picture.proofs.Picture.sweep.Goals.{then-sweep_memory, else-sweep_memory}

abbrev states : Configurations → List ℕ
states c = c.states

pub loop-memory-preserved : goal.loop-memory-preserved
loop-memory-preserved c =
    let d = c.args.quorum in
    let p = c.args.self.now in
    let first = c.args.waiting.now.states in
    let before = c.loop-memory.waiting.states in
    let after = c.sweep_memory.new.waiting.states in
    let call = c.sweep_memory.ensures in
    let inv = c.loop-memory.invariant in
    let both = swept_both d p first before after inv.0 call.swept in
    elim c.if-sweep_memory.branch [
      | then-sweep_memory w ↦
          rw w.more-is
          (both, λ _. omega (arith, weight-le before first inv.0.fewer, call.less w.if-sweep_memory.true), λ e. absurd (true≢false e), λ e. absurd (true≢false e))
      | else-sweep_memory w ↦
          let same = call.same w.if-sweep_memory.false in
          let still = ap states same in
          rw w.more-is (
            both,
            λ e. subst (λ (xs : List ℕ). weight xs < weight first) (sym still) (inv.1 e),
            λ e. same ∙ inv.2 e,
            λ e m s lt h. elim (cases_eq m c.loop-memory.memory) [
              | inl q ↦
                  let at : holds before c.loop-memory.memory s ≡ true → Waits d p before c.loop-memory.memory s = call.waits w.if-sweep_memory.false s in
                  subst (λ (k : ℕ). holds first k s ≡ true → Waits d p first k s) (sym q)
                  (subst (λ (xs : List ℕ). holds xs c.loop-memory.memory s ≡ true → Waits d p xs c.loop-memory.memory s) (ap states (inv.2 e)) at) h
              | inr ne ↦ inv.3 e m s (omega arith) h
            ],
          )
    ]
