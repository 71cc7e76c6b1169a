use Rattle.std.proofs.Common.{not, ◌&&◌, ap, ◌∙◌, sym, inl, inr, arith}
use Rattle.std.proofs.lemmas.Bool.{cases_lt, lt-ltb, and_left}
use Rattle.configurations.specs.Holds.{holds}
use Rattle.configurations.proofs.Sets.{held_past}
use Rattle.configurations.proofs.set.Configurations.without.Goals as goal

pub returns : goal.returns
returns c = λ m s.
    let k = c.loop-memory.memory in
    elim (cases_lt m k) [
      | inl lt ↦ c.loop-memory.invariant.1 m s ∙ ap (λ b. holds c.args.self.now.states m s && not (b && holds c.args.other.now.states m s)) (lt-ltb m k lt)
      | inr ge ↦
          let past = held_past c.args.self.now.states m s (omega (arith, c.memories-memory-end.ensures.sets)) in
          c.loop-memory.invariant.1 m s ∙ and_left _ _ past ∙ sym (and_left _ _ past)
    ]
