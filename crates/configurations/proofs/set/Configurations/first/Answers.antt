use Rattle.std.proofs.Common.{◌≡◌, ℕ, false, sym, ◌∙◌, subst, inl, inr, arith}
use Rattle.std.proofs.lemmas.Bool.{cases_eq, cases_lt}
use Rattle.sets.proofs.Members.{has_empty}
use Rattle.configurations.specs.Holds.{holds}
use Rattle.configurations.proofs.Sets.{held_past}
use Rattle.configurations.proofs.set.Configurations.first.Goals as goal

pub loop-memory-preserved : goal.loop-memory-preserved
loop-memory-preserved c = λ m s lt. elim (cases_eq m c.loop-memory.memory) [
  | inl e ↦ subst (λ (k : ℕ). holds c.args.self.now.states k s ≡ false) (sym e) (has_empty _ s (sym c.at.ensures ∙ c.in_default.ensures))
  | inr ne ↦ c.loop-memory.invariant m s (omega arith)
]

pub returns : goal.returns
returns c = λ m s. elim (cases_lt m c.memories-memory-end.result) [
  | inl lt ↦ c.loop-memory.invariant m s (omega arith)
  | inr ge ↦ held_past c.args.self.now.states m s (omega (arith, c.memories-memory-end.ensures.sets))
]
