use Rattle.std.proofs.Common.{ℕ, ◌^◌, ◌<◌, replicate, sym, subst, arith, lit<, lit≤}
use Rattle.sets.proofs.Arrays.{zeros}
use Rattle.modelsheet.proofs.OneSystem.{empty_system}
use Rattle.modelsheet.proofs.model.Model.empty.Goals as goal

pub invariant_of-result : goal.invariant_of-result
invariant_of-result c = record {
  few = lit≤ tt;
  able = lit≤ tt;
  narrow = lit≤ tt;
  begins = lit< tt;
  stops = lit< tt;
  seen = λ s h. absurd (omega arith);
  led = λ k. subst (λ (x : ℕ). x < 2 ^ 0) (sym (zeros 512 k)) (lit< tt);
}

pub returns : goal.returns
returns c = empty_system (replicate 64 0) (replicate 512 0)
