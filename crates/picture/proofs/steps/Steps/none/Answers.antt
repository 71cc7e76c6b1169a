use Rattle.std.proofs.Common.{◌≡◌, ◌*◌, ◌+◌, ◌^◌, ◌<◌, arith}
use mathlib.Core.HLevel.{is_prop→PathP}
use Rattle.std.specs.Coded.{le_prop}
use Rattle.sets.proofs.Arrays.{zeros}
use Rattle.picture.specs.declared.steps.Step.{Step}
use Rattle.picture.proofs.steps.Steps.none.Goals as goal

pub invariant_of-result : goal.invariant_of-result
invariant_of-result c = record { near = λ k. omega (arith, zeros 256 k); narrow = λ k. omega (arith, zeros 256 k) }

-- steps are told apart by their next memories and their outcomes
same_step : (x y : Step) → x.next ≡ y.next → x.outcomes ≡ y.outcomes → x ≡ y
same_step x y e f = λ i. record {
  next = e i;
  outcomes = f i;
  near = is_prop→PathP (λ j. e j < 4) (λ j. le_prop) x.near y.near i;
  narrow = is_prop→PathP (λ j. f j < 2 ^ 64) (λ j. le_prop) x.narrow y.narrow i;
}

pub returns : goal.returns
returns c m s = same_step _ _ (zeros 256 (m * 64 + s)) (zeros 256 (m * 64 + s))
