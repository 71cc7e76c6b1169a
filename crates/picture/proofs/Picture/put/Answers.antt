use Rattle.std.proofs.Common.{◌≡◌, ap, rules}
use Rattle.configurations.specs.Holds.{holds}
use Rattle.picture.specs.declared.steps.Step.{Step}
use Rattle.picture.proofs.Picture.put.Goals as goal

pub returns-in-Moving : goal.returns-in-Moving
returns-in-Moving c =
    let next = ap (λ (x : Step). x.next) c.set.ensures.here in
    let outcomes = ap (λ (x : Step). x.outcomes) c.set.ensures.here in
    record {
      reached = search rules;
      here = search rules;
      there = λ n t lt e.
          let still : holds c.insert.new.self.states n t ≡ holds c.args.self.now.reached.states n t = search rules in
          let kept = c.set.ensures.there n t lt e in
          rw (still, ap (λ (x : Step). x.next) kept, ap (λ (x : Step). x.outcomes) kept);
    }
