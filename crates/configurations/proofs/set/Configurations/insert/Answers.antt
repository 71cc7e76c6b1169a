use Rattle.std.proofs.Common.{◌≡◌, ℕ, Bool, true, false, ◌&&◌, ◌||◌, eqb, ltb, refl, ap, ◌∙◌}
use Rattle.sets.specs.Mask.{has}
use Rattle.sets.proofs.Members.{has_only}
use Rattle.configurations.specs.Holds.{holds}
use Rattle.configurations.proofs.set.Configurations.insert.Goals as goal

-- the tests in another order
turned : (a b x y : Bool) → (a && (x && (b && y))) ≡ ((a && b) && (x && y))
turned true true x y = refl
turned true false true y = refl
turned true false false y = refl
turned false b x y = refl

pub returns : goal.returns
returns c = λ m s. c.add.ensures m s
    ∙ ap (λ b. holds c.args.self.now.states m s || b)
    (ap (λ b. ltb c.args.at.memory 4 && (eqb c.args.at.memory m && b)) (ap (λ (x : ℕ). has x s) c.only.ensures ∙ has_only c.args.at.state s)
    ∙ turned (ltb c.args.at.memory 4) (ltb c.args.at.state 64) (eqb c.args.at.memory m) (eqb c.args.at.state s))
