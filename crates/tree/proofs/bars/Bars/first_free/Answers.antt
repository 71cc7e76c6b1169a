use Rattle.std.proofs.Common.{◌≡◌, true, false, rules}
use Rattle.std.proofs.lemmas.Iterator.{first_from_Range}
use Rattle.tree.specs.Bars.{barred_at}
use Rattle.tree.proofs.bars.Bars.first_free.Goals as goal

pub returns : goal.returns
returns c =
    let mark = barred_at c.args.self.now c.args.observation in
    first_from_Range _ _ _ _ (λ a. mark a ≡ false) (λ a. mark a ≡ true) c.find.ensures.ran (λ x q k. search rules) (λ x q k. search rules)
