use Rattle.std.specs.Prelude.{MatchBool}
use Rattle.std.proofs.Common.{Bool, true, false, not, ◌||◌, ap₂, subst}
use Rattle.std.proofs.lemmas.Bool.{or_left, or_right}
use Rattle.configurations.specs.Holds.{Nothing, Something}
use Rattle.configurations.specs.declared.set.Configurations.{Configurations}
use Rattle.picture.specs.declared.Picture.{Picture}
use Rattle.finish.specs.Rules.{Spoilt, Clean}
use Rattle.finish.proofs.spoilt.Goals as goal

-- where nothing stopped off a goal, it is spoilt just if something is stuck
by_stuck : (p : Picture) (r : Bool) → Nothing p.missed.states → MatchBool r (Nothing p.stuck.states) (Something p.stuck.states) → MatchBool (not r) (Spoilt p) (Clean p)
by_stuck p true none h = λ m s. ap₂ ◌||◌ (none m s) (h m s)
by_stuck p false none h = (h.0, h.1, or_right _ _ h.2)

pub returns-then-not-is_empty : goal.returns-then-not-is_empty
returns-then-not-is_empty c =
    let h : Something c.args.picture.now.missed.states = subst (λ (x : Configurations). Something x.states) c.off_goal.ensures c.if-not-is_empty.ensures in
    rw c.if-not-is_empty.true (h.0, h.1, or_left _ _ h.2)

pub returns-else-not-is_empty : goal.returns-else-not-is_empty
returns-else-not-is_empty c =
    by_stuck c.args.picture.now _ (subst (λ (x : Configurations). Nothing x.states) c.off_goal.ensures c.if-not-is_empty.ensures)
    (subst (λ (x : Configurations). MatchBool c.is_empty-else-not-is_empty.result (Nothing x.states) (Something x.states)) c.stuck.ensures c.is_empty-else-not-is_empty.ensures)
