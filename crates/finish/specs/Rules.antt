-- What the finish rules reject.
use Rattle.std.specs.Prelude.{◌≡◌, ℕ, Bool, true, false, ◌||◌, ◌⊎◌, MatchBool}
use Rattle.picture.specs.declared.Picture.{Picture}
use Rattle.picture.specs.declared.settling.Quorum.{Quorum}
use Rattle.picture.specs.Kinds.{is_off_goal, is_stuck}
use Rattle.picture.specs.Settling.{Rests}

-- Configuration (m, s) is stopped off a goal or stuck.
abbrev pub failed : Picture → ℕ → ℕ → Bool
failed p m s = is_off_goal p m s || is_stuck p m s

abbrev pub Spoilt : Picture → Type 0
Spoilt p = (m : ℕ) × (s : ℕ) × (failed p m s ≡ true)

abbrev pub Clean : Picture → Type 0
Clean p = (m s : ℕ) → failed p m s ≡ false

-- Every configuration comes to rest, where a moving one does so once every outcome does, or any one.
abbrev pub AllRest : Quorum → Picture → Type 0
AllRest d p = (m s : ℕ) → Rests d p m s

-- A picture is rejected if a configuration failed or one does not come to rest, and only then.
abbrev pub RejectedBy : Quorum → Picture → Bool → Type 0
RejectedBy d p r = MatchBool r (Spoilt p ⊎ (AllRest d p → ⊥)) (Clean p × AllRest d p)
