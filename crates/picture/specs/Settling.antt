-- Which configurations come to rest, where a moving one does so once every outcome does, or any one.
use Rattle.std.specs.Prelude.{◌≡◌, ℕ, true, false, List, slice_index}
use Rattle.configurations.specs.Holds.{holds}
use Rattle.sets.specs.Mask.{has}
use Rattle.picture.specs.declared.Picture.{Picture}
use Rattle.picture.specs.declared.settling.Quorum.{Quorum}
use Rattle.picture.specs.declared.settling.Quorum.TheVariants.{Every, Any}
use Rattle.picture.specs.Kinds.{is_moving, next_of, outcomes_of}

-- `Rests d p m s`: configuration (m, s) of picture p does not move, or every outcome of its move, or any one, comes to rest.
pub data Rests (d : Quorum) (p : Picture) : ℕ → ℕ → Type 0 where
  still : {m s : ℕ} → is_moving p m s ≡ false → Rests d p m s
  every : {m s : ℕ} → d ≡ Every → ((u : ℕ) → has (outcomes_of p m s) u ≡ true → Rests d p (next_of p m s) u) → Rests d p m s
  one : {m s u : ℕ} → d ≡ Any → has (outcomes_of p m s) u ≡ true → Rests d p (next_of p m s) u → Rests d p m s

-- Every outcome, or any one, is not among those that wait.
abbrev pub Met : Quorum → ℕ → ℕ → Type 0
Met Every outcomes waiting = (u : ℕ) → has outcomes u ≡ true → has waiting u ≡ false
Met Any outcomes waiting = (u : ℕ) × (has outcomes u ≡ true) × (has waiting u ≡ false)

-- One of the outcomes is among those that wait, or all are.
abbrev pub Unmet : Quorum → ℕ → ℕ → Type 0
Unmet Every outcomes waiting = (u : ℕ) × (has outcomes u ≡ true) × (has waiting u ≡ true)
Unmet Any outcomes waiting = (u : ℕ) → has outcomes u ≡ true → has waiting u ≡ true

-- Where the configurations of a set wait, (m, s) has to wait for them.
abbrev pub Waits : Quorum → Picture → List ℕ → ℕ → ℕ → Type 0
Waits d p waiting m s = Unmet d (outcomes_of p m s) (slice_index waiting (next_of p m s))

-- Some configurations wait no more, since they come to rest if all those do that did not wait before.
pub record Swept (d : Quorum) (p : Picture) (before after : List ℕ) : Type 0 where
  pub fewer : (m s : ℕ) → holds after m s ≡ true → holds before m s ≡ true
  pub sound : ((m s : ℕ) → holds before m s ≡ false → Rests d p m s) → (m s : ℕ) → holds after m s ≡ false → Rests d p m s
