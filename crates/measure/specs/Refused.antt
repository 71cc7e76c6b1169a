-- What `worst` leaves, accepted or refused.
use Rattle.std.specs.Prelude.{◌≡◌, ℕ, ◌*◌, ◌<◌, ◌≤◌, ◌⊎◌, List, length, slice_index_or}
use Rattle.environment.specs.System.{System}
use Rattle.controller.specs.declared.table.Table.{Table}
use Rattle.refusals.specs.declared.Refusal.{Refusal}
use Rattle.refusals.specs.declared.Refusal.TheVariants.{FewLoads, Cycle}
use Rattle.picture.specs.declared.Picture.{Picture}
use Rattle.picture.specs.declared.settling.Quorum.TheVariants.{Every}
use Rattle.picture.specs.Settling.{Rests}

-- How many configurations a table has in a system.
abbrev pub size : System → Table → ℕ
size x t = t.memories * x.states

-- Every run of the picture ends: none of its moves lies on a cycle.
abbrev pub Straight : Picture → Type 0
Straight p = (m s : ℕ) → Rests Every p m s

-- Why a call was refused: there are fewer loads than configurations, or else the picture has a cycle.
abbrev pub Why : ℕ → ℕ → Picture → Refusal → Type 0
Why need room p e = ((e ≡ FewLoads) × (room < need)) ⊎ ((e ≡ Cycle) × (need ≤ room) × (Straight p → ⊥))

-- A refused call leaves the loads as they were.
pub record Refused {L : Type 0} (need : ℕ) (p : Picture) (before after : List L) (e : Refusal) : Type 0 where
  pub why : Why need (length before) p e
  pub kept : after ≡ before

-- An accepted one had room for a load of each configuration, of a picture without a cycle, and leaves the later loads as they were.
pub record Loaded {L : Type 0} (none : L) (need : ℕ) (p : Picture) (before after : List L) : Type 0 where
  pub room : need ≤ length before
  pub straight : Straight p
  pub long : length after ≡ length before
  pub later : (k : ℕ) → need ≤ k → slice_index_or after k none ≡ slice_index_or before k none
