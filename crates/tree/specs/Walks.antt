-- Where a walk stands.
use Rattle.std.specs.Prelude.{◌≡◌, ◌+◌, ◌-◌, ◌<◌, ◌≤◌, ℕ, min, max, Bool, true, false, List, [], ◌∷◌, ◌++◌, length, replicate, slice_index_or}
use Rattle.controller.specs.declared.entry.Entry.{Entry}
use Rattle.controller.specs.declared.entry.Entry.TheVariants.{Blank, Stop}
use Rattle.controller.specs.declared.place.Place.{Place}
use Rattle.controller.specs.Tables.{entry_at, Written}
use Rattle.tree.specs.declared.bars.Bars.{Bars}
use Rattle.tree.specs.Choices.{choices_after}
use Rattle.tree.specs.Trails.{places_of, unused, longer, shorter}
use Rattle.tree.specs.declared.walk.Walk.{Walk}

-- at the root: counts as given, within the limits of a table, every entry blank, and nothing on the trail
pub record Root (memories actions observations : ℕ) (w : Walk) : Type 0 where
  pub bounded : w.table.memories ≡ max 1 (min memories 4)
  pub able : w.table.actions ≡ min actions 8
  pub seeing : w.table.observations ≡ min observations 16
  pub empty : w.table.entries ≡ replicate 64 Blank
  pub fresh : places_of w.trail ≡ []
  pub bare : w.trail ≡ unused

-- a step down writes stop at the place and puts the place on the trail, which has room for it; where the trail is full it changes nothing
abbrev pub Descended : Place → Walk → Walk → Bool → Type 0
Descended p before after true =
    Written p.memory p.observation Stop before.table after.table
    × (length (places_of before.trail) < 64)
    × (places_of after.trail ≡ places_of before.trail ++ p ∷ [])
    × (after.trail ≡ longer p before.trail)
    × (after.trail.depth ≡ before.trail.depth + 1)
Descended p before after false = (64 ≤ length (places_of before.trail)) × (after ≡ before)

-- the place that was filled last
abbrev pub last_place : Walk → Place
last_place w = slice_index_or (places_of w.trail) (length (places_of w.trail) - 1) (record { memory = 0; observation = 0 })

-- what may still be filled in there, after what it holds
abbrev pub choices_left : Bars → Walk → List Entry
choices_left b w =
    choices_after b w.table.memories w.table.actions (last_place w).observation (entry_at w.table (last_place w).memory (last_place w).observation)

-- writes an entry at the place that was filled last
abbrev pub Refilled : Entry → Walk → Walk → Type 0
Refilled e before after = Written (last_place before).memory (last_place before).observation e before.table after.table

-- a step up makes the place that was filled last blank again, and takes it off the trail
pub record Ascended (before after : Walk) : Type 0 where
  pub table : Refilled Blank before after
  pub trail : places_of before.trail ≡ places_of after.trail ++ last_place before ∷ []
  pub whole : after.trail ≡ shorter before.trail
  pub fewer : after.trail.depth + 1 ≡ before.trail.depth

-- The way back: the place that was filled last takes its next choice, and the trail stays; where it has none it is made blank again, and
-- the one that was filled before it has its turn; where none is left, the walk is back at the root.
pub data Back (b : Bars) : Walk → Walk → Bool → Type 0 where
  root : {w : Walk} → places_of w.trail ≡ [] → w.trail.depth ≡ 0 → Back b w w false
  turn : {w x : Walk} {e : Entry} {more : List Entry} → 0 < length (places_of w.trail) → choices_left b w ≡ e ∷ more → Refilled e w x → x.trail ≡ w.trail → Back b w x true
  up : {w v x : Walk} {r : Bool} → choices_left b w ≡ [] → Ascended w v → Back b v x r → Back b w x r
