-- The way back, step by step.
use Rattle.std.proofs.Common.{Bool, ◌≡◌, refl, ◌∙◌}
use Rattle.controller.specs.declared.entry.Entry.{Entry}
use Rattle.controller.specs.declared.place.Place.{Place}
use Rattle.controller.specs.declared.table.Table.{Table}
use Rattle.controller.specs.Tables.{SameCounts, entry_at}
use Rattle.tree.specs.declared.bars.Bars.{Bars}
use Rattle.tree.specs.declared.walk.Walk.{Walk}
use Rattle.tree.specs.Choices.{choices_after}
use Rattle.tree.specs.Walks.{Back, root, turn, up, choices_left, last_place}

pub counts_none : (t : Table) → SameCounts t t
counts_none t = record { memories = refl; actions = refl; observations = refl }

pub counts_then : {t u v : Table} → SameCounts t u → SameCounts u v → SameCounts t v
counts_then p q = record {
  memories = q.memories ∙ p.memories;
  actions = q.actions ∙ p.actions;
  observations = q.observations ∙ p.observations;
}

-- the way back keeps a table's counts
pub back_counts : {b : Bars} {w x : Walk} {r : Bool} → Back b w x r → SameCounts w.table x.table
back_counts (root e f) = counts_none _
back_counts (turn d c f e) = f.counts
back_counts (up c f more) = counts_then f.table.counts (back_counts more)

-- what is left at the place that was filled last, whose entry has been read
pub left_at : (b : Bars) (w : Walk) (p : Place) (e : Entry) → p ≡ last_place w → e ≡ entry_at w.table p.memory p.observation → choices_left b w ≡ choices_after b w.table.memories w.table.actions p.observation e
left_at b w p e here read = cc
