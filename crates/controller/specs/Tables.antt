-- What a table says, and what a write changes in it.
use Rattle.std.specs.Prelude.{◌≡◌, ℕ, ◌+◌, ◌*◌, Bool, cond, ◌&&◌, nat_lt, slice_index_or, slice_set}
use Rattle.controller.specs.declared.entry.Entry.{Entry}
use Rattle.controller.specs.declared.entry.Entry.TheVariants.{Blank, Stop, Move}
use Rattle.controller.specs.declared.table.Table.{Table}

-- An entry is valid if its action and its next memory are the table's; an invalid one reads as blank.
abbrev pub read_as : Table → Entry → Entry
read_as t Blank = Blank
read_as t Stop = Stop
read_as t (Move action next) = cond (nat_lt action t.actions && nat_lt next t.memories) (Move action next) Blank

-- The table has an entry for this memory and this observation.
abbrev pub inside : Table → ℕ → ℕ → Bool
inside t m o = nat_lt m t.memories && nat_lt o t.observations

-- Where entry (m, o) stands.
abbrev pub place : Table → ℕ → ℕ → ℕ
place t m o = m * t.observations + o

-- The entry for memory m and observation o, as it reads.
abbrev pub entry_at : Table → ℕ → ℕ → Entry
entry_at t m o = cond (inside t m o) (read_as t (slice_index_or t.entries (place t m o) Blank)) Blank

-- Two tables of as many memories, over one alphabet.
pub record SameCounts (one other : Table) : Type 0 where
  pub memories : other.memories ≡ one.memories
  pub actions : other.actions ≡ one.actions
  pub observations : other.observations ≡ one.observations

-- A write puts e at (m, o), if the table has that entry, and changes nothing else.
pub record Written (m o : ℕ) (e : Entry) (before after : Table) : Type 0 where
  pub counts : SameCounts before after
  pub entries : after.entries ≡ cond (inside before m o) (slice_set before.entries (place before m o) e) before.entries
