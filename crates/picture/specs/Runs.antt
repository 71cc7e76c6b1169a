-- What a table does in a system.
use Rattle.std.specs.Prelude.{◌≡◌, ℕ, ◌<◌, true, cond, ◌==◌}
use Rattle.sets.specs.Mask.{has}
use Rattle.environment.specs.System.{System}
use Rattle.controller.specs.declared.entry.Entry.{Entry}
use Rattle.controller.specs.declared.entry.Entry.TheVariants.{Blank, Stop, Move}
use Rattle.controller.specs.declared.table.Table.{Table}
use Rattle.controller.specs.Tables.{entry_at}
use Rattle.picture.specs.declared.Kind.{Kind}
use Rattle.picture.specs.declared.Kind.TheVariants.{NotReached, Open, StoppedInGoal, StoppedOffGoal, Stuck, Moving}

-- What an entry does to a run in state s.
abbrev pub done : System → ℕ → Entry → Kind
done x s Blank = Open
done x s Stop = cond (has x.goal s) StoppedInGoal StoppedOffGoal
done x s (Move action next) = cond (x.outcomes s action == 0) Stuck (Moving next (x.outcomes s action))

-- What becomes of a run at memory m in state s: it reads the entry for the memory and what is seen of the state.
abbrev pub kind_of : System → Table → ℕ → ℕ → Kind
kind_of x t m s = done x s (entry_at t m (x.observation s))

-- A kind of what is reached, whose move, if it is one, leads to one of the four memories.
abbrev pub OfReached : Kind → Type 0
OfReached NotReached = ⊥
OfReached Open = Unit {0}
OfReached StoppedInGoal = Unit {0}
OfReached StoppedOffGoal = Unit {0}
OfReached Stuck = Unit {0}
OfReached (Moving next outcomes) = next < 4

-- Runs come to memory m and state s: they begin at memory 0 in an initial state, and a move leads on, at its next memory, to any one
-- of its outcomes.
pub data Reached (x : System) (t : Table) : ℕ → ℕ → Type 0 where
  start : {s : ℕ} → has x.initial s ≡ true → Reached x t 0 s
  step : {m s n o u : ℕ} → Reached x t m s → kind_of x t m s ≡ Moving n o → has o u ≡ true → Reached x t n u
