-- What an entry may be filled with, in the order of the tree: stop, then each action that is not barred at the observation, ascending,
-- with the next memories 0 to N - 1.
use Rattle.std.specs.Prelude.{ℕ, zero, suc, ◌+◌, ◌-◌, cond, List, [], ◌∷◌, ◌++◌}
use Rattle.controller.specs.declared.entry.Entry.{Entry}
use Rattle.controller.specs.declared.entry.Entry.TheVariants.{Blank, Stop, Move}
use Rattle.tree.specs.declared.bars.Bars.{Bars}
use Rattle.tree.specs.Bars.{barred_at}

-- action a with k next memories, from n on
abbrev pub to_memories : ℕ → ℕ → ℕ → List Entry
to_memories a n zero = []
to_memories a n (suc k) = Move a n ∷ to_memories a (n + 1) k

-- the moves with k actions, from a on, that are not barred at o, each with N next memories
abbrev pub by_actions : Bars → ℕ → ℕ → ℕ → ℕ → List Entry
by_actions b N o a zero = []
by_actions b N o a (suc k) = cond (barred_at b o a) [] (to_memories a 0 N) ++ by_actions b N o (a + 1) k

-- what comes after an entry at observation o, in a table of N memories and A actions; after blank comes everything
abbrev pub choices_after : Bars → ℕ → ℕ → ℕ → Entry → List Entry
choices_after b N A o Blank = Stop ∷ by_actions b N o 0 A
choices_after b N A o Stop = by_actions b N o 0 A
choices_after b N A o (Move a n) = to_memories a (n + 1) (N - (n + 1)) ++ by_actions b N o (a + 1) (A - (a + 1))
