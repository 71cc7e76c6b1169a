-- Where things stand in the bytes of a model sheet, and which targets are on a chain.
use Rattle.std.specs.Prelude.{◌≡◌, ℕ, ◌+◌, ◌-◌, ◌*◌, ◌^◌, ◌<◌, List, slice_index}

-- The counts of the header.
abbrev pub states_of : List ℕ → ℕ
states_of b = slice_index b 1

abbrev pub actions_of : List ℕ → ℕ
actions_of b = slice_index b 2

abbrev pub observations_of : List ℕ → ℕ
observations_of b = slice_index b 3

abbrev pub records_of : List ℕ → ℕ
records_of b = slice_index b 4

-- The number of eight bytes from a place on, the least first.
abbrev pub word : List ℕ → ℕ → ℕ
word b at =
    slice_index b at + slice_index b (at + 1) * 2 ^ 8 + slice_index b (at + 2) * 2 ^ 16 + slice_index b (at + 3) * 2 ^ 24 + slice_index b (at + 4) * 2 ^ 32
    + slice_index b (at + 5) * 2 ^ 40 + slice_index b (at + 6) * 2 ^ 48 + slice_index b (at + 7) * 2 ^ 56

-- The sets of states in which a run may begin, and is to stop.
abbrev pub initial_of : List ℕ → ℕ
initial_of b = word b 5

abbrev pub goal_of : List ℕ → ℕ
goal_of b = word b 13

-- What is seen in state s.
abbrev pub sight_at : ℕ → ℕ
sight_at s = 21 + s

abbrev pub sight_of : List ℕ → ℕ → ℕ
sight_of b s = slice_index b (sight_at s)

-- Head k: the index of the first record of a chain, 0 where the chain has none.
abbrev pub head_at : List ℕ → ℕ → ℕ
head_at b k = 21 + states_of b + k

abbrev pub head_of : List ℕ → ℕ → ℕ
head_of b k = slice_index b (head_at b k)

-- Record i, the first of which is record 1: its target, then the index of the record that follows it, 0 where it is the last.
abbrev pub target_at : List ℕ → ℕ → ℕ
target_at b i = 21 + states_of b + states_of b * actions_of b + 2 * (i - 1)

abbrev pub target_of : List ℕ → ℕ → ℕ
target_of b i = slice_index b (target_at b i)

abbrev pub next_at : List ℕ → ℕ → ℕ
next_at b i = target_at b i + 1

abbrev pub next_of : List ℕ → ℕ → ℕ
next_of b i = slice_index b (next_at b i)

-- The length that the counts lay down.
abbrev pub laid_length : List ℕ → ℕ
laid_length b = 21 + states_of b + states_of b * actions_of b + 2 * records_of b

-- State t is the target of record i, or of one that follows it by next indices. Index 0 is no record.
pub data OnChain (b : List ℕ) : ℕ → ℕ → Type 0 where
  here : (i t : ℕ) → 0 < i → t ≡ target_of b i → OnChain b i t
  later : (i t : ℕ) → 0 < i → OnChain b (next_of b i) t → OnChain b i t
