-- What the parts of a sheet come to once they are found right.
use Rattle.std.specs.Prelude.{◌≡◌, ℕ, ◌*◌, ◌^◌, ◌<◌, ◌≤◌, List, length, Decides, slice_index}
use Rattle.modelsheet.specs.declared.model.sheet.Record.{Record}
use Rattle.modelsheet.specs.declared.model.sheet.Sets.{Sets}
use Rattle.modelsheet.specs.declared.model.sheet.Shape.{Shape}
use Rattle.sets.specs.Mask.{has}
use Rattle.modelsheet.specs.Judge.{elem}
use Rattle.modelsheet.specs.Sheet.{states_of, actions_of, observations_of, records_of, initial_of, goal_of, sight_of, head_of, target_of, next_of, laid_length, OnChain}

-- The counts are those of the sheet, within their ranges, and the sheet has the length that they lay down.
pub record Laid (b : List ℕ) (x : Shape) : Type 0 where
  pub states_are : x.states ≡ states_of b
  pub actions_are : x.actions ≡ actions_of b
  pub observations_are : x.observations ≡ observations_of b
  pub records_are : x.records ≡ records_of b
  pub some_states : 1 ≤ states_of b
  pub few_states : states_of b ≤ 64
  pub some_actions : 1 ≤ actions_of b
  pub few_actions : actions_of b ≤ 8
  pub few_observations : observations_of b ≤ 16
  pub long : length b ≡ laid_length b

-- The two sets hold only states of the sheet, and a run may begin in at least one.
pub record SetsRead (b : List ℕ) (x : Sets) : Type 0 where
  pub initial_is : x.initial ≡ initial_of b
  pub initial_some : 1 ≤ x.initial
  pub initial_in : x.initial < 2 ^ states_of b
  pub goal_is : x.goal ≡ goal_of b
  pub goal_in : x.goal < 2 ^ states_of b

-- Each state has the sight of the sheet, which is one of the sheet's observations.
pub record SightsRead (b seen : List ℕ) : Type 0 where
  pub sights_are : (s : ℕ) → s < states_of b → slice_index seen s ≡ sight_of b s
  pub sights_in : (s : ℕ) → s < states_of b → slice_index seen s < observations_of b

-- A set holds just the states of a list.
abbrev pub Marks : ℕ → List ℕ → Type 0
Marks set ts = (t : ℕ) → has set t ≡ elem t ts

-- Record i is as it stands, its target is a state, and it is the last or is followed by one with a greater index.
pub record RecordRead (b : List ℕ) (i : ℕ) (x : Record) : Type 0 where
  pub target_is : x.target ≡ target_of b i
  pub target_in : x.target < states_of b
  pub next_is : x.next ≡ next_of b i
  pub next_in : x.next ≤ records_of b
  pub rises : 0 < x.next → i < x.next

-- A set holds just the targets on the chain from record i on, which are states.
pub record ChainRead (b : List ℕ) (i set : ℕ) : Type 0 where
  pub targets : (t : ℕ) → Decides (has set t) (OnChain b i t)
  pub targets_in : set < 2 ^ states_of b

-- At the place of each head stands the set of the targets on its chain; every set holds only states.
pub record HeadsRead (b leads : List ℕ) : Type 0 where
  pub chains : (k : ℕ) → k < states_of b * actions_of b → (t : ℕ) → Decides (has (slice_index leads k) t) (OnChain b (head_of b k) t)
  pub chains_in : (k : ℕ) → slice_index leads k < 2 ^ states_of b
