-- Sets of configurations. A configuration is a memory with a state; a set of them is a list of sets of states, one for each memory.
use Rattle.std.specs.Prelude.{◌≡◌, ℕ, ◌+◌, ◌<◌, Bool, true, false, not, ◌&&◌, List, MatchOption, Option, ◌==◌, slice_index}
use Rattle.sets.specs.Mask.{has}
use Rattle.configurations.specs.declared.Configuration.{Configuration}

-- Configuration (m, s) is in the set: state s is in the set of memory m.
abbrev pub holds : List ℕ → ℕ → ℕ → Bool
holds c m s = has (slice_index c m) s

-- (n, t) is configuration (m, s).
abbrev pub same : ℕ → ℕ → ℕ → ℕ → Bool
same m s n t = m == n && s == t

-- No configuration is in the set.
abbrev pub Nothing : List ℕ → Type 0
Nothing c = (m s : ℕ) → holds c m s ≡ false

-- Some configuration is in the set.
abbrev pub Something : List ℕ → Type 0
Something c = (m : ℕ) × (s : ℕ) × (holds c m s ≡ true)

-- The configuration of smallest number in the set: smallest memory, then smallest state.
pub record Foremost (c : List ℕ) (at : Configuration) : Type 0 where
  pub memory : at.memory < 4
  pub state : at.state < 64
  pub here : holds c at.memory at.state ≡ true
  pub memories : (m s : ℕ) → m < at.memory → holds c m s ≡ false
  pub states : (s : ℕ) → s < at.state → holds c at.memory s ≡ false

-- A set without one configuration.
abbrev pub Less : ℕ → ℕ → List ℕ → List ℕ → Type 0
Less m s before after = (n t : ℕ) → holds after n t ≡ (holds before n t && not (same m s n t))

-- From a set its foremost configuration is taken, and the others are left; nothing can be taken where there is nothing, and that stays.
abbrev pub Takes : List ℕ → Option Configuration → List ℕ → Type 0
Takes before r after = MatchOption r (Nothing before × Nothing after) (λ at. Foremost before at × Less at.memory at.state before after)

-- A number that falls with each configuration that a set loses.
abbrev pub weight : List ℕ → ℕ
weight c = slice_index c 0 + slice_index c 1 + slice_index c 2 + slice_index c 3
