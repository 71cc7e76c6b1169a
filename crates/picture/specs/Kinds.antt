-- What a picture says of each configuration.
use Rattle.std.specs.Prelude.{◌≡◌, ℕ, ◌+◌, ◌*◌, ◌<◌, Bool, true, false, cond, not, ◌&&◌, ◌||◌, slice_index}
use Rattle.std.proofs.Common.{arith, lit<}
use Rattle.configurations.specs.Holds.{holds}
use Rattle.configurations.specs.declared.Configuration.{Configuration}
use Rattle.picture.specs.declared.Kind.{Kind}
use Rattle.picture.specs.declared.Kind.TheVariants.{NotReached, Open, StoppedInGoal, StoppedOffGoal, Stuck, Moving}
use Rattle.picture.specs.declared.Picture.{Picture}
use Rattle.picture.specs.declared.steps.Step.{Step}
use Rattle.picture.specs.declared.steps.Steps.{Steps}

abbrev pub is_reached : Picture → ℕ → ℕ → Bool
is_reached p m s = holds p.reached.states m s

abbrev pub is_open : Picture → ℕ → ℕ → Bool
is_open p m s = holds p.opened.states m s

abbrev pub is_in_goal : Picture → ℕ → ℕ → Bool
is_in_goal p m s = holds p.finished.states m s

abbrev pub is_off_goal : Picture → ℕ → ℕ → Bool
is_off_goal p m s = holds p.missed.states m s

abbrev pub is_stuck : Picture → ℕ → ℕ → Bool
is_stuck p m s = holds p.stuck.states m s

-- A reached configuration that is nothing else moves.
abbrev pub is_moving : Picture → ℕ → ℕ → Bool
is_moving p m s = is_reached p m s && not (is_open p m s || (is_in_goal p m s || (is_off_goal p m s || is_stuck p m s)))

-- The step that stands at a place that a picture does not have.
abbrev pub no_step : Step
no_step = record { next = 0; outcomes = 0; near = omega arith; narrow = lit< tt }

-- The step of configuration (m, s) among the steps.
abbrev pub step_in : Steps → ℕ → ℕ → Step
step_in x m s = record {
  next = slice_index x.nexts (m * 64 + s);
  outcomes = slice_index x.outcomes (m * 64 + s);
  near = x.near (m * 64 + s);
  narrow = x.narrow (m * 64 + s);
}

-- What configuration (m, s) does if it moves.
abbrev pub step_at : Picture → ℕ → ℕ → Step
step_at p m s = step_in p.steps m s

abbrev pub next_of : Picture → ℕ → ℕ → ℕ
next_of p m s = (step_at p m s).next

abbrev pub outcomes_of : Picture → ℕ → ℕ → ℕ
outcomes_of p m s = (step_at p m s).outcomes

-- The kind of configuration (m, s).
abbrev pub kind_at : Picture → ℕ → ℕ → Kind
kind_at p m s =
    cond (is_reached p m s)
    (cond (is_open p m s) Open
    (cond (is_in_goal p m s) StoppedInGoal
    (cond (is_off_goal p m s) StoppedOffGoal
    (cond (is_stuck p m s) Stuck
    (Moving (next_of p m s) (outcomes_of p m s))))))
    NotReached

-- The open configuration of smallest number: smallest memory, then smallest state.
pub record FirstOpen (p : Picture) (c : Configuration) : Type 0 where
  pub here : is_open p c.memory c.state ≡ true
  pub memories : (m s : ℕ) → m < c.memory → is_open p m s ≡ false
  pub states : (s : ℕ) → s < c.state → is_open p c.memory s ≡ false
