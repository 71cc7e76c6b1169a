-- How the sets of a picture part the configurations.
use Rattle.std.specs.Prelude.{Bool, true, false, not, ◌&&◌, ◌||◌}

-- Told whether a configuration is reached, open, stopped in a goal, stopped off a goal and stuck: it is at most one of the last four,
-- and one of them only if it is reached.
abbrev pub one_kind : Bool → Bool → Bool → Bool → Bool → Bool
one_kind reached true finished missed stuck = reached && not (finished || (missed || stuck))
one_kind reached false true missed stuck = reached && not (missed || stuck)
one_kind reached false false true stuck = reached && not stuck
one_kind reached false false false true = reached
one_kind reached false false false false = true
