-- Which picture is the picture of a table.
use Rattle.std.specs.Prelude.{◌≡◌, ℕ, Decides}
use Rattle.environment.specs.System.{System}
use Rattle.controller.specs.declared.table.Table.{Table}
use Rattle.picture.specs.declared.Picture.{Picture}
use Rattle.picture.specs.Kinds.{is_reached, kind_at}
use Rattle.picture.specs.Runs.{kind_of, Reached}

-- Just the configurations that runs come to are reached, and each has the kind of what becomes of a run there.
pub record PictureOf (x : System) (t : Table) (p : Picture) : Type 0 where
  pub reached : (m s : ℕ) → Decides (is_reached p m s) (Reached x t m s)
  pub kinds : (m s : ℕ) → Reached x t m s → kind_at p m s ≡ kind_of x t m s
