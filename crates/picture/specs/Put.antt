-- A picture with one configuration more.
use Rattle.std.specs.Prelude.{◌≡◌, ℕ, ◌<◌, false, ◌||◌}
use Rattle.configurations.specs.Holds.{same}
use Rattle.picture.specs.declared.Kind.{Kind}
use Rattle.picture.specs.declared.Picture.{Picture}
use Rattle.picture.specs.Kinds.{kind_at, is_reached}

-- Configuration (m, s) is reached now and has kind k, and every other one is as it was.
pub record Put (m s : ℕ) (k : Kind) (before after : Picture) : Type 0 where
  pub reached : (n t : ℕ) → is_reached after n t ≡ (is_reached before n t || same m s n t)
  pub here : kind_at after m s ≡ k
  pub there : (n t : ℕ) → t < 64 → same m s n t ≡ false → kind_at after n t ≡ kind_at before n t
