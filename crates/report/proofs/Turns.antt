-- What one more turn of a loop adds to the text written.
use Rattle.std.proofs.Common.{ℕ, ◌+◌, List, add-one}
use Rattle.std.proofs.Output.{has_written_append, writes_in_calls_nil}
use Rattle.std.specs.declared.fmt.Formatter.{Formatter}
use Rattle.std.specs.Fmt.{HasWritten, IsPlainFormatter}
use Rattle.report.specs.Text.{each}

module _ {W : Type 0} (took : W → List ℕ → W → Type 0) (f : ℕ → List ℕ) where
  -- before the first turn nothing has been written
  pub start : (w : Formatter W) → IsPlainFormatter w → HasWritten took w (each 0 f) w
  unfolding each
  start w plain = record { wrote = writes_in_calls_nil took w.writer; plain = plain }

  -- a turn that writes f n after the pieces before n
  pub turn : (n : ℕ) (u v w : Formatter W) → HasWritten took u (each n f) v → HasWritten took v (f n) w → HasWritten took u (each (n + 1) f) w
  unfolding each
  turn n u v w before now = rw add-one (has_written_append took u (each n f) v (f n) w before now)
