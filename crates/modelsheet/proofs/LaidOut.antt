-- The counts of a sheet are those of the bytes that a clause sees.
use Rattle.std.proofs.Common.{◌≡◌, ℕ, List, subst}
use Rattle.modelsheet.specs.declared.model.sheet.Shape.{Shape}
use Rattle.modelsheet.specs.Laid.{Laid}

pub laid_out : {l b : List ℕ} {x : Shape} → l ≡ b → Laid l x → Laid b x
laid_out {l} {b} {x} e h = subst (λ (s : List ℕ). Laid s x) e h
