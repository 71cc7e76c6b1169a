-- Rows of marks where nothing is marked.
use Rattle.std.proofs.Common.{◌≡◌, ℕ, refl, ap, ◌∙◌, ltb, false, [], replicate, slice_index_or}
use lib.ListN.{get_or-replicate}
use Rattle.std.proofs.lemmas.Bool.{cond_both, and_parts, ltb-true}
use Rattle.tree.specs.Bars.{barred_at, stands}

pub none_barred : (o a : ℕ) → barred_at (record { barred = replicate 16 (replicate 8 false) }) o a ≡ false
none_barred o a =
    cond_both (stands o a) _ false (λ b. b ≡ false)
    (λ e.
    let p = and_parts (ltb o 16) (ltb a 8) e in
    ap (λ r. slice_index_or r a false) (get_or-replicate 16 o (replicate 8 false) [] (ltb-true o 16 p.0))
    ∙ get_or-replicate 8 a false false (ltb-true a 8 p.1))
    (λ _. refl)
