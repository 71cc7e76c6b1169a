-- What it does to the waiting configurations that one of them waits no more.
use Rattle.std.specs.Prelude.{MatchBool}
use Rattle.std.proofs.Common.{◌≡◌, ℕ, Bool, true, false, not, ◌&&◌, List, get_or, sym, refl, ◌∙◌, subst, subst₂, inl, inr}
use Rattle.std.proofs.lemmas.Bool.{cases_Bool, both_ways, and_parts, and_from, not_from_false, not-true}
use Rattle.sets.specs.Mask.{has}
use Rattle.sets.proofs.Members.{has_empty, some_state}
use Rattle.configurations.specs.Holds.{holds, Less, Nothing, Something}
use Rattle.configurations.proofs.Sets.{gone}
use Rattle.picture.specs.declared.Picture.{Picture}
use Rattle.picture.specs.declared.settling.Quorum.{Quorum}
use Rattle.picture.specs.declared.settling.Quorum.TheVariants.{Every, Any}
use Rattle.picture.specs.Kinds.{is_moving, next_of, outcomes_of}
use Rattle.picture.specs.Settling.{Rests, still, every, one, Met, Unmet, Waits, Swept}

-- whose quorum is met comes to rest, if all that do not wait do
pub met_rests : (d : Quorum) (p : Picture) (c : List ℕ) (m s : ℕ) → ((n t : ℕ) → holds c n t ≡ false → Rests d p n t) → Met d (outcomes_of p m s) (get_or c (next_of p m s) 0) → Rests d p m s
met_rests Every p c m s all h = every refl (λ u hu. all (next_of p m s) u (h u hu))
met_rests Any p c m s all h = one {m = m} {s = s} refl h.1 (all (next_of p m s) h.0 h.2)

-- where only what moves waits, and all that waits has to, it does not come to rest
module _ (p : Picture) (c : List ℕ) (moves : (m s : ℕ) → holds c m s ≡ true → is_moving p m s ≡ true) where
  pub waits_on : (d : Quorum) → ((m s : ℕ) → holds c m s ≡ true → Waits d p c m s) → {m s : ℕ} → Rests d p m s → holds c m s ≡ true → ⊥
  waits_on d waits (still {m} {s} n) h = both_ways _ n (moves m s h)
  waits_on d waits (every {m} {s} e all) h =
      let w = subst (λ (x : Quorum). Waits x p c m s) e (waits m s h) in waits_on d waits (all w.0 w.1) w.2
  waits_on d waits (one {m} {s} {u} e hu r) h = waits_on d waits r (subst (λ (x : Quorum). Waits x p c m s) e (waits m s h) u hu)

-- a set in which nothing waits is empty
pub none_waits : (c : List ℕ) (r : Bool) → MatchBool r (Nothing c) (Something c) → ((m s : ℕ) → holds c m s ≡ true → ⊥) → r ≡ true
none_waits c true h none = refl
none_waits c false h none = absurd (none h.0 h.1 h.2)

-- what two sweeps took out, one after the other, was taken out
pub swept_both : (d : Quorum) (p : Picture) (x b a : List ℕ) → Swept d p x b → Swept d p b a → Swept d p x a
swept_both d p x b a u v = record { fewer = λ m s h. u.fewer m s (v.fewer m s h); sound = λ all. v.sound (u.sound all) }

-- one more was taken out
pub swept_more : (d : Quorum) (p : Picture) (x b a : List ℕ) (m s : ℕ) → Swept d p x b → Less m s b a → Met d (outcomes_of p m s) (get_or b (next_of p m s) 0) → Swept d p x a
swept_more d p x b a m s w less met = record {
  fewer = λ n t h. w.fewer n t (and_parts (holds b n t) _ (sym (less n t) ∙ h)).0;
  sound = λ all n t h. elim (gone m s b a less n t h) [
    | inl q ↦ w.sound all n t q
    | inr q ↦ subst₂ (λ (n t : ℕ). Rests d p n t) q.0 q.1 (met_rests d p b m s (w.sound all) met)
  ];
}

-- whether a set is empty says whether every outcome waits no more, or any does
out : (x : Bool) → (x ≡ true → ⊥) → x ≡ false
out true h = absurd (h refl)
out false h = refl

pub met_every : (o w both : ℕ) (r : Bool) → ((t : ℕ) → has both t ≡ (has o t && has w t)) → (r ≡ true → both ≡ 0) × (both ≡ 0 → r ≡ true) → MatchBool r (Met Every o w) (Unmet Every o w)
met_every o w both true made says = λ u h. out (has w u) (λ y. both_ways _ (has_empty both u (says.0 refl)) (made u ∙ and_from (has o u) (has w u) h y))
met_every o w both false made says =
    let t = some_state both (λ z. both_ways false refl (says.1 z)) in
    let p = and_parts (has o t.0) (has w t.0) (sym (made t.0) ∙ t.1) in
    (t.0, p.0, p.1)

pub met_any : (o w rest : ℕ) (r : Bool) → ((t : ℕ) → has rest t ≡ (has o t && not (has w t))) → (r ≡ true → rest ≡ 0) × (rest ≡ 0 → r ≡ true) → MatchBool (not r) (Met Any o w) (Unmet Any o w)
met_any o w rest true made says = λ u h. elim (cases_Bool (has w u)) [
  | inl y ↦ y
  | inr n ↦ absurd (both_ways _ (has_empty rest u (says.0 refl)) (made u ∙ and_from (has o u) _ h (not_from_false _ n)))
]
met_any o w rest false made says =
    let t = some_state rest (λ z. both_ways false refl (says.1 z)) in
    let p = and_parts (has o t.0) (not (has w t.0)) (sym (made t.0) ∙ t.1) in
    (t.0, p.0, not-true (has w t.0) p.1)
