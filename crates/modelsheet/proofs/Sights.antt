-- The sights of a sheet: the first that is out of range is refused, and where none is, they are read as they stand.
use Rattle.std.proofs.Common.{◌≡◌, ℕ, zero, suc, ◌+◌, ◌-◌, ◌<◌, ◌≤◌, cond, leb, List, ◌++◌, length, get_or, take, drop, Ok, refl, ap, ◌∙◌, arith, add-one, length-drop}
use native.Mathlib.Nat.{sub-zero}
use Rattle.std.specs.List.{AllWithin, HoldsAt}
use Rattle.std.proofs.lemmas.Bool.{le-leb, lt-leb}
use Rattle.std.proofs.lemmas.List.{get_or-take, get_or-drop, get_or_append_left, length-take}
use Rattle.refusals.specs.declared.Refusal.TheVariants.{Observation}
use Rattle.modelsheet.specs.Judge.{judge_sights, refuse}
use Rattle.modelsheet.specs.Laid.{SightsRead}
use Rattle.modelsheet.specs.Sheet.{states_of, observations_of, sight_at, sight_of}

module _ (b : List ℕ) (n s : ℕ) (more : s < n) where
  opened : judge_sights b (n - s) s ≡ cond (leb (observations_of b) (sight_of b s)) (refuse Observation (sight_at s)) (judge_sights b (n - (s + 1)) (s + 1))
  opened = let e : n - s ≡ suc (n - (s + 1)) = omega arith in ap (λ k. judge_sights b k s) e

  refused : observations_of b ≤ sight_of b s → judge_sights b (n - s) s ≡ refuse Observation (sight_at s)
  refused h = opened ∙ rw (le-leb (observations_of b) (sight_of b s) h) refl

  passed : sight_of b s < observations_of b → judge_sights b (n - s) s ≡ judge_sights b (n - (s + 1)) (s + 1)
  passed h = opened ∙ rw (lt-leb (observations_of b) (sight_of b s) h) refl

-- past k sights that are in range, the others are left to judge
past : (b : List ℕ) (n k : ℕ) → k ≤ n → ((s : ℕ) → s < k → sight_of b s < observations_of b) → judge_sights b n 0 ≡ judge_sights b (n - k) k
past b n zero h low = rw sub-zero refl
past b n (suc k) h low =
    past b n k (omega arith) (λ s l. low s (omega arith)) ∙ (rw (← add-one k) (passed b n k (omega arith) (low k (omega arith))))

-- the bytes l of the sheet b, in which the sights of n states stand, each to be below `top`
abbrev pub sights_in : ℕ → List ℕ → List ℕ
sights_in n l = take n (drop 21 l)

module _ (b l : List ℕ) (n top : ℕ) (same : l ≡ b) (states : n ≡ states_of b) (observations : top ≡ observations_of b) (long : 21 + n ≤ length b) where
  sight_in : (s : ℕ) → s < n → get_or (sights_in n l) s 0 ≡ sight_of b s
  sight_in s h = get_or-take n (drop 21 l) s 0 h ∙ get_or-drop 21 l s 0 ∙ ap (λ (x : List ℕ). get_or x (21 + s) 0) same

  many : length (sights_in n l) ≡ n
  many = omega (arith, length-take n (drop 21 l), length-drop 21 l, ap length same)

  pub sights_refused : (k : ℕ) → k < length (sights_in n l) → HoldsAt (λ x. top ≤ x) (sights_in n l) k → AllWithin (λ x. x < top) (sights_in n l) 0 k → judge_sights b (states_of b) 0 ≡ refuse Observation (sight_at k)
  sights_refused k h big low =
      past b (states_of b) k (omega (arith, many)) (λ s g. omega (arith, many, sight_in s (omega (arith, many)), low s 0 (omega arith) g))
      ∙ refused b (states_of b) k (omega (arith, many)) (omega (arith, many, sight_in k (omega (arith, many)), big 0))

  module _ (low : AllWithin (λ x. x < top) (sights_in n l) 0 (length (sights_in n l))) where
    each : (s : ℕ) → s < n → sight_of b s < observations_of b
    each s h = omega (arith, sight_in s h, low s 0 (omega arith) (omega (arith, many)))

    pub sights_passed : judge_sights b (states_of b) 0 ≡ Ok tt
    sights_passed =
        let e : states_of b - states_of b ≡ 0 = omega arith in
        past b (states_of b) (states_of b) (omega arith) (λ s h. each s (omega arith)) ∙ ap (λ k. judge_sights b k (states_of b)) e

    pub sights_read : (seen rest : List ℕ) → seen ≡ sights_in n l → SightsRead b (seen ++ rest)
    sights_read seen rest e =
        let reads : (s : ℕ) → s < n → get_or (seen ++ rest) s 0 ≡ sight_of b s =
        λ s h. get_or_append_left seen rest 0 s (omega (arith, many, ap length e)) ∙ ap (λ (x : List ℕ). get_or x s 0) e ∙ sight_in s h in
        record {
          sights_are = λ s h. reads s (omega arith);
          sights_in = λ s h. omega (arith, reads s (omega arith), each s (omega arith));
        }
