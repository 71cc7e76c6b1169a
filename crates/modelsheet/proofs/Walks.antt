-- The walk of a chain: what it has met, and what it has still to judge.
use Rattle.std.proofs.Common.{◌≡◌, ℕ, zero, suc, ◌+◌, ◌-◌, ◌^◌, ◌<◌, ◌≤◌, true, false, cond, ◌||◌, eqb, ◌⊎◌, List, [], ◌∷◌, Ok, Err, sym, refl, ap, ◌∙◌, subst, inl, inr, ⊎_elim, arith}
use Rattle.std.proofs.lemmas.Bool.{ne_eqb, eq-eqb, eqb-false, cond_both, both_ways}
use Rattle.std.proofs.Math.Bool.{or_comm}
use Rattle.std.proofs.lemmas.Nat.{pow_pos}
use Rattle.faults.specs.declared.ChainFault.{ChainFault}
use Rattle.sets.specs.Mask.{has}
use Rattle.sets.proofs.Bits.{has_none}
use Rattle.sets.proofs.More.{More, more-has, more_in, more_old, more_new, more_only}
use Rattle.modelsheet.specs.declared.model.sheet.Record.{Record}
use Rattle.modelsheet.specs.Judge.{and_then, elem, judge_record, judge_chain}
use Rattle.modelsheet.specs.Laid.{Marks, RecordRead, ChainRead}
use Rattle.modelsheet.specs.Sheet.{states_of, records_of, target_of, next_of, OnChain}
use Rattle.modelsheet.specs.Sheet.OnChain.{here, later}

-- The walk from the record `first` has come to the record `index`, 0 where the chain has ended.
pub record Walked (b : List ℕ) (s a first index met : ℕ) : Type 0 where
  pub index_in : index ≤ records_of b
  -- the targets met, in a list, and at most how many records may follow
  pub before : List ℕ
  pub fuel : ℕ
  pub marks : Marks met before
  pub enough : 0 < index → records_of b < fuel + index
  -- what is left to judge
  pub left : judge_chain b s a (records_of b) [] first ≡ judge_chain b s a fuel before index
  pub met_in : met < 2 ^ states_of b
  pub met_on : (t : ℕ) → has met t ≡ true → OnChain b first t
  pub rest_on : (t : ℕ) → OnChain b index t → OnChain b first t
  pub all_on : (t : ℕ) → OnChain b first t → (has met t ≡ true) ⊎ OnChain b index t

-- ---- what is on a chain
none_on : (b : List ℕ) (i t : ℕ) → i ≡ 0 → OnChain b i t → ⊥
none_on b i t e (here _ _ h _) = omega arith
none_on b i t e (later _ _ h _) = omega arith

next_on : (b : List ℕ) (i t : ℕ) → OnChain b i t → (t ≡ target_of b i) ⊎ OnChain b (next_of b i) t
next_on b i t (here _ _ _ e) = inl e
next_on b i t (later _ _ _ p) = inr p

-- ---- sets
-- a set with one more state, and the list of its states
more_marks : (met n v now : ℕ) → n ≤ 64 → v < n → More met v now → (ts : List ℕ) → Marks met ts → Marks now (v ∷ ts)
more_marks met n v now few low made ts m t = more-has met n v now few low made t ∙ ap (λ x. x || eqb v t) (m t) ∙ or_comm (elem t ts) (eqb v t)

-- ---- the walk
pub start : (b : List ℕ) (s a first : ℕ) → first ≤ records_of b → Walked b s a first first 0
start b s a first h = record {
  index_in = h;
  before = [];
  fuel = records_of b;
  marks = has_none;
  enough = λ p. omega arith;
  left = refl;
  met_in = pow_pos (states_of b);
  met_on = λ t e. absurd (both_ways (has 0 t) (has_none t) e);
  rest_on = λ t p. p;
  all_on = λ t p. inr p;
}

chain_open : (b : List ℕ) (s a n : ℕ) (before : List ℕ) (i : ℕ) → 0 < i → judge_chain b s a (suc n) before i ≡ and_then (judge_record b s a before i) (λ _. judge_chain b s a n (target_of b i ∷ before) (next_of b i))
chain_open b s a n before i h = let e : eqb i 0 ≡ false = ne_eqb i 0 (λ z. omega arith) in rw e refl

chain_end : (b : List ℕ) (s a n : ℕ) (before : List ℕ) (i : ℕ) → i ≡ 0 → judge_chain b s a n before i ≡ Ok tt
chain_end b s a zero before i e = refl
chain_end b s a (suc n) before i e = let f : eqb i 0 ≡ true = eq-eqb i 0 e in rw f refl

module _ (b : List ℕ) (s a first index met : ℕ) (w : Walked b s a first index met) where
  opened : 0 < index → judge_chain b s a (records_of b) [] first ≡ and_then (judge_record b s a w.before index) (λ _. judge_chain b s a (w.fuel - 1) (target_of b index ∷ w.before) (next_of b index))
  opened h =
      let e : w.fuel ≡ suc (w.fuel - 1) = omega (arith, w.enough h, w.index_in) in
      w.left ∙ ap (λ n. judge_chain b s a n w.before index) e ∙ chain_open b s a (w.fuel - 1) w.before index h

  pub stopped : 0 < index → (f : ChainFault) → judge_record b s a w.before index ≡ Err f → judge_chain b s a (records_of b) [] first ≡ Err f
  stopped h f e = opened h ∙ rw e refl

  passed : 0 < index → judge_record b s a w.before index ≡ Ok tt → judge_chain b s a (records_of b) [] first ≡ judge_chain b s a (w.fuel - 1) (target_of b index ∷ w.before) (next_of b index)
  passed h e = opened h ∙ rw e refl

  pub ended : index ≡ 0 → (judge_chain b s a (records_of b) [] first ≡ Ok tt) × ChainRead b first met
  ended e = (
    w.left ∙ chain_end b s a w.fuel w.before index e,
    record {
      targets = λ t. (w.met_on t, λ p. ⊎_elim (λ h. h) (λ q. absurd (none_on b index t e q)) (w.all_on t p));
      targets_in = w.met_in;
    },
  )

  module _ (some : 0 < index) (few : states_of b ≤ 64) (x : Record) (r : RecordRead b index x) (now : ℕ) (made : More met x.target now) where
    onto : (t : ℕ) → OnChain b x.next t → OnChain b index t
    onto t p = later index t some (subst (λ n. OnChain b n t) r.next_is p)

    split : (t : ℕ) → OnChain b index t → (has now t ≡ true) ⊎ OnChain b x.next t
    split t p =
        ⊎_elim (λ e. inl (more_new met (states_of b) x.target now few r.target_in made t (e ∙ sym r.target_is)))
        (λ q. inr (subst (λ n. OnChain b n t) (sym r.next_is) q)) (next_on b index t p)

    pub onward : judge_record b s a w.before index ≡ Ok tt → Walked b s a first x.next now
    onward ok = record {
      index_in = r.next_in;
      before = x.target ∷ w.before;
      fuel = w.fuel - 1;
      marks = more_marks met (states_of b) x.target now few r.target_in made w.before w.marks;
      enough = λ h. omega (arith, w.enough some, r.rises h);
      left = passed some ok ∙ rw (r.target_is, r.next_is) refl;
      met_in = more_in met (states_of b) x.target now few r.target_in made w.met_in;
      met_on =
          λ t h. ⊎_elim (w.met_on t) (λ e. w.rest_on t (here index t some (sym e ∙ r.target_is)))
          (more_only met (states_of b) x.target now few r.target_in made t h);
      rest_on = λ t p. w.rest_on t (onto t p);
      all_on =
          λ t p. ⊎_elim (λ h. inl (more_old met (states_of b) x.target now few r.target_in made t h)) (split t) (w.all_on t p);
    }

-- the records that may still follow grow fewer
pub fewer : (n i j : ℕ) → (i ≡ 0 → ⊥) → i ≤ n → (0 < j → i < j) → cond (eqb j 0) 0 (n + 1 - j) < cond (eqb i 0) 0 (n + 1 - i)
fewer n i j some h rises =
    let e : eqb i 0 ≡ false = ne_eqb i 0 some in
    rw e (cond_both (eqb j 0) 0 (n + 1 - j) (λ x. x < n + 1 - i) (λ _. omega arith) (λ f. let l : i < j = rises (omega (arith, eqb-false j 0 f)) in omega arith))
