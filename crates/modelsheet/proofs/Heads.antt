-- The heads of a sheet: one turn through them, and the outcome sets before the first is written and after the last.
use Rattle.std.proofs.Common.{◌≡◌, ℕ, suc, ◌+◌, ◌-◌, ◌*◌, ◌^◌, ◌<◌, ◌≤◌, List, ◌++◌, length, get_or, take, drop, replicate, Decides, Ok, Err, refl, ap, ◌∙◌, arith}
use Rattle.std.proofs.lemmas.Grind.{common_steps}
use Rattle.std.proofs.lemmas.List.{take-replicate}
use Rattle.std.proofs.lemmas.Nat.{pow_pos}
use Rattle.faults.specs.declared.ChainFault.{ChainFault}
use Rattle.sets.specs.Mask.{has}
use Rattle.sets.proofs.Arrays.{zeros}
use Rattle.modelsheet.specs.Judge.{and_then, judge_head, judge_heads}
use Rattle.modelsheet.specs.Laid.{HeadsRead}
use Rattle.modelsheet.specs.Sheet.{states_of, actions_of, head_of, OnChain}

module _ (b : List ℕ) (n k : ℕ) (more : k < n) where
  opened : judge_heads b (n - k) k ≡ and_then (judge_head b k) (λ _. judge_heads b (n - (k + 1)) (k + 1))
  opened = let e : n - k ≡ suc (n - (k + 1)) = omega arith in ap (λ m. judge_heads b m k) e

  pub head_refused : (f : ChainFault) → judge_head b k ≡ Err f → judge_heads b (n - k) k ≡ Err f
  head_refused f e = opened ∙ rw e refl

  pub head_passed : judge_head b k ≡ Ok tt → judge_heads b (n - k) k ≡ judge_heads b (n - (k + 1)) (k + 1)
  head_passed e = opened ∙ rw e refl

-- before the first write the places of the heads hold the empty set
pub begun : (n m s k : ℕ) → n ≤ m → get_or (take n (replicate m 0)) k 0 < 2 ^ s
begun n m s k h = rw (take-replicate {X = ℕ} n m 0 h, zeros n k) (pow_pos s)

-- after the last one the places past them still do
pub heads_read : (b written array : List ℕ) (n : ℕ) → length written ≡ states_of b * actions_of b → ((k : ℕ) → get_or array k 0 ≡ 0) → ((k : ℕ) → k < states_of b * actions_of b → (t : ℕ) → Decides (has (get_or written k 0) t) (OnChain b (head_of b k) t)) → ((k : ℕ) → get_or written k 0 < 2 ^ states_of b) → HeadsRead b (written ++ drop n array)
heads_read b written array n all empty chains within = record {
  chains = λ k h t. grind (arith, common_steps, chains k);
  chains_in = λ k. grind (arith, common_steps, within k, pow_pos (states_of b), empty);
}
