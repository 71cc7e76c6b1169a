use Rattle.std.proofs.Common.{◌≡◌, ℕ, ◌-◌, ◌*◌, ◌^◌, ◌<◌, length, get_or, Decides}
use Rattle.sets.specs.Mask.{has}
use Rattle.modelsheet.specs.Judge.{judge_heads}
use Rattle.modelsheet.specs.Sheet.{states_of, actions_of, head_of, OnChain}
use Rattle.modelsheet.proofs.model.sheet.Sheet.heads.Given as goal

abbrev pub invariant-heads : goal.invariant-heads
invariant-heads l = record {
  many : length l.lead-items ≡ states_of l.self * actions_of l.self;
  judged : judge_heads l.self (states_of l.self * actions_of l.self - l.k) l.k ≡ judge_heads l.self (states_of l.self * actions_of l.self) 0;
  chains : (j : ℕ) → j < l.k → (t : ℕ) → Decides (has (get_or l.lead-items j 0) t) (OnChain l.self (head_of l.self j) t);
  chains_in : (j : ℕ) → get_or l.lead-items j 0 < 2 ^ states_of l.self;
}
