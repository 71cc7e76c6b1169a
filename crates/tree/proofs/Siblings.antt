-- The order of the choices, step by step.
use Rattle.std.proofs.Common.{◌≡◌, ℕ, zero, suc, ◌+◌, ◌-◌, ◌<◌, ◌≤◌, true, false, [], ◌∷◌, ◌++◌, refl, ap, ◌∙◌, ap₂, arith}
use Rattle.std.proofs.lemmas.Bool.{cond-true, cond-false}
use Rattle.controller.specs.declared.entry.Entry.TheVariants.{Move}
use Rattle.tree.specs.declared.bars.Bars.{Bars}
use Rattle.tree.specs.Bars.{barred_at}
use Rattle.tree.specs.Choices.{to_memories, by_actions, choices_after}

module _ (b : Bars) (N o : ℕ) where
  -- a barred action has no moves
  over_barred : (a k : ℕ) → barred_at b o a ≡ true → by_actions b N o a (suc k) ≡ by_actions b N o (a + 1) k
  over_barred a k e = ap (λ xs. xs ++ by_actions b N o (a + 1) k) (cond-true (barred_at b o a) [] (to_memories a 0 N) e)

  pub none_free : (k a : ℕ) → ((x : ℕ) → a ≤ x → x < a + k → barred_at b o x ≡ true) → by_actions b N o a k ≡ []
  none_free zero a h = refl
  none_free (suc k) a h = over_barred a k (h a (omega arith) (omega arith)) ∙ none_free k (a + 1) (λ x l u. h x (omega arith) (omega arith))

  -- d barred actions are passed over
  pub skipped : (d a k : ℕ) → d ≤ k → ((x : ℕ) → a ≤ x → x < a + d → barred_at b o x ≡ true) → by_actions b N o a k ≡ by_actions b N o (a + d) (k - d)
  skipped zero a k le h = ap₂ (by_actions b N o) (omega arith) (omega arith)
  skipped (suc d) a zero le h = absurd (omega arith)
  skipped (suc d) a (suc k) le h =
      over_barred a k (h a (omega arith) (omega arith)) ∙ skipped d (a + 1) k (omega arith) (λ x l u. h x (omega arith) (omega arith))
      ∙ ap₂ (by_actions b N o) (omega arith) (omega arith)

  -- a free action has its moves, the first to memory 0
  pub free_first : (a k : ℕ) → 1 ≤ N → barred_at b o a ≡ false → by_actions b N o a (suc k) ≡ Move a 0 ∷ (to_memories a 1 (N - 1) ++ by_actions b N o (a + 1) k)
  free_first a k some e =
      let n : N ≡ suc (N - 1) = omega arith in
      ap (λ xs. xs ++ by_actions b N o (a + 1) k) (cond-false (barred_at b o a) [] (to_memories a 0 N) e ∙ ap (to_memories a 0) n)

  -- the first free action from `from` on
  pub first_found : (A from f : ℕ) → 1 ≤ N → from ≤ f → f < A → barred_at b o f ≡ false → ((x : ℕ) → from ≤ x → x < f → barred_at b o x ≡ true) → by_actions b N o from (A - from) ≡ Move f 0 ∷ choices_after b N A o (Move f 0)
  first_found A from f some low high free barred =
      let start : from + (f - from) ≡ f = omega arith in
      let many : A - from - (f - from) ≡ suc (A - (f + 1)) = omega arith in
      skipped (f - from) from (A - from) (omega arith) (λ x l u. barred x l (omega arith)) ∙ ap₂ (by_actions b N o) start many
      ∙ free_first f (A - (f + 1)) some free

  -- the next memory of the same action
  pub next_memory : (A a n : ℕ) → n < N - 1 → choices_after b N A o (Move a n) ≡ Move a (n + 1) ∷ choices_after b N A o (Move a (n + 1))
  next_memory A a n h =
      let e : N - (n + 1) ≡ suc (N - (n + 1 + 1)) = omega arith in
      ap (λ k. to_memories a (n + 1) k ++ by_actions b N o (a + 1) (A - (a + 1))) e
