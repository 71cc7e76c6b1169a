use Rattle.std.proofs.Common.{◌≡◌, ◌-◌, ◌*◌, ◌<◌, ◌≤◌, length, sym, ap, ◌∙◌, ap₂, arith}
use native.Mathlib.Nat.{sub-zero}
use Rattle.std.proofs.lemmas.Grind.{common_steps}
use Rattle.std.proofs.lemmas.Nat.{mul-le}
use Rattle.std.proofs.lemmas.List.{length-set, length-take}
use Rattle.std.proofs.lemmas.Result.{err_from_is_err_and}
use Rattle.sets.proofs.Arrays.{zeros}
use Rattle.modelsheet.specs.Judge.{judge_heads}
use Rattle.modelsheet.specs.Sheet.{states_of, actions_of}
use Rattle.modelsheet.proofs.Heads.{head_refused, head_passed, begun, heads_read}
use Rattle.modelsheet.proofs.LaidOut.{laid_out}
use Rattle.modelsheet.proofs.model.sheet.Sheet.heads.Goals as goal

pub heads-init : goal.heads-init
heads-init c =
    let b = c.args.self.now in
    let laid = laid_out c.self.view_is c.self.invariant in
    let e : c.heads-2.result ≡ states_of b * actions_of b = c.heads-2.ensures ∙ ap₂ ◌*◌ laid.states_are laid.actions_are in
    let all : states_of b * actions_of b ≤ 64 * 8 = mul-le (states_of b) (actions_of b) 64 8 laid.few_states laid.few_actions in
    record {
      many = length-take c.heads-2.result _ ∙ omega arith;
      judged = rw sub-zero;
      chains = λ j h. absurd (omega arith);
      chains_in = λ j. begun c.heads-2.result 512 (states_of b) j (omega arith);
    }

pub returns-in_err-lead : goal.returns-in_err-lead
returns-in_err-lead c =
    let b = c.args.self.now in
    let w = c.heads.invariant in
    let p = err_from_is_err_and c.from_residual.result c.from_residual.ensures.1 in
    rw (p.1, p.2)
    (sym w.judged ∙ head_refused b (states_of b * actions_of b) c.heads.k (omega arith) _ c.in_err-lead.ensures)

pub heads-preserved : goal.heads-preserved
heads-preserved c =
    let b = c.args.self.now in
    let k = c.heads.k in
    let w = c.heads.invariant in
    let few : k < length c.heads.lead-items = omega arith in
    let v = c.in_ok-lead.field-0 in
    let q = c.in_ok-lead.ensures in
    record {
      many = length-set c.heads.lead-items k v ∙ w.many;
      judged = sym (head_passed b (states_of b * actions_of b) k (omega arith) q.0) ∙ w.judged;
      chains = λ j h t. grind (arith, common_steps, w.chains j, q.1.targets t);
      chains_in = λ j. grind (arith, common_steps, w.chains_in j, q.1.targets_in);
    }

pub returns : goal.returns
returns c =
    let b = c.args.self.now in
    let w = c.heads.invariant in
    let e : states_of b * actions_of b - c.heads.k ≡ 0 = omega arith in (
      sym w.judged ∙ ap (λ n. judge_heads b n c.heads.k) e,
      heads_read b c.heads.lead-items _ c.heads-2.result w.many (zeros 512) (λ j h. w.chains j (omega arith)) w.chains_in,
    )
