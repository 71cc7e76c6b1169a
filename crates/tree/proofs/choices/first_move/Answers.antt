use Rattle.std.proofs.Common.{◌-◌, arith}
use Rattle.tree.proofs.Siblings.{none_free, first_found}
use Rattle.tree.proofs.choices.first_move.Goals as goal

pub returns : goal.returns
returns c =
    let t = c.args.table.now in
    let e = c.in_ok-action.ensures in
    first_found c.args.bars.now t.memories c.args.observation t.actions c.args.from c.in_ok-action.action t.some e.0 (omega (arith, e.1)) e.2 e.3

pub returns-in_err-action : goal.returns-in_err-action
returns-in_err-action c =
    let t = c.args.table.now in
    rw c.from_residual.ensures
    (none_free c.args.bars.now t.memories c.args.observation (t.actions - c.args.from) c.args.from (λ x l u. c.in_err-action.ensures x l (omega arith)))
