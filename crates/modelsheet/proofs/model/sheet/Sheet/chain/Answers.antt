use Rattle.std.proofs.Common.{arith}
use Rattle.std.proofs.lemmas.Result.{err_from_is_err_and}
use Rattle.modelsheet.specs.Sheet.{records_of}
use Rattle.modelsheet.proofs.Walks.{start, stopped, ended, onward, fewer}
use Rattle.modelsheet.proofs.model.sheet.Sheet.chain.Goals as goal

pub records-init : goal.records-init
records-init c = start c.args.self.now c.args.head.state c.args.head.action c.args.first (omega arith)

pub returns-in_err-record : goal.returns-in_err-record
returns-in_err-record c =
    let w = c.records.invariant in
    let p = err_from_is_err_and c.from_residual.result c.from_residual.ensures.1 in
    rw (p.1, p.2)
    (stopped c.args.self.now c.args.head.state c.args.head.action c.args.first c.records.index c.records.met w (omega arith) _ (c.in_err-record.ensures.judged w.before w.marks))

pub records-smaller : goal.records-smaller
records-smaller c =
    let w = c.records.invariant in
    let q = c.in_ok-record.ensures.judged w.before w.marks in
    fewer (records_of c.args.self.now) c.records.index c.in_ok-record.record.next c.records-test.true (omega arith) q.1.rises

pub records-preserved : goal.records-preserved
records-preserved c =
    let w = c.records.invariant in
    let q = c.in_ok-record.ensures.judged w.before w.marks in
    onward c.args.self.now c.args.head.state c.args.head.action c.args.first c.records.index c.records.met w (omega arith) c.in_ok-record.ensures.few c.in_ok-record.record q.1 c.with-met.result c.with-met.ensures q.0

pub returns : goal.returns
returns c =
    rw c.from.ensures
    (ended c.args.self.now c.args.head.state c.args.head.action c.args.first c.records.index c.records.met c.records.invariant c.records-test.false)
