use Rattle.configurations.proofs.Sets.{less-lt}
use Rattle.configurations.proofs.set.calls.InOrderIterator.next.Goals as goal

pub returns-clause-goes : goal.returns-clause-goes
returns-clause-goes c =
    let first = c.in_ok-first.ensures in
    record { on = λ _. (tt, tt, rw (← c.self.view_is) (less-lt _ _ _ _ c.remove.ensures first.memory first.here)); keeps = tt; rests = λ _. tt }
