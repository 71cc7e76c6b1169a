use Rattle.sets.proofs.Members.{left-lt}
use Rattle.sets.proofs.states.StatesIterator.next.Goals as goal

pub returns-clause-goes : goal.returns-clause-goes
returns-clause-goes c = record {
  on = λ _. (tt, tt, rw (← c.self.view_is) (left-lt _ _ _ c.in_ok-first.ensures.here c.except-self-inside.ensures));
  keeps = tt;
  rests = λ _. tt;
}
