-- The number of each refusal. 1 to 18 are refusals by the input, 20 to 25 by the state.
use Rattle.std.specs.Prelude.{ℕ}
use Rattle.refusals.specs.declared.Refusal.{Refusal}
use Rattle.refusals.specs.declared.Refusal.TheVariants.{
  Length,
  Mark,
  Count,
  StateSet,
  Observation,
  Index,
  NotRising,
  Field,
  Repeated,
  Bound,
  Amount,
  Bar,
  NoStart,
  FewLoads,
  ShortBuffer,
  OtherAlphabet,
  OutsideTable,
  Rule,
  NotBegun,
  AlreadyBegun,
  NothingFound,
  NotSearching,
  Cycle,
  BlankEntry,
}

abbrev pub number : Refusal → ℕ
number Length = 1
number Mark = 2
number Count = 3
number StateSet = 4
number Observation = 5
number Index = 6
number NotRising = 7
number Field = 8
number Repeated = 9
number Bound = 10
number Amount = 11
number Bar = 12
number NoStart = 13
number FewLoads = 14
number ShortBuffer = 15
number OtherAlphabet = 16
number OutsideTable = 17
number Rule = 18
number NotBegun = 20
number AlreadyBegun = 21
number NothingFound = 22
number NotSearching = 23
number Cycle = 24
number BlankEntry = 25
