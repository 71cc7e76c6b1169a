-- Which calls a case takes, and what each leaves it at.
use Rattle.std.specs.Prelude.{◌≡◌, ℕ, ◌≤◌, Bool, true, false, cond, ◌&&◌, ◌||◌, List, [], replicate, Some, None, Ok, Err, Option, Result, MatchResult, ◌==◌, nat_le}
use Rattle.environment.specs.System.{System}
use Rattle.refusals.specs.declared.Refusal.{Refusal}
use Rattle.refusals.specs.declared.Refusal.TheVariants as refuse
use Rattle.refusals.specs.Range.{outside}
use Rattle.controller.specs.declared.entry.Entry.TheVariants.{Blank}
use Rattle.controller.specs.declared.table.Table.{Table}
use Rattle.controller.specs.Tables.{SameCounts}
use Rattle.measure.specs.Refused.{size, Loaded, Refused}
use Rattle.picture.specs.Drawn.{PictureOf}
use Rattle.picture.specs.Kinds.{is_open}
use Rattle.tree.specs.Bars.{barred_at}
use Rattle.tree.specs.Trails.{places_of, unused}
use Rattle.tree.specs.Walks.{Back}
use Rattle.case.specs.declared.case.Phase.{Phase}
use Rattle.case.specs.declared.case.Phase.TheVariants.{New, Searching, Found, Exhausted}
use Rattle.case.specs.declared.case.Call.{Call}
use Rattle.case.specs.declared.case.Call.TheVariants.{Bar, Begin, Advance, Next}
use Rattle.case.specs.declared.case.Advance.{Advance as Answer}
use Rattle.case.specs.declared.case.Case.{Case}

-- a refusal where the test holds
abbrev pub when : Bool → Refusal → Option Refusal
when true r = Some r
when false r = None

-- the first of two refusals
abbrev pub or_else : Option Refusal → Option Refusal → Option Refusal
or_else (Some r) o = Some r
or_else None o = o

-- The refusal of each call in each state, over the environment's system; none where the call is taken.
abbrev pub refusal : System → Phase → Call → Option Refusal
refusal x New (Bar o a) = when (nat_le x.observations o || nat_le x.actions a) refuse.Bar
refusal x New (Begin n) = or_else (when (outside 4 n) refuse.Bound) (when (x.states == 0 || x.initial == 0) refuse.NoStart)
refusal x New (Advance k) = Some refuse.NotBegun
refusal x New Next = Some refuse.NotBegun
refusal x Searching (Bar o a) = Some refuse.AlreadyBegun
refusal x Searching (Begin n) = Some refuse.AlreadyBegun
refusal x Searching (Advance k) = when (outside 1000000 k) refuse.Amount
refusal x Searching Next = Some refuse.NothingFound
refusal x Found (Bar o a) = Some refuse.AlreadyBegun
refusal x Found (Begin n) = Some refuse.AlreadyBegun
refusal x Found (Advance k) = Some refuse.NotSearching
refusal x Found Next = None
refusal x Exhausted (Bar o a) = Some refuse.AlreadyBegun
refusal x Exhausted (Begin n) = Some refuse.AlreadyBegun
refusal x Exhausted (Advance k) = Some refuse.NotSearching
refusal x Exhausted Next = Some refuse.NothingFound

-- The refusal of a call that speaks of the found table, by the state.
abbrev pub unfound : Phase → Option Refusal
unfound New = Some refuse.NotBegun
unfound Searching = Some refuse.NothingFound
unfound Found = None
unfound Exhausted = Some refuse.NothingFound

abbrev pub admitted : Option Refusal → Result Unit Refusal
admitted None = Ok tt
admitted (Some r) = Err r

-- a value that is there only in a found case
abbrev pub if_found : {A : Type 0} → Phase → A → Option A
if_found New x = None
if_found Searching x = None
if_found Found x = Some x
if_found Exhausted x = None

module _ {E R : Type 0} where
  -- the table of a found case
  abbrev pub found_table : Case E R → Option Table
  found_table c = if_found c.phase c.walk.table

  -- What a call answers: it is taken where nothing refuses it, and then does what it is to do; a refused call answers the very refusal, and
  -- leaves the very same case.
  abbrev pub Answers : {A : Type 0} → System → Call → (A → Case E R → Case E R → Type 0) → Case E R → Case E R → Result A Refusal → Type 0
  Answers x call does before after r =
      MatchResult r (λ a. (refusal x before.phase call ≡ None) × does a before after) (λ e. (refusal x before.phase call ≡ Some e) × (after ≡ before))

  -- a new case, with nothing barred
  pub record Fresh (environment : E) (rule : R) (c : Case E R) : Type 0 where
    pub same_environment : c.environment ≡ environment
    pub same_rule : c.rule ≡ rule
    pub new : c.phase ≡ New
    pub unbarred : (o a : ℕ) → barred_at c.bars o a ≡ false

  -- an accepted bar bars that action at that observation, and changes nothing else
  pub record Barred (o a : ℕ) (before after : Case E R) : Type 0 where
    pub same_environment : after.environment ≡ before.environment
    pub same_rule : after.rule ≡ before.rule
    pub same_phase : after.phase ≡ before.phase
    pub same_walk : after.walk ≡ before.walk
    pub same_picture : after.picture ≡ before.picture
    pub barred : (o' a' : ℕ) → barred_at after.bars o' a' ≡ (barred_at before.bars o' a' || (o == o' && a == a'))

  -- an accepted begin puts the case at the root: a table of n memories over the environment's alphabet, every entry blank
  pub record Begun (x : System) (n : ℕ) (before after : Case E R) : Type 0 where
    pub same_environment : after.environment ≡ before.environment
    pub same_rule : after.rule ≡ before.rule
    pub same_bars : after.bars ≡ before.bars
    pub same_picture : after.picture ≡ before.picture
    pub searching : after.phase ≡ Searching
    pub bound : after.walk.table.memories ≡ n
    pub actions : after.walk.table.actions ≡ x.actions
    pub observations : after.walk.table.observations ≡ x.observations
    pub root : after.walk.table.entries ≡ replicate 64 Blank
    pub fresh : places_of after.walk.trail ≡ []
    pub bare : after.walk.trail ≡ unused

  -- what stays over an advance and a next: the table too has as many memories, over one alphabet
  pub record Kept (before after : Case E R) : Type 0 where
    pub same_environment : after.environment ≡ before.environment
    pub same_rule : after.rule ≡ before.rule
    pub same_bars : after.bars ≡ before.bars
    pub same_counts : SameCounts before.walk.table after.walk.table

  -- the walk goes to the next table that does not lie below this one, and the case is searching; where there is none, it is exhausted
  abbrev pub Retreated : Case E R → Case E R → Type 0
  Retreated before after =
      Kept before after × ((r : Bool) × Back before.bars before.walk after.walk r × (after.phase ≡ cond r Searching Exhausted))

  -- the case has the picture of its table, in which no reached configuration is open
  pub record Closed (x : System) (c : Case E R) : Type 0 where
    pub drawn : PictureOf x c.walk.table c.picture
    pub none_open : (m s : ℕ) → is_open c.picture m s ≡ false

  -- one table judged: the case is found at a closed table, or stands at another table, or has no further one
  pub record Stepped (x : System) (before after : Case E R) : Type 0 where
    pub kept : Kept before after
    pub begun : after.phase ≡ New → ⊥
    pub found : after.phase ≡ Found → Closed x after

  -- an accepted advance answers the state that it leaves, and judges 1 to `amount` tables, all of them where it goes on searching; a found
  -- table is closed
  pub record Advanced (x : System) (amount : ℕ) (answer : Answer) (before after : Case E R) : Type 0 where
    pub kept : Kept before after
    pub told : answer.phase ≡ after.phase
    pub some : 1 ≤ answer.judged
    pub few : answer.judged ≤ amount
    pub whole : after.phase ≡ Searching → answer.judged ≡ amount
    pub begun : after.phase ≡ New → ⊥
    pub found : after.phase ≡ Found → Closed x after

  -- an accepted next leaves the found table, and answers the state that it comes to
  pub record Left (answer : Phase) (before after : Case E R) : Type 0 where
    pub told : answer ≡ after.phase
    pub left : Retreated before after

  -- what worst answers and leaves in the loads: refused by the state it changes nothing; in a found case it goes by the picture
  pub record Weighed {L : Type 0} (none : L) (x : System) (c : Case E R) (before after : List L) (r : Result L Refusal) : Type 0 where
    pub refused : (e : Refusal) → unfound c.phase ≡ Some e → (r ≡ Err e) × (after ≡ before)
    pub measured : unfound c.phase ≡ None → MatchResult r (λ _. Loaded none (size x c.walk.table) c.picture before after) (λ e. Refused (size x c.walk.table) c.picture before after e)
