-- The checks of a model sheet in their order: the first that fails is the refusal.
use Rattle.std.specs.Prelude.{◌≡◌, ℕ, zero, suc, ◌+◌, ◌*◌, ◌/◌, ◌%◌, ◌^◌, Bool, false, cond, not, ◌&&◌, ◌||◌, List, [], ◌∷◌, length, Ok, Err, Result, MatchResult, ◌==◌, nat_le, nat_lt, slice_index}
use Rattle.refusals.specs.declared.Refusal.{Refusal}
use Rattle.refusals.specs.declared.Refusal.TheVariants.{Length, Mark, Count, StateSet, Observation, Index, NotRising, Field, Repeated}
use Rattle.refusals.specs.Range.{outside}
use Rattle.faults.specs.declared.ChainFault.{ChainFault}
use Rattle.faults.specs.declared.SheetFault.{SheetFault}
use Rattle.faults.specs.declared.SheetFault.TheVariants.{Sheet}
use Rattle.faults.specs.Place.{in_sheet}
use Rattle.modelsheet.specs.Sheet.{states_of, actions_of, observations_of, records_of, initial_of, goal_of, sight_at, sight_of, head_at, head_of, target_at, target_of, next_at, next_of, laid_length}

-- One check, and then the next if it passes.
abbrev pub and_then : {A B E : Type 0} → Result A E → (A → Result B E) → Result B E
and_then (Ok x) f = f x
and_then (Err e) f = Err e

-- The fault of a check, carried up to another layer.
abbrev pub raise : {A E F : Type 0} → (E → F) → Result A E → Result A F
raise f (Ok x) = Ok x
raise f (Err e) = Err (f e)

-- What a reader answers, held to a verdict: a value with the property P where all checks pass, else the very fault.
abbrev pub Judged : {A E : Type 0} → Result Unit E → (A → Type 0) → Result A E → Type 0
Judged verdict P r = MatchResult r (λ x. (verdict ≡ Ok tt) × P x) (λ f. verdict ≡ Err f)

abbrev pub refuse : Refusal → ℕ → Result Unit SheetFault
refuse r at = Err (Sheet (record { refusal = r; byte = at }))

-- A fault of the chain of state s and action a.
abbrev pub fault_of : ℕ → ℕ → Refusal → ℕ → ChainFault
fault_of s a r at = record { fault = record { refusal = r; byte = at }; head = record { state = s; action = a } }

abbrev pub blame : ℕ → ℕ → Refusal → ℕ → Result Unit ChainFault
blame s a r at = Err (fault_of s a r at)

abbrev pub judge_header : List ℕ → Result Unit SheetFault
judge_header b =
    cond (nat_lt (length b) 21) (refuse Length (length b))
    (cond (not (slice_index b 0 == 77)) (refuse Mark 0)
    (cond (outside 64 (states_of b)) (refuse Count 1)
    (cond (outside 8 (actions_of b)) (refuse Count 2)
    (cond (outside 16 (observations_of b)) (refuse Count 3)
    (cond (not (length b == laid_length b)) (refuse Length (length b))
    (Ok tt))))))

-- A set holds a state at or beyond n just if it is at least 2 ^ n.
abbrev pub beyond : ℕ → ℕ → Bool
beyond n set = nat_le (2 ^ n) set

abbrev pub judge_sets : List ℕ → Result Unit SheetFault
judge_sets b =
    cond (initial_of b == 0 || beyond (states_of b) (initial_of b)) (refuse StateSet 5)
    (cond (beyond (states_of b) (goal_of b)) (refuse StateSet 13)
    (Ok tt))

-- The observations of n states from state s on.
abbrev pub judge_sights : List ℕ → ℕ → ℕ → Result Unit SheetFault
judge_sights b zero s = Ok tt
judge_sights b (suc n) s =
    cond (nat_le (observations_of b) (sight_of b s)) (refuse Observation (sight_at s))
    (judge_sights b n (s + 1))

abbrev pub elem : ℕ → List ℕ → Bool
elem t [] = false
elem t (x ∷ xs) = x == t || elem t xs

-- Record i on the chain of state s and action a, where the targets of the records before it are those in met.
abbrev pub judge_record : List ℕ → ℕ → ℕ → List ℕ → ℕ → Result Unit ChainFault
judge_record b s a met i =
    cond (nat_le (states_of b) (target_of b i)) (blame s a Field (target_at b i))
    (cond (elem (target_of b i) met) (blame s a Repeated (target_at b i))
    (cond (nat_lt (records_of b) (next_of b i)) (blame s a Index (next_at b i))
    (cond (not (next_of b i == 0) && nat_le (next_of b i) i) (blame s a NotRising (next_at b i))
    (Ok tt))))

-- The chain from record i on, of at most n records: next indices rise, so that no chain has more than there are records.
abbrev pub judge_chain : List ℕ → ℕ → ℕ → ℕ → List ℕ → ℕ → Result Unit ChainFault
judge_chain b s a zero met i = Ok tt
judge_chain b s a (suc n) met i =
    cond (i == 0) (Ok tt)
    (and_then (judge_record b s a met i) (λ _. judge_chain b s a n (target_of b i ∷ met) (next_of b i)))

-- Head k, which is that of state k / A and action k % A, and its chain.
abbrev pub judge_head : List ℕ → ℕ → Result Unit ChainFault
judge_head b k =
    cond (nat_lt (records_of b) (head_of b k)) (blame (k / actions_of b) (k % actions_of b) Index (head_at b k))
    (judge_chain b (k / actions_of b) (k % actions_of b) (records_of b) [] (head_of b k))

-- The chains of n heads from head k on.
abbrev pub judge_heads : List ℕ → ℕ → ℕ → Result Unit ChainFault
judge_heads b zero k = Ok tt
judge_heads b (suc n) k = and_then (judge_head b k) (λ _. judge_heads b n (k + 1))

-- The whole sheet.
abbrev pub judge : List ℕ → Result Unit SheetFault
judge b =
    and_then (judge_header b) (λ _.
    and_then (judge_sets b) (λ _.
    and_then (judge_sights b (states_of b) 0) (λ _.
    raise in_sheet (judge_heads b (states_of b * actions_of b) 0))))
