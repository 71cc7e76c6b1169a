-- What holds while a picture is drawn.
use Rattle.std.proofs.Common.{◌≡◌, ℕ, ◌*◌, ◌-◌, ◌^◌, ◌<◌, true, false, not, ◌&&◌, ◌||◌, eqb, ltb, ◌⊎◌, List, sym, ◌∙◌, subst, subst₂, inl, inr, arith}
use Rattle.std.proofs.lemmas.Bool.{cases_Bool, both_ways, eq-eqb, eqb-true, lt-ltb, and_parts, and_from, or_cases, or_left, or_right, not-true, not_from_false}
use Rattle.sets.specs.Mask.{has}
use Rattle.environment.specs.System.{System}
use Rattle.controller.specs.declared.table.Table.{Table}
use Rattle.configurations.specs.Holds.{holds, same, weight}
use Rattle.configurations.proofs.Sets.{same_self, weight-lt, weight_bounded}
use Rattle.picture.specs.declared.Kind.{Kind}
use Rattle.picture.specs.declared.Kind.TheVariants.{Moving}
use Rattle.picture.specs.declared.Picture.{Picture}
use Rattle.picture.specs.Drawn.{PictureOf}
use Rattle.picture.specs.Kinds.{is_reached, kind_at}
use Rattle.picture.specs.Put.{Put}
use Rattle.picture.specs.Runs.{kind_of, Reached, start, step}

abbrev pub In : List ℕ → ℕ → ℕ → Type 0
In c m s = holds c m s ≡ true

-- What `add` makes of a set.
abbrev pub Added : ℕ → ℕ → List ℕ → List ℕ → Type 0
Added n o before after = (m s : ℕ) → holds after m s ≡ (holds before m s || (ltb n 4 && (eqb n m && has o s)))

-- what is left of a set without another is in the one and not in the other; where nothing is left, all of the one is in the other
module _ (all done rest : List ℕ) (made : (m s : ℕ) → holds rest m s ≡ (holds all m s && not (holds done m s))) where
  pub left_in : (m s : ℕ) → In rest m s → In all m s
  left_in m s h = (and_parts (holds all m s) _ (sym (made m s) ∙ h)).0

  pub left_out : (m s : ℕ) → In rest m s → holds done m s ≡ false
  left_out m s h = not-true (holds done m s) (and_parts (holds all m s) _ (sym (made m s) ∙ h)).1

  pub all_in : ((m s : ℕ) → holds rest m s ≡ false) → (m s : ℕ) → In all m s → In done m s
  all_in none m s h = elim (cases_Bool (holds done m s)) [
    | inl y ↦ y
    | inr n ↦ absurd (both_ways _ (none m s) (made m s ∙ and_from (holds all m s) _ h (not_from_false _ n)))
  ]

-- each configuration more leaves fewer that are not reached
pub fewer_left : (p q : Picture) (m s : ℕ) (k : Kind) → m < 4 → is_reached p m s ≡ false → Put m s k p q → 4 * 2 ^ 64 - weight q.reached.states < 4 * 2 ^ 64 - weight p.reached.states
fewer_left p q m s k lt fresh put =
    omega (
      arith,
      weight-lt p.reached.states q.reached.states (λ n t h. put.reached n t ∙ or_left _ _ h) m s lt fresh (put.reached m s ∙ or_right _ _ (same_self m s)),
      weight_bounded q.reached.states (λ n t h. (q.bounded n t h).1),
    )

-- What is marked comes up in runs, the starts are marked; what is drawn is marked and has its kind, and its outcomes are marked.
pub record Live (x : System) (t : Table) (p : Picture) (marks : List ℕ) : Type 0 where
  pub sound : (m s : ℕ) → In marks m s → Reached x t m s
  pub starts : (s : ℕ) → has x.initial s ≡ true → In marks 0 s
  pub marked : (m s : ℕ) → is_reached p m s ≡ true → In marks m s
  pub kinds : (m s : ℕ) → is_reached p m s ≡ true → kind_at p m s ≡ kind_of x t m s
  pub closed : (m s n o u : ℕ) → is_reached p m s ≡ true → kind_of x t m s ≡ Moving n o → has o u ≡ true → In marks n u

pub live_none : (x : System) (t : Table) (p : Picture) (none marks : List ℕ) → ((m s : ℕ) → holds none m s ≡ false) → Added 0 x.initial none marks → ((m s : ℕ) → is_reached p m s ≡ false) → Live x t p marks
live_none x t p none marks empty added fresh = record {
  sound = λ m s h. elim (or_cases (holds none m s) (eqb 0 m && has x.initial s) (sym (added m s) ∙ h)) [
    | inl y ↦ absurd (both_ways _ (empty m s) y)
    | inr y ↦ let z = and_parts (eqb 0 m) (has x.initial s) y in subst (λ (k : ℕ). Reached x t k s) (eqb-true 0 m z.0) (start z.1)
  ];
  starts = λ s b. added 0 s ∙ or_right (holds none 0 s) _ b;
  marked = λ m s h. absurd (both_ways _ (fresh m s) h);
  kinds = λ m s h. absurd (both_ways _ (fresh m s) h);
  closed = λ m s n o u h. absurd (both_ways _ (fresh m s) h);
}

-- nothing is left that is marked and not drawn
pub live_all : (x : System) (t : Table) (p : Picture) (marks : List ℕ) → Live x t p marks → ((m s : ℕ) → In marks m s → is_reached p m s ≡ true) → PictureOf x t p
live_all x t p marks v all = record { reached = λ m s. (λ h. v.sound m s (v.marked m s h), complete); kinds = λ m s r. v.kinds m s (complete r) }
  where
    complete : {m s : ℕ} → Reached x t m s → is_reached p m s ≡ true
    complete (start {s} b) = all 0 s (v.starts s b)
    complete (step {m} {s} {n} {o} {u} r k b) = all n u (v.closed m s n o u (complete r) k b)

module _ (x : System) (t : Table) (p q : Picture) (marks : List ℕ) (m s : ℕ) (k : Kind) (v : Live x t p marks) (here : In marks m s) (fresh : is_reached p m s ≡ false)
    (put : Put m s k p q) (is : k ≡ kind_of x t m s) where
  -- what is drawn now was drawn before, or is the new one
  now_drawn : (a b : ℕ) → is_reached q a b ≡ true → (is_reached p a b ≡ true) ⊎ ((m ≡ a) × (s ≡ b))
  now_drawn a b h =
      elim (or_cases (is_reached p a b) (same m s a b) (sym (put.reached a b) ∙ h)) [
        | inl y ↦ inl y
        | inr y ↦ let z = and_parts (eqb m a) (eqb s b) y in inr (eqb-true m a z.0, eqb-true s b z.1)
      ]

  -- one that was drawn before is another one
  other : (a b : ℕ) → is_reached p a b ≡ true → same m s a b ≡ false
  other a b y = elim (cases_Bool (same m s a b)) [
    | inl z ↦
        let e = and_parts (eqb m a) (eqb s b) z in
        absurd (both_ways _ (subst₂ (λ (c d : ℕ). is_reached p c d ≡ false) (eqb-true m a e.0) (eqb-true s b e.1) fresh) y)
    | inr z ↦ z
  ]

  kinds' : (a b : ℕ) → is_reached q a b ≡ true → kind_at q a b ≡ kind_of x t a b
  kinds' a b h = elim (now_drawn a b h) [
    | inl y ↦ put.there a b (p.bounded a b y).1 (other a b y) ∙ v.kinds a b y
    | inr e ↦ subst₂ (λ (c d : ℕ). kind_at q c d ≡ kind_of x t c d) e.0 e.1 (put.here ∙ is)
  ]

  -- it does not move
  pub live_rests : ((n o : ℕ) → k ≡ Moving n o → ⊥) → Live x t q marks
  live_rests rests = record {
    sound = v.sound;
    starts = v.starts;
    marked = λ a b h. elim (now_drawn a b h) [ inl y ↦ v.marked a b y | inr e ↦ subst₂ (λ (c d : ℕ). In marks c d) e.0 e.1 here ];
    kinds = kinds';
    closed = λ a b n o u h c w. elim (now_drawn a b h) [
      | inl y ↦ v.closed a b n o u y c w
      | inr e ↦ absurd (rests n o (is ∙ subst₂ (λ (c d : ℕ). kind_of x t c d ≡ Moving n o) (sym e.0) (sym e.1) c))
    ];
  }

  -- it moves, and its outcomes are marked
  pub live_moves : (n o : ℕ) (more : List ℕ) → k ≡ Moving n o → n < 4 → Added n o marks more → Live x t q more
  live_moves n o more mv lt added = record {
    sound = λ a b h. elim (or_cases (holds marks a b) (ltb n 4 && (eqb n a && has o b)) (sym (added a b) ∙ h)) [
      | inl y ↦ v.sound a b y
      | inr y ↦
          let z = and_parts (eqb n a) (has o b) (and_parts (ltb n 4) _ y).1 in
          subst (λ (c : ℕ). Reached x t c b) (eqb-true n a z.0) (step (v.sound m s here) (sym is ∙ mv) z.1)
    ];
    starts = λ b h. old 0 b (v.starts b h);
    marked = λ a b h. elim (now_drawn a b h) [ inl y ↦ old a b (v.marked a b y) | inr e ↦ subst₂ (λ (c d : ℕ). In more c d) e.0 e.1 (old m s here) ];
    kinds = kinds';
    closed = λ a b n' o' u h c w. elim (now_drawn a b h) [
      | inl y ↦ old n' u (v.closed a b n' o' u y c w)
      | inr e ↦
          let r : Moving n o ≡ Moving n' o' = sym mv ∙ is ∙ subst₂ (λ (c d : ℕ). kind_of x t c d ≡ Moving n' o') (sym e.0) (sym e.1) c in
          let en : n ≡ n' = cc in
          let eo : o ≡ o' = cc in
          added n' u ∙ or_right _ _ (and_from (ltb n 4) _ (lt-ltb n 4 lt) (and_from (eqb n n') (has o u) (eq-eqb n n' en) (subst (λ (d : ℕ). has d u ≡ true) (sym eo) w)))
    ];
  }
    where
      old : (a b : ℕ) → In marks a b → In more a b
      old a b h = added a b ∙ or_left _ _ h
