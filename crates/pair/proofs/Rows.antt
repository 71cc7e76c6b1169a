-- How the product of two sets is made: a copy of the second set for each state of the first, in rows of w states.
use Rattle.std.specs.Prelude.{◌≡◌, ℕ, suc, ◌+◌, ◌-◌, ◌*◌, ◌/◌, ◌%◌, ◌<◌, ◌≤◌, min, Bool, true, false, not, ◌&&◌, ◌||◌, ltb, ◌==◌, nat_le, nat_lt, refl}
use Rattle.std.proofs.Common.{sym, ap, ap₂, subst, ◌∙◌, inl, inr, arith, mul-zero, suc-mul}
use Rattle.std.proofs.Math.Bool.{and-not_self}
use Rattle.std.proofs.lemmas.Nat.{div_below, div-add-mod', le-div, mod_below, mul-le}
use Rattle.std.proofs.lemmas.Bool.{cases_lt, cases_eq, cases_order, eq-eqb, ne_eqb, lt-ltb, le-ltb, le-leb, lt-leb, ltb-true, and_left, and_parts, and_right}
use Rattle.sets.specs.Mask.{has, Smallest}
use Rattle.sets.proofs.Bits.{has_none}
use Rattle.sets.proofs.Chosen.{is_chosen}
use Rattle.sets.proofs.Members.{Left}
use Rattle.pair.specs.Pairs.{product}

-- the set p, cut to the states below n
abbrev pub Cut : ℕ → ℕ → ℕ → Type 0
Cut p n c = (t : ℕ) → has c t ≡ (has p t && nat_lt t n)

pub cut : (p n m c : ℕ) → n ≤ 64 → ((t : ℕ) → has m t ≡ nat_lt t (min n 64)) → ((t : ℕ) → has c t ≡ (has p t && has m t)) → Cut p n c
cut p n m c few low both t = let e : min n 64 ≡ n = omega arith in both t ∙ ap (λ b. has p t && b) (low t ∙ ap (ltb t) e)

past : (p n c t : ℕ) → Cut p n c → n ≤ t → has c t ≡ false
past p n c t h g = h t ∙ and_right (has p t) (nat_lt t n) (le-ltb t n g)

-- The rows of a pair: h rows of w states, and the sets p and q cut to them.
pub record Framed (h w p q rows row : ℕ) : Type 0 where
  pub few : h * w ≤ 64
  pub rows_cut : Cut p h rows
  pub row_cut : Cut q w row

-- What holds while rows are copied: those of `rows` that are not left any more have theirs.
pub record Copied (w rows row left set : ℕ) : Type 0 where
  pub left_in : (k : ℕ) → has left k ≡ true → has rows k ≡ true
  pub copied : (t : ℕ) → has set t ≡ ((has rows (t / w) && not (has left (t / w))) && has row (t % w))

pub nothing_copied : (w rows row : ℕ) → Copied w rows row rows 0
nothing_copied w rows row = record { left_in = λ k h. h; copied = λ t. has_none t ∙ sym (and_left _ _ (and-not_self (has rows (t / w)))) }

module _ (h w p q rows row left part : ℕ) (f : Framed h w p q rows row) (in_rows : (k : ℕ) → has left k ≡ true → has rows k ≡ true) (least : Smallest left part) where
  below : part < h
  below = ltb-true part h (and_parts (has p part) (nat_lt part h) (sym (f.rows_cut part) ∙ in_rows part least.here)).1

  -- there is room for the whole of its row
  pub room : w + part * w ≤ 64
  room = omega (arith, mul-le (suc part) w h w (omega (arith, below)) (omega arith), suc-mul part w, f.few)

  -- the second set, moved up to the row of this state
  module _ (moved : ℕ) (up : (t : ℕ) → has moved t ≡ (nat_lt t 64 && nat_le (part * w) t && has row (t - part * w))) where
    in_row : (t : ℕ) → 0 < w → has moved t ≡ (part == t / w && has row (t % w))
    in_row t some = up t ∙ elim (cases_order part (t / w)) [
      | inl e ↦
          let at : part * w + t % w ≡ t = ap (λ (n : ℕ). n * w + t % w) e ∙ div-add-mod' t w in
          let fits : t < 64 = omega (arith, mod_below t w some, mul-le (suc part) w h w (omega (arith, below)) (omega arith), suc-mul part w, f.few) in
          let rest : t - part * w ≡ t % w = omega arith in
          rw (lt-ltb t 64 fits, le-leb (part * w) t (omega arith), eq-eqb part (t / w) e, rest) refl
      | inr (inl l) ↦
          let far : w + part * w ≤ t = omega (arith, div-add-mod' t w, mul-le (suc part) w (t / w) w (omega arith) (omega arith), suc-mul part w) in
          and_right (nat_lt t 64 && nat_le (part * w) t) _ (past q w row (t - part * w) f.row_cut (omega arith))
          ∙ sym (and_left (part == t / w) (has row (t % w)) (ne_eqb part (t / w) (λ e. omega arith)))
      | inr (inr g) ↦
          let near : t < part * w = omega (arith, div-add-mod' t w, mod_below t w some, mul-le (suc (t / w)) w part w (omega arith) (omega arith), suc-mul (t / w) w) in
          and_left (nat_lt t 64 && nat_le (part * w) t) _ (and_right (nat_lt t 64) _ (lt-leb (part * w) t near))
          ∙ sym (and_left (part == t / w) (has row (t % w)) (ne_eqb part (t / w) (λ e. omega arith)))
    ]

    at_row : (t : ℕ) → has moved t ≡ (part == t / w && has row (t % w))
    at_row t = elim (cases_eq w 0) [
      | inl e ↦
          let none : (k : ℕ) → has row k ≡ false = λ k. past q w row k f.row_cut (omega arith) in
          up t ∙ and_right (nat_lt t 64 && nat_le (part * w) t) _ (none (t - part * w)) ∙ sym (and_right (part == t / w) _ (none (t % w)))
      | inr ne ↦ in_row t (omega arith)
    ]

    pub copied_more : (next set new : ℕ) → Left left part next → Copied w rows row left set → ((t : ℕ) → has new t ≡ (has set t || has moved t)) → Copied w rows row next new
    copied_more next set new taken c made = record {
      left_in = λ k e. in_rows k (and_parts (has left k) (not (part == k)) (sym (taken k) ∙ e)).0;
      copied = λ t. made t ∙ ap₂ ◌||◌ (c.copied t) (at_row t) ∙ turn (t / w) (has row (t % w)) ∙ ap (λ b. (has rows (t / w) && not b) && has row (t % w)) (sym (taken (t / w)));
    }
      where
        other : (f l r : Bool) → (((f && not l) && r) || (false && r)) ≡ ((f && not (l && not false)) && r)
        other true true r = refl
        other true false true = refl
        other true false false = refl
        other false l r = refl

        turn : (k : ℕ) (r : Bool) → (((has rows k && not (has left k)) && r) || (part == k && r)) ≡ ((has rows k && not (has left k && not (part == k))) && r)
        turn k r = elim (cases_eq part k) [
          | inl e ↦ let here : has left k ≡ true = subst (λ (x : ℕ). has left x ≡ true) e least.here in rw (here, in_rows k here, eq-eqb part k e) refl
          | inr ne ↦ rw (ne_eqb part k ne) (other (has rows k) (has left k) r)
        ]

-- state t of a pair lies in row t / w, which is one of the h rows just if t is one of the pair's states
row_in : (h w t : ℕ) → 0 < w → nat_lt (t / w) h ≡ nat_lt t (h * w)
row_in h w t some = elim (cases_lt t (h * w)) [
  | inl l ↦ lt-ltb (t / w) h (div_below t w h some l) ∙ sym (lt-ltb t (h * w) l)
  | inr g ↦ le-ltb (t / w) h (le-div h t w some g) ∙ sym (le-ltb t (h * w) g)
]

pub all_copied : (h w p q rows row left set : ℕ) → Framed h w p q rows row → Copied w rows row left set → left ≡ 0 → set ≡ product h w p q
unfolding product
all_copied h w p q rows row left set f c done = is_chosen set (h * w) (λ t. has p (t / w) && has q (t % w)) (λ t. elim (cases_eq w 0) [ inl e ↦ none t e | inr ne ↦ some t (omega arith) ])
  where
    drop : (f r i o : Bool) → o ≡ true → (((f && i) && not false) && (r && o)) ≡ (i && (f && r))
    drop true true true o e = rw e refl
    drop true true false o e = refl
    drop true false true o e = refl
    drop true false false o e = refl
    drop false r true o e = refl
    drop false r false o e = refl

    some : (t : ℕ) → 0 < w → has set t ≡ (nat_lt t (h * w) && (has p (t / w) && has q (t % w)))
    some t wide =
        c.copied t
        ∙ rw (f.rows_cut (t / w), f.row_cut (t % w), ap (λ (x : ℕ). has x (t / w)) done, has_none (t / w), row_in h w t wide)
        (drop (has p (t / w)) (has q (t % w)) (nat_lt t (h * w)) (nat_lt (t % w) w) (lt-ltb (t % w) w (mod_below t w wide)))

    none : (t : ℕ) → w ≡ 0 → has set t ≡ (nat_lt t (h * w) && (has p (t / w) && has q (t % w)))
    none t e =
        c.copied t ∙ and_right _ (has row (t % w)) (past q w row (t % w) f.row_cut (omega arith))
        ∙ sym (and_left (nat_lt t (h * w)) _ (le-ltb t (h * w) (omega (arith, ap (λ (k : ℕ). h * k) e, mul-zero h))))
