-- One turn of `line_end`'s loop over the bytes of s, at byte i: the rest of s is opened into that byte and what follows it, and the
-- definition takes its case by the tests that the turn made. `whole` is what the loop is to answer.
use Prim.Native.Nat.{ℕ, zero, suc, ◌+◌, ◌-◌, ◌≤◌, ◌<◌}
use mathlib.Core.Bool.{Bool, true, false, cond}
use mathlib.Core.List.{List, [], ◌∷◌}
use mathlib.Core.Path.{◌≡◌, refl, sym, ◌∙◌}
use native.Mathlib.Nat.{not-suc-le-zero}
use native.Mathlib.Numerals.{unary_clauses}
use native.Mathlib.Omega.{arith}
use lib.Dec.{eqb}
use lib.ListN.{length, get_or, take, drop, drop_of_length-le, length-drop}
use borrow.Author.Tests.{eq-eqb, ne_eqb}
use Rattle.numbers.specs.Bytes.{end}
use Rattle.numbers.proofs.Turns.{opened}
use Rattle.lines.specs.Bytes.{line_most}
use Rattle.lines.specs.Reading.{ending, line_end_lem, parse_step_lem, step_line_lem}
use Rattle.lines.specs.Ending.{Ending, At, Long, Short}
use Rattle.lines.specs.StepLine.{StepLine, Malformed, Unfinished}

-- the step line at a place that is not past the end, by where it ends
abbrev pub step_to : List ℕ → ℕ → Ending → StepLine
step_to s at found = elim found [ At e ↦ step_line_lem (parse_step_lem (take (e - at) (drop at s))) (e + 1) | Long ↦ Malformed | Short ↦ Unfinished ]

-- a look at one byte more, while looks are left
look_byte :
    (f i b : ℕ) (bs : List ℕ) → 0 < f → ending f i (b ∷ bs) ≡ cond (eqb b end) (At i) (ending (f - 1) (i + 1) bs)
unfolding ending
look_byte zero i b bs p = absurd (not-suc-le-zero p)
look_byte (suc f) i b bs p = simp unary_clauses

look_past : (f i : ℕ) → 0 < f → ending f i [] ≡ Short
unfolding ending
look_past zero i p = absurd (not-suc-le-zero p)
look_past (suc f) i p = refl

look_over : (f i : ℕ) (bs : List ℕ) → f ≤ 0 → ending f i bs ≡ Long
unfolding ending
look_over zero i bs p = refl
look_over (suc f) i bs p = absurd (not-suc-le-zero p)

module _ (s : List ℕ) (i left : ℕ) (whole : Ending) (so : whole ≡ ending left i (drop i s)) where
  pub at_none : 0 < left → length s ≤ i → Short ≡ whole
  at_none p h = sym (so ∙ rw (drop_of_length-le s h) (look_past left i p))

  pub at_end : 0 < left → i < length s → get_or s i 0 ≡ 10 → At i ≡ whole
  at_end p h e = sym (so ∙ rw (opened s i h, look_byte left i (get_or s i 0) (drop (i + 1) s) p, eq-eqb (get_or s i 0) end e))

  pub at_more :
      (rest : ℕ) → rest ≡ left - 1 → 0 < left → i < length s → (get_or s i 0 ≡ 10 → ⊥) → whole ≡ ending rest (i + 1) (drop (i + 1) s)
  at_more rest e p h d = so ∙ rw (e, opened s i h, look_byte left i (get_or s i 0) (drop (i + 1) s) p, ne_eqb (get_or s i 0) end d)

  pub at_long : left ≤ 0 → Long ≡ whole
  at_long p = sym (so ∙ look_over left i (drop i s) p)

-- a line's end that is found stands at one of the bytes looked at
pub found : (f i e : ℕ) (bs : List ℕ) → ending f i bs ≡ At e → (i ≤ e) × (e < i + length bs)
unfolding ending
found zero i e bs is = let z : ◌≡◌ {A = ℕ} 0 1 = cc in absurd (omega arith)
found (suc f) i e [] is = let z : ◌≡◌ {A = ℕ} 0 1 = cc in absurd (omega arith)
found (suc f) i e (b ∷ bs) is = go (eqb b end) is (found f (i + 1) e bs)
  where
    go :
        (t : Bool) →
        cond t (At i) (ending f (i + 1) bs) ≡ At e →
        (ending f (i + 1) bs ≡ At e → (i + 1 ≤ e) × (e < i + 1 + length bs)) →
        (i ≤ e) × (e < i + suc (length bs))
    go true same later = let z : i ≡ e = cc in (omega arith, omega arith)
    go false same later = let w = later same in (omega arith, omega arith)

pub found_within : (s : List ℕ) (at e : ℕ) (w : Ending) → at < length s → w ≡ line_end_lem s at → w ≡ At e → (at ≤ e) × (e < length s)
found_within s at e w h says is =
    let z = found line_most at e (drop at s) (sym says ∙ is) in
    let l = length-drop at s in
    (omega arith, omega arith)
