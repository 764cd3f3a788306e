-- One turn of `read_field`'s loop over the bytes of s, at byte i: the rest of s is opened into that byte and what follows it, and the
-- definition takes its case by the tests that the turn made. `whole` is what the loop is to answer.
use Prim.Native.Nat.{ℕ, ◌+◌, ◌-◌, ◌*◌, ◌≤◌, ◌<◌}
use mathlib.Core.Bool.{Bool, true, false, cond, ◌&&◌, not}
use mathlib.Core.List.{List, ◌∷◌}
use mathlib.Core.Path.{◌≡◌, sym, ◌∙◌}
use native.Mathlib.Numerals.{add-one}
use lib.Dec.{eqb, leb}
use lib.ListN.{length, get_or, drop, drop_of_length-le}
use lib.Seq.{drop-cons}
use borrow.Author.Tests.{eq-eqb, ne_eqb, not-true, not-false, leb-true}
use Rattle.parts.proofs.Bools.{and_left, and_right}
use Rattle.numbers.specs.Bytes.{tab}
use Rattle.numbers.specs.Number.{number_most, follows, scan}
use Rattle.numbers.specs.Field.{Field, Bad, Last, Then}

pub opened : (s : List ℕ) (i : ℕ) → i < length s → drop i s ≡ get_or s i 0 ∷ drop (i + 1) s
opened s i h = rw (add-one, drop-cons s i 0)

-- what a byte that follows is: a digit, after no lone zero, with a value that is not too great
pub follows_says :
    (some : Bool) (v b : ℕ) →
    follows some v b ≡ true →
    (48 ≤ b) × (b ≤ 57) × ((some && eqb v 0) ≡ false) × (10 * v + (b - 48) ≤ number_most)
follows_says some v b e =
    let low = and_left (leb 48 b && leb b 57) (not (some && eqb v 0)) (and_left (leb 48 b && leb b 57 && not (some && eqb v 0)) _ e) in
    let lone = and_right (leb 48 b && leb b 57) (not (some && eqb v 0)) (and_left (leb 48 b && leb b 57 && not (some && eqb v 0)) _ e) in
    let fits = and_right (leb 48 b && leb b 57 && not (some && eqb v 0)) _ e in (
      leb-true 48 b (and_left (leb 48 b) (leb b 57) low),
      leb-true b 57 (and_right (leb 48 b) (leb b 57) low),
      not-true (some && eqb v 0) lone,
      leb-true (10 * v + (b - 48)) number_most fits,
    )

pub digit : (t some : Bool) (v b : ℕ) → t ≡ follows some v b → not t ≡ false → (48 ≤ b) × (10 * v + (b - 48) ≤ number_most)
digit t some v b says e = let w = follows_says some v b (sym says ∙ not-false t e) in (w.0, w.3)

module _ (s : List ℕ) (i : ℕ) (some : Bool) (v : ℕ) (whole : Field) (so : whole ≡ scan some v i (drop i s)) where
  pub at_tab_lem : (w : Field) → i < length s → get_or s i 0 ≡ 9 → w ≡ cond some (Then v (i + 1)) Bad → w ≡ whole
  unfolding scan
  at_tab_lem w h e is = is ∙ sym (so ∙ rw (opened s i h, eq-eqb (get_or s i 0) tab e))

  pub at_other : (b : Bool) → i < length s → (get_or s i 0 ≡ 9 → ⊥) → b ≡ follows some v (get_or s i 0) → not b ≡ true → Bad ≡ whole
  unfolding scan
  at_other b h d says e = sym (so ∙ rw (opened s i h, ne_eqb (get_or s i 0) tab d, sym says ∙ not-true b e))

  pub at_digit :
      (b : Bool) (n : ℕ) →
      i < length s →
      (get_or s i 0 ≡ 9 → ⊥) →
      b ≡ follows some v (get_or s i 0) →
      not b ≡ false →
      n ≡ 10 * v + (get_or s i 0 - 48) →
      whole ≡ scan true n (i + 1) (drop (i + 1) s)
  unfolding scan
  at_digit b n h d says e grown = so ∙ rw (grown, opened s i h, ne_eqb (get_or s i 0) tab d, sym says ∙ not-false b e)

  pub at_last : (w : Field) → length s ≤ i → w ≡ cond some (Last v) Bad → w ≡ whole
  unfolding scan
  at_last w h is = is ∙ sym (so ∙ rw (drop_of_length-le s h))
