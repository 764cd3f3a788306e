-- The line as it is read is the line by its parts. A field that is followed by another one ends behind its start and within the line, so
-- that there are no more fields than bytes left, and reading the first ones by themselves takes none from the others.
use Prim.Native.Nat.{ℕ, zero, suc, ◌-◌, ◌≤◌, ◌<◌}
use mathlib.Core.Bool.{Bool, true, false, cond}
use mathlib.Core.List.{List, [], ◌∷◌}
use mathlib.Core.Logic.{◌⊎◌, inl, inr, ⊎_elim}
use mathlib.Core.Path.{◌≡◌, refl, ◌∙◌, ap, subst}
use native.Mathlib.Nat.{not-suc-le-zero}
use native.Mathlib.Omega.{arith}
use lib.Dec.{eqb}
use lib.ListN.{length, get_or, drop, length-append, length-drop}
use borrow.Author.Tests.{eqb-true}
use Rattle.parts.specs.Parts.{core_no, unit_no}
use Rattle.parts.specs.declared.answer.Step.{Step}
use Rattle.parts.specs.declared.answer.Step.TheVariants.{R, N, P, I, C, L}
use Rattle.numbers.specs.Bytes.{tab}
use Rattle.numbers.specs.Number.{decimal, field}
use Rattle.numbers.specs.Field.{Field}
use Rattle.numbers.specs.Field.{Bad, Last, Then}
use Rattle.numbers.proofs.Scanning.{scan_exact_then}
use Rattle.lines.specs.Reading.{one_number, two_numbers_lem}
use Rattle.lines.specs.Parsed.{Parsed}
use Rattle.lines.specs.Parsed.{Good, Not as NoStep}
use Rattle.writing.specs.Writing.{numbers_of}
use Rattle.loglines.specs.Log.{numbers_from_lem, Shown, shown_after, step_part, parse_log}
use Rattle.loglines.specs.Parts.{part_of, part_two, part_longer, part_after, part_in, rest_from}
use Rattle.loglines.specs.Parts.{Part, Begins, Not}
use Rattle.std.specs.Prelude.{Option, Some, None}

-- The fields from a place on

-- where the next field starts
pub field_moves : (s : List ℕ) (i n j : ℕ) → field s i ≡ Then n j → (i < j) × (j ≤ length s)
field_moves s i n j e =
    let w = scan_exact_then i n j (drop i s) e in
    let l = length-drop i s in
    let m = length-append (decimal n) (tab ∷ w.0) in
    let k = ap (λ (bs : List ℕ). length bs) w.1 in
    (omega (arith, w.2), omega (arith, w.2))

abbrev pub more : ℕ → List ℕ ⊎ Unit {0} → List ℕ ⊎ Unit {0}
more n w = ⊎_elim (λ (ns : List ℕ). inl (n ∷ ns)) inr w

-- by the next field, and what follows each place
abbrev by_field : (ℕ → List ℕ ⊎ Unit {0}) → Field → List ℕ ⊎ Unit {0}
by_field rest w = elim w [ Bad ↦ inr tt | Last n ↦ inl (n ∷ []) | Then n j ↦ more n (rest j) ]

-- a turn for each byte left is enough, and any more change nothing
pub numbers_same : (s : List ℕ) (f g i : ℕ) → length s - i < f → length s - i < g → numbers_from_lem f s i ≡ numbers_from_lem g s i
unfolding numbers_from_lem
numbers_same s zero g i h k = absurd (not-suc-le-zero h)
numbers_same s (suc f) zero i h k = absurd (not-suc-le-zero k)
numbers_same s (suc f) (suc g) i h k = go (field s i) refl (numbers_same s f g)
  where
    go :
        (w : Field) →
        field s i ≡ w →
        ((j : ℕ) → length s - j < f → length s - j < g → numbers_from_lem f s j ≡ numbers_from_lem g s j) →
        by_field (λ j. numbers_from_lem f s j) w ≡ by_field (λ j. numbers_from_lem g s j) w
    go Bad e later = refl
    go (Last n) e later = refl
    go (Then n j) e later =
        let m = field_moves s i n j e in
        ap (more n) (later j (omega (arith, m.0, m.1)) (omega (arith, m.0, m.1)))

pub numbers_bad : (s : List ℕ) (f i : ℕ) → field s i ≡ Bad → numbers_from_lem f s i ≡ inr tt
unfolding numbers_from_lem
numbers_bad s zero i e = refl
numbers_bad s (suc f) i e = ap (by_field (λ j. numbers_from_lem f s j)) e

pub numbers_last : (s : List ℕ) (f i n : ℕ) → 0 < f → field s i ≡ Last n → numbers_from_lem f s i ≡ inl (n ∷ [])
unfolding numbers_from_lem
numbers_last s zero i n p e = absurd (not-suc-le-zero p)
numbers_last s (suc f) i n p e = ap (by_field (λ j. numbers_from_lem f s j)) e

pub numbers_then :
    (s : List ℕ) (f g i n j : ℕ) →
    length s - i < f →
    length s - j < g →
    field s i ≡ Then n j →
    numbers_from_lem f s i ≡ more n (numbers_from_lem g s j)
unfolding numbers_from_lem
numbers_then s zero g i n j p q e = absurd (not-suc-le-zero p)
numbers_then s (suc f) g i n j p q e =
    let m = field_moves s i n j e in
    ap (by_field (λ j. numbers_from_lem f s j)) e ∙ ap (more n) (numbers_same s f g j (omega (arith, m.0, m.1)) q)

-- past the first byte, with the fuel of the whole line
pub numbers_on :
    (s : List ℕ) (i n j : ℕ) → 0 < i → field s i ≡ Then n j → numbers_from_lem (length s) s i ≡ more n (numbers_from_lem (length s) s j)
numbers_on s i n j p e =
    let m = field_moves s i n j e in
    numbers_then s (length s) (length s) i n j (omega (arith, m.0, m.1)) (omega (arith, m.0, m.1)) e

-- The line

abbrev begun : Step → List ℕ ⊎ Unit {0} → Shown ⊎ Unit {0}
begun x w = ⊎_elim (λ (ns : List ℕ). inl (record { step = x; shown = ns })) inr w

abbrev pub parted : List ℕ → Part → Shown ⊎ Unit {0}
parted s Not = inr tt
parted s (Begins x n from) = begun x (rest_from s from)

module _ (s : List ℕ) (letter : ℕ) where
  -- the numbers of the fields, the letter's step first
  abbrev step_of : List ℕ ⊎ Unit {0} → Shown ⊎ Unit {0}
  step_of w = ⊎_elim (step_part letter) inr w

  last_of : (p : Parsed) (n : ℕ) → shown_after p [] (inr tt) ≡ parted s (part_of p n None)
  last_of (Good x) n = refl
  last_of NoStep n = refl

  module _ (k : ℕ) where
    one_then : (x : Step) (w : List ℕ ⊎ Unit {0}) → one_number letter k ≡ Good x → step_of (more k w) ≡ begun x w
    one_then x (inl []) e = simp e
    one_then x (inl (u ∷ ns)) e = simp e
    one_then x (inr tt) e = refl

    two_last : (u : ℕ) → one_number letter k ≡ NoStep → step_of (inl (k ∷ u ∷ [])) ≡ parted s (part_of (two_numbers_lem letter k u) 2 None)
    two_last u e = simp e (last_of (two_numbers_lem letter k u) 2)

    two_then :
        (u j : ℕ) →
        one_number letter k ≡ NoStep →
        step_of (more k (more u (numbers_from_lem (length s) s j))) ≡ parted s (part_of (two_numbers_lem letter k u) 2 (Some j))
    two_then u j e = go (two_numbers_lem letter k u) (numbers_from_lem (length s) s j) refl refl
      where
        go :
            (t : Parsed) (w : List ℕ ⊎ Unit {0}) →
            two_numbers_lem letter k u ≡ t →
            rest_from s (Some j) ≡ w →
            step_of (more k (more u w)) ≡ parted s (part_of t 2 (Some j))
        go (Good x) (inl ns) is rest = simp (e, is, rest)
        go (Good x) (inr tt) is rest = simp rest
        go NoStep (inl ns) is rest = simp (e, is)
        go NoStep (inr tt) is rest = refl

    longer_is : (i : ℕ) → 0 < i → 0 < length s → step_of (more k (numbers_from_lem (length s) s i)) ≡ parted s (part_longer s letter k i)
    longer_is i p long = one (one_number letter k) refl
      where
        two : one_number letter k ≡ NoStep → (f : Field) → field s i ≡ f →
            step_of (more k (numbers_from_lem (length s) s i)) ≡ parted s (part_two letter k f)
        two e Bad is = rw (numbers_bad s (length s) i is)
        two e (Last u) is = rw (numbers_last s (length s) i u long is) (two_last u e)
        two e (Then u j) is = rw (numbers_on s i u j p is) (two_then u j e)

        one : (t : Parsed) → one_number letter k ≡ t →
            step_of (more k (numbers_from_lem (length s) s i))
            ≡ parted s (elim t [ Good x ↦ Begins x 1 (Some i) | NoStep ↦ part_two letter k (field s i) ])
        one (Good x) e = one_then x (numbers_from_lem (length s) s i) e
        one NoStep e = two e (field s i) refl

  after_is : 0 < length s → step_of (numbers_from_lem (length s) s 2) ≡ parted s (part_after s letter (field s 2))
  after_is long = go (field s 2) refl
    where
      go : (f : Field) → field s 2 ≡ f → step_of (numbers_from_lem (length s) s 2) ≡ parted s (part_after s letter f)
      go Bad is = rw (numbers_bad s (length s) 2 is)
      go (Last k) is = rw (numbers_last s (length s) 2 k long is) (last_of (one_number letter k) 1)
      go (Then k i) is =
          let m = field_moves s 2 k i is in
          rw (numbers_on s 2 k i (omega arith) is) (longer_is k i (omega (arith, m.0)) long)

-- a line that shows its tab has bytes
has_bytes : (s : List ℕ) → get_or s 1 0 ≡ tab → 0 < length s
has_bytes [] e = absurd (omega (arith, e))
has_bytes (b ∷ bs) e = omega arith

pub parse_parts : (s : List ℕ) → parse_log s ≡ parted s (part_in s)
parse_parts s = go (eqb (get_or s 1 0) tab) refl
  where
    go :
        (t : Bool) →
        eqb (get_or s 1 0) tab ≡ t →
        cond t (step_of s (get_or s 0 0) (numbers_from_lem (length s) s 2)) (inr tt) ≡ parted s (cond t (part_after s (get_or s 0 0) (field s 2)) Not)
    go true e = after_is s (get_or s 0 0) (has_bytes s (eqb-true (get_or s 1 0) tab e))
    go false e = refl

module _ (s : List ℕ) where
  pub parse_not : part_in s ≡ Not → parse_log s ≡ inr tt
  parse_not e = parse_parts s ∙ ap (parted s) e

  module _ (x : Step) (n : ℕ) (from : Option ℕ) (e : part_in s ≡ Begins x n from) where
    pub parse_bad : rest_from s from ≡ inr tt → parse_log s ≡ inr tt
    parse_bad rest = parse_parts s ∙ ap (parted s) e ∙ ap (begun x) rest

    pub parse_line : (ns : List ℕ) → rest_from s from ≡ inl ns → parse_log s ≡ inl (record { step = x; shown = ns })
    parse_line ns rest = parse_parts s ∙ ap (parted s) e ∙ ap (begun x) rest

-- How many numbers the step has

abbrev Has : ℕ → Parsed → Type 0
Has n (Good x) = n ≡ length (numbers_of x)
Has n NoStep = Unit

abbrev HasIn : Part → Type 0
HasIn (Begins x n from) = n ≡ length (numbers_of x)
HasIn Not = Unit

one_has : (letter k : ℕ) → Has 1 (one_number letter k)
one_has letter k = go (eqb letter 80) (eqb letter 73) (eqb letter 67) (eqb letter 76)
  where
    go :
        (a b c d : Bool) →
        Has 1
        (cond a (Good (P (core_no k))) (cond b (Good (I (core_no k))) (cond c (Good (C (core_no k))) (cond d (Good (L (core_no k))) NoStep))))
    go true b c d = refl
    go false true c d = refl
    go false false true d = refl
    go false false false true = refl
    go false false false false = tt

two_has : (letter k u : ℕ) → Has 2 (two_numbers_lem letter k u)
two_has letter k u = go (eqb letter 82) (eqb letter 78)
  where
    go : (a b : Bool) → Has 2 (cond a (Good (R (core_no k) (unit_no u))) (cond b (Good (N (core_no k) (unit_no u))) NoStep))
    go true b = refl
    go false true = refl
    go false false = tt

of_has : (p : Parsed) (n : ℕ) (from : Option ℕ) → Has n p → HasIn (part_of p n from)
of_has (Good x) n from h = h
of_has NoStep n from h = tt

part_has : (s : List ℕ) → HasIn (part_in s)
part_has s = go (eqb (get_or s 1 0) tab)
  where
    letter : ℕ
    letter = get_or s 0 0

    two : (k : ℕ) (f : Field) → HasIn (part_two letter k f)
    two k Bad = tt
    two k (Last u) = of_has (two_numbers_lem letter k u) 2 None (two_has letter k u)
    two k (Then u j) = of_has (two_numbers_lem letter k u) 2 (Some j) (two_has letter k u)

    one : (k i : ℕ) (t : Parsed) → Has 1 t → HasIn (elim t [ Good x ↦ Begins x 1 (Some i) | NoStep ↦ part_two letter k (field s i) ])
    one k i (Good x) h = h
    one k i NoStep h = two k (field s i)

    after : (f : Field) → HasIn (part_after s letter f)
    after Bad = tt
    after (Last k) = of_has (one_number letter k) 1 None (one_has letter k)
    after (Then k i) = one k i (one_number letter k) (one_has letter k)

    go : (t : Bool) → HasIn (cond t (part_after s letter (field s 2)) Not)
    go true = after (field s 2)
    go false = tt

pub part_numbers : (s : List ℕ) (x : Step) (n : ℕ) (from : Option ℕ) → part_in s ≡ Begins x n from → n ≡ length (numbers_of x)
part_numbers s x n from e = subst HasIn e (part_has s)
