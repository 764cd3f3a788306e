-- The numbers behind a step part, field by field: a turn of the loops of `all_numbers` and `compared`.
use Prim.Native.Nat.{ℕ, zero, suc, ◌+◌, ◌-◌, ◌≤◌, ◌<◌}
use mathlib.Core.Bool.{Bool, true, false, cond, not}
use mathlib.Core.List.{List, [], ◌∷◌}
use mathlib.Core.Logic.{◌⊎◌, inl, inr, ⊎_elim}
use mathlib.Core.Path.{◌≡◌, refl, sym, ◌∙◌, ap}
use native.Mathlib.Nat.{not-suc-le-zero}
use native.Mathlib.Numerals.{unary_clauses}
use native.Mathlib.Omega.{arith}
use lib.Dec.{eqb}
use lib.ListN.{length, get_or, drop}
use borrow.Author.Tests.{eqb-true, eqb-false, not-true, not-false}
use Rattle.parts.specs.declared.answer.Step.{Step}
use Rattle.numbers.specs.Bytes.{tab}
use Rattle.numbers.specs.Number.{field}
use Rattle.numbers.specs.Field.{Field}
use Rattle.numbers.specs.Field.{Bad, Last, Then}
use Rattle.lines.specs.Reading.{one_number, two_numbers_lem}
use Rattle.lines.specs.Parsed.{Parsed}
use Rattle.lines.specs.Parsed.{Good, Not as NoStep}
use Rattle.loglines.specs.Log.{numbers_from_lem, seen_at}
use Rattle.loglines.specs.Parts.{part_of, part_two, part_longer, part_after, part_in, are_numbers}
use Rattle.std.specs.Option.{option_eq}
use Rattle.loglines.specs.Parts.{off_by, ended_at}
use Rattle.loglines.specs.Parts.{Part, Begins, Not, Judged, Malformed}
use Rattle.loglines.specs.Log.{Seen, Number}
use Rattle.std.specs.Prelude.{Option, Some, None}
use Rattle.loglines.proofs.Offs.{judged_on, judged_end, judged_off, judged_same}

abbrev Rest : Type 0
Rest = List ℕ ⊎ Unit {0}

-- a number before others
abbrev before : ℕ → Rest → Rest
before n w = ⊎_elim (λ (ns : List ℕ). inl (n ∷ ns)) inr w

-- by what the field at i is, while fields are left
abbrev read : ℕ → List ℕ → Field → Rest
read f s x = elim x [ Bad ↦ inr tt | Last n ↦ inl (n ∷ []) | Then n j ↦ before n (numbers_from_lem f s j) ]

read_over : (f : ℕ) (s : List ℕ) (i : ℕ) → f ≤ 0 → numbers_from_lem f s i ≡ inr tt
unfolding numbers_from_lem
read_over zero s i p = refl
read_over (suc f) s i p = absurd (not-suc-le-zero p)

read_next : (f : ℕ) (s : List ℕ) (i : ℕ) → 0 < f → numbers_from_lem f s i ≡ read (f - 1) s (field s i)
unfolding numbers_from_lem
read_next zero s i p = absurd (not-suc-le-zero p)
read_next (suc f) s i p = simp unary_clauses

before_numbers : (n : ℕ) (w : Rest) → are_numbers (before n w) ≡ are_numbers w
before_numbers n (inl ns) = refl
before_numbers n (inr x) = refl

-- a turn of `all_numbers`, of which there have been c
module _ (s : List ℕ) (c i : ℕ) (whole : Bool) (so : whole ≡ are_numbers (numbers_from_lem (length s - c) s i)) where
  pub none_left : length s ≤ c → false ≡ whole
  none_left p = sym (so ∙ ap are_numbers (read_over (length s - c) s i (omega arith)))

  module _ (p : c < length s) (x : Field) (is : x ≡ field s i) where
    by_field : (y : Field) → x ≡ y → whole ≡ are_numbers (read (length s - c - 1) s y)
    by_field y e = so ∙ ap are_numbers (read_next (length s - c) s i (omega arith)) ∙ ap (λ (z : Field). are_numbers (read (length s - c - 1) s z)) (sym is ∙ e)

    pub bad_next : x ≡ None → false ≡ whole
    bad_next e = sym (by_field Bad e)

    pub last_next : (n : ℕ) → x ≡ Some (n, None) → true ≡ whole
    last_next n e = sym (by_field (Last n) e)

    pub then_next : (n j : ℕ) → x ≡ Some (n, Some j) → whole ≡ are_numbers (numbers_from_lem (length s - (c + 1)) s j)
    then_next n j e =
        let z : length s - c - 1 ≡ length s - (c + 1) = omega arith in
        by_field (Then n j) e ∙ before_numbers n (numbers_from_lem (length s - c - 1) s j) ∙ ap (λ (f : ℕ). are_numbers (numbers_from_lem f s j)) z

-- The numbers from a place on, if there is one, of at most f fields
abbrev pub rest_of : ℕ → List ℕ → Option ℕ → List ℕ ⊎ Unit {0}
rest_of f s from = elim from [ None ↦ inl [] | Some i ↦ numbers_from_lem f s i ]

-- what they come to, where m before them agreed
abbrev pub judged_rest : ℕ → ℕ → List ℕ ⊎ Unit {0} → List ℕ → Judged
judged_rest n m w es = ⊎_elim (λ (ns : List ℕ). judged_on n m ns es) (λ (x : Unit {0}). Malformed) w

-- the first of them is v, and the others start at a place, if there is one
pub record Goes (f : ℕ) (s : List ℕ) (i v : ℕ) (next : Option ℕ) : Type 0 where
  pub more : List ℕ
  pub first : numbers_from_lem f s i ≡ inl (v ∷ more)
  pub others : rest_of (f - 1) s next ≡ inl more

-- where they are numbers, some field is left
module _ (f : ℕ) (s : List ℕ) (i : ℕ) (are : are_numbers (numbers_from_lem f s i) ≡ true) where
  as_read : (y : Field) → field s i ≡ y → (numbers_from_lem f s i ≡ read (f - 1) s y) × (are_numbers (read (f - 1) s y) ≡ true)
  as_read y e = go (eqb f 0) refl
    where
      go : (b : Bool) → eqb f 0 ≡ b → (numbers_from_lem f s i ≡ read (f - 1) s y) × (are_numbers (read (f - 1) s y) ≡ true)
      go true z =
          let o = read_over f s i (omega (arith, eqb-true f 0 z)) in
          let n : false ≡ true = sym (ap are_numbers o) ∙ are in
          absurd (let k : ◌≡◌ {A = ℕ} 0 1 = cc in omega arith)
      go false z =
          let k = eqb-false f 0 z in
          let r : numbers_from_lem f s i ≡ read (f - 1) s y = read_next f s i (omega arith) ∙ ap (read (f - 1) s) e in
          (r, sym (ap are_numbers r) ∙ are)

  goes : (v : ℕ) (next : Option ℕ) → field s i ≡ Some (v, next) → Goes f s i v next
  goes v None e = record { more = []; first = (as_read (Last v) e).0; others = refl }
  goes v (Some j) e = go (as_read (Then v j) e).0 (as_read (Then v j) e).1 (numbers_from_lem (f - 1) s j) refl
    where
      go :
          numbers_from_lem f s i ≡ before v (numbers_from_lem (f - 1) s j) →
          are_numbers (before v (numbers_from_lem (f - 1) s j)) ≡ true →
          (w : Rest) →
          numbers_from_lem (f - 1) s j ≡ w →
          Goes f s i v (Some j)
      go r a (inl ns) q = record { more = ns; first = r ∙ ap (before v) q; others = q }
      go r a (inr u) q =
          let n : false ≡ true = sym (ap (λ (w : Rest). are_numbers (before v w)) q) ∙ a in
          absurd (let k : ◌≡◌ {A = ℕ} 0 1 = cc in omega arith)

-- what holds before the place m + 1, where those left start at a place: the numbers before agreed, and what is off among those left is what is off
abbrev pub Passed : List ℕ → ℕ → List ℕ → Judged → Option ℕ → ℕ → Type 0
Passed s n gs whole from m =
    (m ≤ length gs)
    × (are_numbers (rest_of (length s - m) s from) ≡ true)
    × (whole ≡ judged_rest n m (rest_of (length s - m) s from) (drop m gs))

-- a turn of `compared`, at the place m + 1
module _ (s : List ℕ) (n : ℕ) (gs : List ℕ) (whole : Judged) (m : ℕ) where
  pub at_end :
      (from : Option ℕ) →
      Passed s n gs whole from m →
      from ≡ None →
      (given : Seen) →
      given ≡ seen_at gs (m + 1) →
      (r : Judged) →
      r ≡ ended_at n (m + 1) given →
      r ≡ whole
  at_end from so e given is r says =
      let w : rest_of (length s - m) s from ≡ inl [] = ap (rest_of (length s - m) s) e in
      says ∙ judged_end n m gs given is ∙ sym (so.2 ∙ ap (λ (l : Rest). judged_rest n m l (drop m gs)) w)

  module _ (from : Option ℕ) (so : Passed s n gs whole from m) (i : ℕ) (at : from ≡ Some i) (x : Field) (told : x ≡ field s i) where
    abbrev f : ℕ
    f = length s - m

    there : rest_of f s from ≡ numbers_from_lem f s i
    there = ap (rest_of f s) at

    are : are_numbers (numbers_from_lem f s i) ≡ true
    are = sym (ap are_numbers there) ∙ so.1

    by : whole ≡ judged_rest n m (numbers_from_lem f s i) (drop m gs)
    by = so.2 ∙ ap (λ (l : Rest). judged_rest n m l (drop m gs)) there

    pub at_bad : x ≡ None → Malformed ≡ whole
    at_bad e = sym (by ∙ ap (λ (l : Rest). judged_rest n m l (drop m gs)) (as_read f s i are Bad (sym told ∙ e)).0)

    module _ (v : ℕ) (next : Option ℕ) (e : x ≡ Some (v, next)) (given : Seen) (is : given ≡ seen_at gs (m + 1)) where
      first : Goes f s i v next
      first = goes f s i are v next (sym told ∙ e)

      by_first : whole ≡ judged_on n m (v ∷ first.more) (drop m gs)
      by_first = by ∙ ap (λ (l : Rest). judged_rest n m l (drop m gs)) first.first

      module _ (b : Bool) (asked : b ≡ not (option_eq eqb given (Number v))) where
        pub at_off : b ≡ true → (r : Judged) → r ≡ off_by n (m + 1) (Number v) given → r ≡ whole
        at_off t r says = says ∙ judged_off n m gs given is v first.more (not-true (option_eq eqb given (Number v)) (sym asked ∙ t)) ∙ sym by_first

        pub at_same : b ≡ false → Passed s n gs whole next (m + 1)
        at_same t =
            let k = judged_same n m gs given is v first.more (not-false (option_eq eqb given (Number v)) (sym asked ∙ t)) in
            let z : length s - (m + 1) ≡ f - 1 = omega arith in
            let w : rest_of (length s - (m + 1)) s next ≡ inl first.more = ap (λ (g : ℕ). rest_of g s next) z ∙ first.others in
            (k.0, ap are_numbers w, by_first ∙ k.1 ∙ sym (ap (λ (l : Rest). judged_rest n (m + 1) l (drop (m + 1) gs)) w))

-- The step part has one number or two

-- how many numbers it has; 0 of no step
abbrev count : Part → ℕ
count p = elim p [ Begins x n from ↦ n | Not ↦ 0 ]

of_few : (p : Parsed) (m : ℕ) (at : Option ℕ) (x : Step) (n : ℕ) (from : Option ℕ) → m ≤ 2 → part_of p m at ≡ Begins x n from → n ≤ 2
of_few (Good y) m at x n from h e = let z : m ≡ n = ap count e in omega arith
of_few NoStep m at x n from h e = let z : ◌≡◌ {A = ℕ} 0 1 = cc in absurd (omega arith)

two_few : (letter k : ℕ) (f : Field) (x : Step) (n : ℕ) (from : Option ℕ) → part_two letter k f ≡ Begins x n from → n ≤ 2
two_few letter k Bad x n from e = let z : ◌≡◌ {A = ℕ} 0 1 = cc in absurd (omega arith)
two_few letter k (Last u) x n from e = of_few (two_numbers_lem letter k u) 2 None x n from (omega arith) e
two_few letter k (Then u j) x n from e = of_few (two_numbers_lem letter k u) 2 (Some j) x n from (omega arith) e

longer_few : (s : List ℕ) (letter k i : ℕ) (x : Step) (n : ℕ) (from : Option ℕ) → part_longer s letter k i ≡ Begins x n from → n ≤ 2
longer_few s letter k i x n from e = go (one_number letter k) e
  where
    go : (o : Parsed) → elim o [ Good y ↦ Begins y 1 (Some i) | NoStep ↦ part_two letter k (field s i) ] ≡ Begins x n from → n ≤ 2
    go (Good y) q = of_few (Good y) 1 (Some i) x n from (omega arith) q
    go NoStep q = two_few letter k (field s i) x n from q

after_few : (s : List ℕ) (letter : ℕ) (f : Field) (x : Step) (n : ℕ) (from : Option ℕ) → part_after s letter f ≡ Begins x n from → n ≤ 2
after_few s letter Bad x n from e = let z : ◌≡◌ {A = ℕ} 0 1 = cc in absurd (omega arith)
after_few s letter (Last k) x n from e = of_few (one_number letter k) 1 None x n from (omega arith) e
after_few s letter (Then k i) x n from e = longer_few s letter k i x n from e

pub part_few : (s : List ℕ) (w : Part) (x : Step) (n : ℕ) (from : Option ℕ) → w ≡ part_in s → w ≡ Begins x n from → n ≤ 2
part_few s w x n from is e = go (eqb (get_or s 1 0) tab) (sym is ∙ e)
  where
    go : (b : Bool) → cond b (part_after s (get_or s 0 0) (field s 2)) Not ≡ Begins x n from → n ≤ 2
    go true q = after_few s (get_or s 0 0) (field s 2) x n from q
    go false q = let z : ◌≡◌ {A = ℕ} 0 1 = cc in absurd (omega arith)
