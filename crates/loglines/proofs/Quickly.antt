-- A line that is read quickly is the step that is read in full: the bytes of its step part are no line end, so the line's end comes behind
-- them, and each digit with the tab behind it is read as its number. Before that, what the tests of `quick_part` say of the bytes.
use Prim.Native.Nat.{ℕ, ◌+◌, ◌-◌, ◌≤◌, ◌<◌}
use mathlib.Core.Bool.{Bool, true, false, cond}
use mathlib.Core.List.{List, [], ◌∷◌, ◌++◌}
use mathlib.Core.Path.{◌≡◌, refl, sym, ◌∙◌, ap, subst}
use native.Mathlib.Omega.{arith}
use lib.ListN.{length, get_or, take, drop, take-append-drop}
use lib.Seq.{take-append-add, drop-drop}
use borrow.Author.Tests.{ne_eqb, eqb-true}
use Rattle.parts.specs.Parts.{core_no, unit_no}
use lib.Dec.{eqb}
use Rattle.parts.specs.declared.answer.Step.{Step}
use Rattle.parts.specs.declared.answer.Step.TheVariants.{R, N, P, I, C, L}
use Rattle.numbers.specs.Bytes.{tab, end}
use Rattle.numbers.specs.Number.{scan, field}
use Rattle.numbers.specs.Field.{Then}
use Rattle.numbers.proofs.Turns.{opened}
use Rattle.numbers.proofs.Scanning.{digits_one, scan_digits}
use Rattle.lines.specs.Reading.{ending, one_number, two_numbers_lem}
use Rattle.lines.specs.Parsed.{Parsed, Good, Not}
use Rattle.lines.specs.Bytes.{letter_of}
use Rattle.lines.specs.Ending.{At}
use Rattle.lines.proofs.Turns.{found}
use Rattle.writing.specs.Writing.{numbers_of}
use Rattle.loglines.specs.Log.{log_most}
use Rattle.loglines.specs.Parts.{part_longer, part_two, part_in}
use Rattle.loglines.specs.Quick.{tabs, step_text, StandsAt}
use Rattle.std.specs.Prelude.{Some}
use Rattle.loglines.specs.Parts.{Begins}

-- Numbers of one digit

tabs_one : (n : ℕ) → n < 10 → tabs (n ∷ []) ≡ tab ∷ (48 + n) ∷ []
tabs_one n h = rw (digits_one 9 n h)

tabs_two : (n m : ℕ) → n < 10 → m < 10 → tabs (n ∷ m ∷ []) ≡ tab ∷ (48 + n) ∷ tab ∷ (48 + m) ∷ []
tabs_two n m h l = rw (digits_one 9 n h, digits_one 9 m l)

-- A letter and its numbers are those of the step that they are read as

-- what a step is written by; of no step nothing
abbrev letter_in : Parsed → ℕ
letter_in p = elim p [ Good x ↦ letter_of x | Not ↦ 0 ]

abbrev numbers_in : Parsed → List ℕ
numbers_in p = elim p [ Good x ↦ numbers_of x | Not ↦ [] ]

-- a step of this letter and these numbers
abbrev Of : ℕ → List ℕ → Step → Type 0
Of letter ns x = (letter ≡ letter_of x) × (numbers_of x ≡ ns)

of_step : (letter n : ℕ) (ns : List ℕ) (y x : Step) → eqb letter n ≡ true → n ≡ letter_of y → numbers_of y ≡ ns → Good y ≡ Good x → Of letter ns x
of_step letter n ns y x e l m is = (eqb-true letter n e ∙ l ∙ ap letter_in is, sym (ap numbers_in is) ∙ m)

one_of : (letter k : ℕ) (x : Step) → one_number letter k ≡ Good x → Of letter (k ∷ []) x
one_of letter k x = go (eqb letter 80) (eqb letter 73) (eqb letter 67) (eqb letter 76) refl refl refl refl
  where
    go :
        (p i c l : Bool) →
        eqb letter 80 ≡ p →
        eqb letter 73 ≡ i →
        eqb letter 67 ≡ c →
        eqb letter 76 ≡ l →
        cond p (Good (P (core_no k))) (cond i (Good (I (core_no k))) (cond c (Good (C (core_no k))) (cond l (Good (L (core_no k))) Not))) ≡ Good x →
        Of letter (k ∷ []) x
    go true i c l e f g h is = of_step letter 80 (k ∷ []) (P (core_no k)) x e refl refl is
    go false true c l e f g h is = of_step letter 73 (k ∷ []) (I (core_no k)) x f refl refl is
    go false false true l e f g h is = of_step letter 67 (k ∷ []) (C (core_no k)) x g refl refl is
    go false false false true e f g h is = of_step letter 76 (k ∷ []) (L (core_no k)) x h refl refl is
    go false false false false e f g h is = let z : ◌≡◌ {A = ℕ} 0 1 = cc in absurd (omega arith)

two_of : (letter k u : ℕ) (x : Step) → two_numbers_lem letter k u ≡ Good x → Of letter (k ∷ u ∷ []) x
two_of letter k u x = go (eqb letter 82) (eqb letter 78) refl refl
  where
    go :
        (r n : Bool) →
        eqb letter 82 ≡ r →
        eqb letter 78 ≡ n →
        cond r (Good (R (core_no k) (unit_no u))) (cond n (Good (N (core_no k) (unit_no u))) Not) ≡ Good x →
        Of letter (k ∷ u ∷ []) x
    go true n e f is = of_step letter 82 (k ∷ u ∷ []) (R (core_no k) (unit_no u)) x e refl refl is
    go false true e f is = of_step letter 78 (k ∷ u ∷ []) (N (core_no k) (unit_no u)) x f refl refl is
    go false false e f is = let z : ◌≡◌ {A = ℕ} 0 1 = cc in absurd (omega arith)

-- Where six bytes are left from a place on
module _ (s : List ℕ) (at : ℕ) (h : 6 ≤ length s - at) where
  abbrev byte : ℕ → ℕ
  byte i = get_or s (at + i) 0

  next : (i : ℕ) → i < 6 → drop (at + i) s ≡ byte i ∷ drop (at + (i + 1)) s
  next i l =
      let z : at + i + 1 ≡ at + (i + 1) = omega arith in
      opened s (at + i) (omega arith) ∙ rw z

  three : drop at s ≡ get_or s at 0 ∷ byte 1 ∷ byte 2 ∷ drop (at + 3) s
  three = opened s at (omega arith) ∙ rw (next 1 (omega arith), next 2 (omega arith))

  five : drop at s ≡ get_or s at 0 ∷ byte 1 ∷ byte 2 ∷ byte 3 ∷ byte 4 ∷ drop (at + 5) s
  five = three ∙ rw (next 3 (omega arith), next 4 (omega arith))

  module _ (t : byte 1 ≡ 9) (w : (48 ≤ byte 2) × (byte 2 ≤ 57)) (u : byte 3 ≡ 9) (k : ℕ) (is : k ≡ byte 2 - 48) where
    pub one_stands : (o : Parsed) (x : Step) → o ≡ one_number (get_or s at 0) k → o ≡ Good x → StandsAt s at x (at + 3)
    one_stands o x says e =
        let r = one_of (get_or s at 0) k x (sym says ∙ e) in
        let z : 48 + k ≡ byte 2 = omega arith in
        let text : step_text x ≡ get_or s at 0 ∷ tab ∷ byte 2 ∷ [] = rw (← r.0, r.1, tabs_one k (omega arith), z) in
        record {
          short = rw r.1 (omega arith, tt);
          text = subst (λ (l : List ℕ). take (length l) (drop at s) ≡ l) (sym text) (rw (three, t));
          next = ap (λ (l : List ℕ). at + length l) (sym text);
          inside = omega arith;
          tabbed = u;
        }

    pub two_stands :
        (w : (48 ≤ byte 4) × (byte 4 ≤ 57)) (v : byte 5 ≡ 9) (n : ℕ) (so : n ≡ byte 4 - 48) (o : Parsed) (x : Step) →
        o ≡ two_numbers_lem (get_or s at 0) k n →
        o ≡ Good x →
        StandsAt s at x (at + 5)
    two_stands y v n so o x says e =
        let r = two_of (get_or s at 0) k n x (sym says ∙ e) in
        let z : 48 + k ≡ byte 2 = omega arith in
        let q : 48 + n ≡ byte 4 = omega arith in
        let text : step_text x ≡ get_or s at 0 ∷ tab ∷ byte 2 ∷ tab ∷ byte 4 ∷ [] = rw (← r.0, r.1, tabs_two k n (omega arith) (omega arith), z, q) in
        record {
          short = rw r.1 (omega arith, (omega arith, tt));
          text = subst (λ (l : List ℕ). take (length l) (drop at s) ≡ l) (sym text) (rw (five, t, u));
          next = ap (λ (l : List ℕ). at + length l) (sym text);
          inside = omega arith;
          tabbed = v;
        }

-- The line in full

read_number : (k i : ℕ) (rest : List ℕ) → k < 10 → scan false 0 i ((48 + k) ∷ tab ∷ rest) ≡ Then k (i + 1 + 1)
unfolding scan
read_number k i rest h = rw (digits_one 9 k h) at (scan_digits k i (tab ∷ rest) (omega arith))

-- the bytes up to a line's end, which comes behind the bytes that open it
past : (e : ℕ) (xs more : List ℕ) → length xs ≤ e → take e (xs ++ more) ≡ xs ++ take (e - length xs) more
past e xs more h =
    let z : e ≡ length xs + (e - length xs) = omega arith in
    ap (λ (i : ℕ). take i (xs ++ more)) z ∙ take-append-add xs more (e - length xs)

module _ (l k e : ℕ) (more : List ℕ) (d : l ≡ end → ⊥) (h : k < 10) where
  ends_one : ending log_most 0 (l ∷ tab ∷ (48 + k) ∷ tab ∷ more) ≡ At e → 4 ≤ e
  unfolding ending
  ends_one is =
      let z : ending 58 4 more ≡ At e = simp (ne_eqb l end d, ne_eqb (48 + k) end (λ w. omega arith)) at is in
      (found 58 4 e more z).0

  ends_two : (u : ℕ) → u < 10 → ending log_most 0 (l ∷ tab ∷ (48 + k) ∷ tab ∷ (48 + u) ∷ tab ∷ more) ≡ At e → 6 ≤ e
  unfolding ending
  ends_two u g is =
      let z : ending 56 6 more ≡ At e =
      simp (ne_eqb l end d, ne_eqb (48 + k) end (λ w. omega arith), ne_eqb (48 + u) end (λ w. omega arith)) at is
      in
      (found 56 6 e more z).0

-- what is read of the bytes of a step part and the tab behind it
module _ (l k : ℕ) (h : k < 10) where
  part_one : (more : List ℕ) → part_in (l ∷ tab ∷ (48 + k) ∷ tab ∷ more) ≡ part_longer (l ∷ tab ∷ (48 + k) ∷ tab ∷ more) l k 4
  part_one more = rw (read_number k 2 more h)

  part_two_lem :
      (u : ℕ) (more : List ℕ) →
      u < 10 →
      part_two l k (field (l ∷ tab ∷ (48 + k) ∷ tab ∷ (48 + u) ∷ tab ∷ more) 4) ≡ part_two l k (Then u 6)
  part_two_lem u more g = rw (read_number u 4 more g)

-- the bytes from a place on at which a step stands
opens : (s : List ℕ) (at from : ℕ) (x : Step) → StandsAt s at x from → drop at s ≡ step_text x ++ (tab ∷ drop (from + 1) s)
opens s at from x r =
    let n = length (step_text x) in
    let w : drop from s ≡ tab ∷ drop (from + 1) s = opened s from r.inside ∙ rw r.tabbed in
    let z : drop n (drop at s) ≡ tab ∷ drop (from + 1) s = drop-drop n at s ∙ ap (λ (i : ℕ). drop i s) (sym r.next) ∙ w in
    sym (take-append-drop n (drop at s)) ∙ ap (λ (l : List ℕ). l ++ drop n (drop at s)) r.text ∙ ap (λ (l : List ℕ). step_text x ++ l) z

-- a step that stands at a place, of letter l and core k, and the end of its line
module _ (s : List ℕ) (at from e : ℕ) (x : Step) (r : StandsAt s at x from) (is : ending log_most 0 (drop at s) ≡ At e) where
  abbrev more : List ℕ
  more = drop (from + 1) s

  begun : (t : List ℕ) → step_text x ≡ t → drop at s ≡ t ++ (tab ∷ more)
  begun t text = opens s at from x r ∙ ap (λ (l : List ℕ). l ++ (tab ∷ more)) text

  module _ (l k : ℕ) (d : l ≡ end → ⊥) (h : k < 10) where
    one_full :
        step_text x ≡ l ∷ tab ∷ (48 + k) ∷ [] →
        ((b : List ℕ) → part_longer b l k 4 ≡ Begins x 1 (Some 4)) →
        part_in (take e (drop at s)) ≡ Begins x 1 (Some (length (step_text x) + 1))
    one_full text reads =
        let b : drop at s ≡ l ∷ tab ∷ (48 + k) ∷ tab ∷ more = begun _ text in
        let far = ends_one l k e more d h (sym (ap (ending log_most 0) b) ∙ is) in
        let cut = past e (l ∷ tab ∷ (48 + k) ∷ tab ∷ []) more far in
        ap (λ (t : List ℕ). part_in (take e t)) b
        ∙ ap part_in cut
        ∙ part_one l k h (take (e - 4) more)
        ∙ reads (l ∷ tab ∷ (48 + k) ∷ tab ∷ take (e - 4) more)
        ∙ ap (λ (t : List ℕ). Begins x 1 (Some (length t + 1))) (sym text)

    two_full :
        (u : ℕ) →
        u < 10 →
        step_text x ≡ l ∷ tab ∷ (48 + k) ∷ tab ∷ (48 + u) ∷ [] →
        ((b : List ℕ) → part_longer b l k 4 ≡ part_two l k (field b 4)) →
        part_two l k (Then u 6) ≡ Begins x 2 (Some 6) →
        part_in (take e (drop at s)) ≡ Begins x 2 (Some (length (step_text x) + 1))
    two_full u g text on reads =
        let b : drop at s ≡ l ∷ tab ∷ (48 + k) ∷ tab ∷ (48 + u) ∷ tab ∷ more = begun _ text in
        let far = ends_two l k e more d h u g (sym (ap (ending log_most 0) b) ∙ is) in
        let cut = past e (l ∷ tab ∷ (48 + k) ∷ tab ∷ (48 + u) ∷ tab ∷ []) more far in
        let rest = take (e - 6) more in
        ap (λ (t : List ℕ). part_in (take e t)) b
        ∙ ap part_in cut
        ∙ part_one l k h ((48 + u) ∷ tab ∷ rest)
        ∙ on (l ∷ tab ∷ (48 + k) ∷ tab ∷ (48 + u) ∷ tab ∷ rest)
        ∙ part_two_lem l k h u rest g
        ∙ reads
        ∙ ap (λ (t : List ℕ). Begins x 2 (Some (length t + 1))) (sym text)

-- the step that is read of a line's bytes b, which end at e
abbrev pub InFull : List ℕ → ℕ → Step → Type 0
InFull b e x = part_in (take e b) ≡ Begins x (length (numbers_of x)) (Some (length (step_text x) + 1))

pub in_full :
    (s : List ℕ) (at from e : ℕ) (x : Step) → StandsAt s at x from → ending log_most 0 (drop at s) ≡ At e → InFull (drop at s) e x
in_full s at from e x r is = go x r
  where
    one : (l k : ℕ) → k < 10 → l ∷ tabs (k ∷ []) ≡ l ∷ tab ∷ (48 + k) ∷ []
    one l k h = ap (λ (t : List ℕ). l ∷ t) (tabs_one k h)

    two : (l k u : ℕ) → k < 10 → u < 10 → l ∷ tabs (k ∷ u ∷ []) ≡ l ∷ tab ∷ (48 + k) ∷ tab ∷ (48 + u) ∷ []
    two l k u h g = ap (λ (t : List ℕ). l ∷ t) (tabs_two k u h g)

    go : (y : Step) → StandsAt s at y from → InFull (drop at s) e y
    go (P k) q = let h = q.short.0 in one_full s at from e (P k) q is 80 k.0 (λ z. omega arith) h (one 80 k.0 h) (λ b. refl)
    go (I k) q = let h = q.short.0 in one_full s at from e (I k) q is 73 k.0 (λ z. omega arith) h (one 73 k.0 h) (λ b. refl)
    go (C k) q = let h = q.short.0 in one_full s at from e (C k) q is 67 k.0 (λ z. omega arith) h (one 67 k.0 h) (λ b. refl)
    go (L k) q = let h = q.short.0 in one_full s at from e (L k) q is 76 k.0 (λ z. omega arith) h (one 76 k.0 h) (λ b. refl)
    go (R k u) q =
        let h = q.short.0 in
        let g = q.short.1.0 in
        two_full s at from e (R k u) q is 82 k.0 (λ z. omega arith) h u.0 g (two 82 k.0 u.0 h g) (λ b. refl) refl
    go (N k u) q =
        let h = q.short.0 in
        let g = q.short.1.0 in
        two_full s at from e (N k u) q is 78 k.0 (λ z. omega arith) h u.0 g (two 78 k.0 u.0 h g) (λ b. refl) refl
