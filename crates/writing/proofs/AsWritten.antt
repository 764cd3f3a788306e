-- Whatever is read as a line is, byte for byte, what writing its value gives. For each definition of the reading half, what its answer
-- says of the bytes that it was given: the line's end, each number with what follows it, the line without its end, the whole line.
use Prim.Native.Nat.{ℕ, zero, suc, ◌+◌, ◌-◌, ◌≤◌}
use mathlib.Core.Bool.{Bool, true, false, cond}
use mathlib.Core.List.{List, [], ◌∷◌, ◌++◌, append_assoc}
use mathlib.Core.Path.{◌≡◌, refl, sym, ◌∙◌, ap, subst}
use native.Mathlib.Omega.{arith}
use lib.Dec.{eqb, leb}
use lib.ListN.{length, get_or, take, drop, length-append}
use lib.Seq.{drop-drop, drop-append-add, take-append_seam, take-append-add}
use borrow.Author.Tests.{eqb-true}
use Rattle.ticket.specs.declared.kinds.Ticket.{Ticket}
use Rattle.parts.specs.Range.{in_range}
use Rattle.parts.specs.Parts.{core_no, unit_no}
use Rattle.parts.specs.declared.kinds.Counts.{Counts}
use Rattle.parts.specs.declared.kinds.Profile.{Profile}
use Rattle.parts.specs.declared.kinds.Profile.TheVariants.{T, D}
use Rattle.parts.specs.declared.answer.Step.{Step}
use Rattle.parts.specs.declared.answer.Step.TheVariants.{R, N, P, I, C, L}
use Rattle.numbers.specs.Bytes.{tab, end}
use Rattle.lines.specs.Bytes.{line_most, script_letter}
use Rattle.lines.proofs.Letters.{letter_r, letter_n, letter_p, letter_i, letter_c, letter_l}
use Rattle.numbers.specs.Number.{decimal, number_most, field}
use Rattle.lines.specs.Reading.{ending, line_end_lem, one_number, two_numbers_lem, after_core, after_letter, parse_step_lem, step_line_lem, read_step}
use Rattle.headers.specs.Header.{with_counter_lem, with_second_lem, with_first_lem, with_cores, with_letter, parse_header_lem, header_line, read_header}
use Rattle.digits.specs.Text.{tabbed}
use Rattle.writing.specs.Writing.{lettered, lettered2, numbers_of, step_bytes, script_header}
use Rattle.writing.specs.Claims.{Small, Stands}
use Rattle.numbers.specs.Field.{Field, Bad, Last, Then}
use Rattle.lines.specs.Ending.{Ending, At, Long, Short}
use Rattle.lines.specs.Parsed.{Parsed, Good, Not}
use Rattle.lines.specs.StepLine.{StepLine, Line, Finished, Malformed, Unfinished}
use Rattle.headers.specs.ParsedHeader.{ParsedHeader, Good as GoodHeader, Not as NoHeader}
use Rattle.headers.specs.HeaderLine.{HeaderLine, Header, BadHeader, Unfinished as Unended}
use Rattle.numbers.proofs.Scanning.{Says, scan_says}
use Rattle.lines.proofs.Turns.{step_to}
use Rattle.headers.proofs.Numbers.{header_to}

-- The line's end

-- bytes, and then the line's end at e
abbrev EndSays : ℕ → List ℕ → Ending → Type 0
EndSays i bs (At e) = (xs rest : List ℕ) × (bs ≡ xs ++ (end ∷ rest)) × (e ≡ i + length xs)
EndSays i bs Long = Unit
EndSays i bs Short = Unit

end_byte :
    (i b : ℕ) (bs : List ℕ) (w : Ending) →
    EndSays (i + 1) bs w →
    (t : Bool) →
    eqb b end ≡ t →
    EndSays i (b ∷ bs) (cond t (At i) w)
end_byte i b bs w later true e = ([], bs, ap (λ (x : ℕ). x ∷ bs) (eqb-true b end e), omega arith)
end_byte i b bs (At k) later false e = (b ∷ later.0, later.1, ap (λ (l : List ℕ). b ∷ l) later.2, omega (arith, later.3))
end_byte i b bs Long later false e = tt
end_byte i b bs Short later false e = tt

ending_says : (f i : ℕ) (bs : List ℕ) → EndSays i bs (ending f i bs)
unfolding ending
ending_says zero i bs = tt
ending_says (suc f) i [] = tt
ending_says (suc f) i (b ∷ bs) = end_byte i b bs (ending f (i + 1) bs) (ending_says f (i + 1) bs) (eqb b end) refl

-- a line up to its end at e, and with it
module _ (s xs rest : List ℕ) (at e : ℕ) (d : drop at s ≡ xs ++ (end ∷ rest)) (is : e ≡ at + length xs) where
  up_to_end : take (e - at) (drop at s) ≡ xs
  up_to_end =
      let z : e - at ≡ length xs = omega arith in
      rw (z, d) (take-append_seam xs (end ∷ rest))

  with_end : take (e + 1 - at) (drop at s) ≡ xs ++ (end ∷ [])
  with_end =
      let z : e + 1 - at ≡ length xs + 1 = omega arith in
      rw (z, d) (take-append-add xs (end ∷ rest) 1)

  after_end : e + 1 ≡ at + length (xs ++ (end ∷ []))
  after_end = omega (arith, length-append xs (end ∷ []))

-- The numbers of a line

-- a number up to the end, or up to a tab that stands before place j
abbrev FieldSays : List ℕ → ℕ → Field → Type 0
FieldSays s i Bad = Unit
FieldSays s i (Last n) = (drop i s ≡ decimal n) × (n ≤ number_most)
FieldSays s i (Then n j) = (drop i s ≡ decimal n ++ (tab ∷ drop j s)) × (n ≤ number_most)

field_says : (s : List ℕ) (i : ℕ) → FieldSays s i (field s i)
field_says s i = go (field s i) (scan_says i (drop i s))
  where
    go : (w : Field) → Says i (drop i s) w → FieldSays s i w
    go Bad says = tt
    go (Last n) says = says
    go (Then n j) (rest, d, is, h) =
        let z : j ≡ i + (length (decimal n) + 1) = omega arith in
        let left : drop j s ≡ rest = rw (z, sym (drop-drop (length (decimal n) + 1) i s), d) (drop-append-add (decimal n) (tab ∷ rest) 1) in
        (d ∙ ap (λ (l : List ℕ). decimal n ++ (tab ∷ l)) (sym left), h)

-- a letter and a tab open the line
letter_tab : (s : List ℕ) → get_or s 1 0 ≡ tab → s ≡ get_or s 0 0 ∷ tab ∷ drop 2 s
letter_tab [] e = absurd (omega arith)
letter_tab (a ∷ []) e = absurd (omega arith)
letter_tab (a ∷ b ∷ bs) e = ap (λ (c : ℕ). a ∷ c ∷ bs) e

-- Step lines

-- the line's bytes, its end with them, are the step as it is written
abbrev StepSays : List ℕ → Parsed → Type 0
StepSays l (Good x) = (l ≡ step_bytes x) × Small (numbers_of x)
StepSays l Not = Unit

-- one letter of those that are tried in turn
tried :
    (l : List ℕ) (a b : ℕ) (x : Step) (r : Parsed) →
    (a ≡ b → StepSays l (Good x)) →
    StepSays l r →
    StepSays l (cond (eqb a b) (Good x) r)
tried l a b x r this later = go (eqb a b) refl
  where
    go : (t : Bool) → eqb a b ≡ t → StepSays l (cond t (Good x) r)
    go true e = this (eqb-true a b e)
    go false e = later

one_says : (a k : ℕ) → k ≤ number_most → StepSays (lettered a k) (one_number a k)
one_says a k h =
    let l = lettered a k in
    let this : (b : ℕ) → a ≡ b → l ≡ lettered b k = λ (b : ℕ) e. ap (λ (c : ℕ). lettered c k) e in
    tried l a letter_p (P (core_no k)) _ (λ e. (this letter_p e, (h, tt)))
    (tried l a letter_i (I (core_no k)) _ (λ e. (this letter_i e, (h, tt)))
    (tried l a letter_c (C (core_no k)) _ (λ e. (this letter_c e, (h, tt)))
    (tried l a letter_l (L (core_no k)) _ (λ e. (this letter_l e, (h, tt))) tt)))

two_says : (a k u : ℕ) → k ≤ number_most → u ≤ number_most → StepSays (lettered2 a k u) (two_numbers_lem a k u)
two_says a k u h g =
    let l = lettered2 a k u in
    let this : (b : ℕ) → a ≡ b → l ≡ lettered2 b k u = λ (b : ℕ) e. ap (λ (c : ℕ). lettered2 c k u) e in
    tried l a letter_r (R (core_no k) (unit_no u)) _ (λ e. (this letter_r e, (h, (g, tt))))
    (tried l a letter_n (N (core_no k) (unit_no u)) _ (λ e. (this letter_n e, (h, (g, tt)))) tt)

module _ (s : List ℕ) (a : ℕ) where
  core_says :
      (k i : ℕ) →
      k ≤ number_most →
      s ≡ a ∷ (tabbed k ++ (tab ∷ drop i s)) →
      (w : Field) →
      FieldSays s i w →
      StepSays (s ++ (end ∷ [])) (after_core a k w)
  core_says k i h is Bad says = tt
  core_says k i h is (Last u) (d, g) =
      let all : s ≡ a ∷ (tabbed k ++ tabbed u) = is ∙ ap (λ (l : List ℕ). a ∷ (tabbed k ++ (tab ∷ l))) d in
      let line = ap (λ (l : List ℕ). l ++ (end ∷ [])) all ∙ append_assoc (a ∷ tabbed k) (tabbed u) (end ∷ []) in
      subst (λ (l : List ℕ). StepSays l (two_numbers_lem a k u)) (sym line) (two_says a k u h g)
  core_says k i h is (Then u j) says = tt

  letter_says :
      s ≡ a ∷ tab ∷ drop 2 s → (w : Field) → FieldSays s 2 w → StepSays (s ++ (end ∷ [])) (after_letter s a w)
  letter_says is Bad says = tt
  letter_says is (Last k) (d, h) =
      let line = ap (λ (l : List ℕ). l ++ (end ∷ [])) (is ∙ ap (λ (l : List ℕ). a ∷ tab ∷ l) d) in
      subst (λ (l : List ℕ). StepSays l (one_number a k)) (sym line) (one_says a k h)
  letter_says is (Then k i) (d, h) = core_says k i h (is ∙ ap (λ (l : List ℕ). a ∷ tab ∷ l) d) (field s i) (field_says s i)

parse_says : (s : List ℕ) → StepSays (s ++ (end ∷ [])) (parse_step_lem s)
parse_says s = go (eqb (get_or s 1 0) tab) refl
  where
    go : (t : Bool) → eqb (get_or s 1 0) tab ≡ t → StepSays (s ++ (end ∷ [])) (cond t (after_letter s (get_or s 0 0) (field s 2)) Not)
    go true e = letter_says s (get_or s 0 0) (letter_tab s (eqb-true (get_or s 1 0) tab e)) (field s 2) (field_says s 2)
    go false e = tt

-- what stands in s from the line's start up to the place after it is the step as it is written
abbrev LineSays : List ℕ → ℕ → StepLine → Type 0
LineSays s at (Line x next) =
    Stands s at next (step_bytes x) × Small (numbers_of x)
LineSays s at Finished = Unit
LineSays s at Malformed = Unit
LineSays s at Unfinished = Unit

step_to_says : (s : List ℕ) (at : ℕ) (w : Ending) → EndSays at (drop at s) w → LineSays s at (step_to s at w)
step_to_says s at (At e) (xs, rest, d, is) = rw (up_to_end s xs rest at e d is) (go (parse_step_lem xs) (parse_says xs))
  where
    go : (r : Parsed) → StepSays (xs ++ (end ∷ [])) r → LineSays s at (step_line_lem r (e + 1))
    go (Good x) (l, h) = ((with_end s xs rest at e d is ∙ l, after_end s xs rest at e d is ∙ ap (λ (b : List ℕ). at + length b) l), h)
    go Not says = tt
step_to_says s at Long says = tt
step_to_says s at Short says = tt

pub step_read_is_written :
    (s : List ℕ) (at : ℕ) (x : Step) (next : ℕ) → read_step s at ≡ Line x next → Stands s at next (step_bytes x) × Small (numbers_of x)
step_read_is_written s at x next e = subst (LineSays s at) e (go (leb (length s) at))
  where
    go : (t : Bool) → LineSays s at (cond t Finished (step_to s at (line_end_lem s at)))
    go true = tt
    go false = step_to_says s at (line_end_lem s at) (ending_says line_most at (drop at s))

-- The header

-- the line's bytes, its end with them, are the header as it is written
abbrev HeadSays : List ℕ → ParsedHeader → Type 0
HeadSays l (GoodHeader c n) = (l ≡ script_header c n) × (n.0 ≤ number_most)
HeadSays l NoHeader = Unit

-- number by number, with what was read before it
module _ (s : List ℕ) where
  abbrev whole : List ℕ
  whole = s ++ (end ∷ [])

  module _ (p : Profile) where
    counter_says :
        (a b c i : ℕ) →
        s ≡ script_letter p ∷ (tabbed a ++ (tabbed b ++ (tabbed c ++ (tab ∷ drop i s)))) →
        (w : Field) →
        FieldSays s i w →
        HeadSays whole (with_counter_lem p a b c w)
    counter_says a b c i is Bad says = tt
    counter_says a b c i is (Last n) (d, h) =
        let all = is ∙ ap (λ (l : List ℕ). script_letter p ∷ (tabbed a ++ (tabbed b ++ (tabbed c ++ (tab ∷ l))))) d in
        (ap (λ (l : List ℕ). l ++ (end ∷ [])) all ∙ simp append_assoc, h)
    counter_says a b c i is (Then n j) says = tt

    second_says :
        (a b i : ℕ) →
        s ≡ script_letter p ∷ (tabbed a ++ (tabbed b ++ (tab ∷ drop i s))) →
        (w : Field) →
        FieldSays s i w →
        HeadSays whole (with_second_lem s p a b w)
    second_says a b i is Bad says = tt
    second_says a b i is (Last c) says = tt
    second_says a b i is (Then c j) (d, h) =
        counter_says a b c j (is ∙ ap (λ (l : List ℕ). script_letter p ∷ (tabbed a ++ (tabbed b ++ (tab ∷ l)))) d) (field s j) (field_says s j)

    first_says :
        (a i : ℕ) → s ≡ script_letter p ∷ (tabbed a ++ (tab ∷ drop i s)) → (w : Field) → FieldSays s i w → HeadSays whole (with_first_lem s p a w)
    first_says a i is Bad says = tt
    first_says a i is (Last b) says = tt
    first_says a i is (Then b j) (d, h) =
        second_says a b j (is ∙ ap (λ (l : List ℕ). script_letter p ∷ (tabbed a ++ (tab ∷ l))) d) (field s j) (field_says s j)

    cores_says : s ≡ script_letter p ∷ tab ∷ drop 2 s → (w : Field) → FieldSays s 2 w → HeadSays whole (with_cores s p w)
    cores_says is Bad says = tt
    cores_says is (Last a) says = tt
    cores_says is (Then a i) (d, h) =
        first_says a i (is ∙ ap (λ (l : List ℕ). script_letter p ∷ tab ∷ l) d) (field s i) (field_says s i)

    profile_says : get_or s 1 0 ≡ tab → get_or s 0 0 ≡ script_letter p → HeadSays whole (with_cores s p (field s 2))
    profile_says second first =
        cores_says (letter_tab s second ∙ ap (λ (c : ℕ). c ∷ tab ∷ drop 2 s) first) (field s 2) (field_says s 2)

  opens_says : get_or s 1 0 ≡ tab → HeadSays whole (with_letter s (get_or s 0 0) (field s 2))
  opens_says second = go (eqb (get_or s 0 0) (script_letter T)) refl
    where
      of_D : (t : Bool) → eqb (get_or s 0 0) (script_letter D) ≡ t → HeadSays whole (cond t (with_cores s D (field s 2)) NoHeader)
      of_D true e = profile_says D second (eqb-true (get_or s 0 0) (script_letter D) e)
      of_D false e = tt

      go :
          (t : Bool) →
          eqb (get_or s 0 0) (script_letter T) ≡ t →
          HeadSays whole (cond t (with_cores s T (field s 2)) (cond (eqb (get_or s 0 0) (script_letter D)) (with_cores s D (field s 2)) NoHeader))
      go true e = profile_says T second (eqb-true (get_or s 0 0) (script_letter T) e)
      go false e = of_D (eqb (get_or s 0 0) (script_letter D)) refl

  head_says : HeadSays whole (parse_header_lem s)
  head_says = go (eqb (get_or s 1 0) tab) refl
    where
      go : (t : Bool) → eqb (get_or s 1 0) tab ≡ t → HeadSays whole (cond t (with_letter s (get_or s 0 0) (field s 2)) NoHeader)
      go true e = opens_says (eqb-true (get_or s 1 0) tab e)
      go false e = tt

abbrev HeaderSays : List ℕ → ℕ → HeaderLine → Type 0
HeaderSays s at (Header c n next) =
    Stands s at next (script_header c n) × (in_range c ≡ true) × (n.0 ≤ number_most)
HeaderSays s at BadHeader = Unit
HeaderSays s at Unended = Unit

header_to_says : (s : List ℕ) (at : ℕ) (w : Ending) → EndSays at (drop at s) w → HeaderSays s at (header_to s at w)
header_to_says s at (At e) (xs, rest, d, is) = rw (up_to_end s xs rest at e d is) (go (parse_header_lem xs) (head_says xs))
  where
    ranged :
        (c : Counts) (n : Ticket) →
        HeadSays (xs ++ (end ∷ [])) (GoodHeader c n) →
        (t : Bool) →
        in_range c ≡ t →
        HeaderSays s at (cond t (Header c n (e + 1)) BadHeader)
    ranged c n (l, h) true good =
        ((with_end s xs rest at e d is ∙ l, after_end s xs rest at e d is ∙ ap (λ (b : List ℕ). at + length b) l), good, h)
    ranged c n says false good = tt

    go : (r : ParsedHeader) → HeadSays (xs ++ (end ∷ [])) r → HeaderSays s at (header_line r (e + 1))
    go (GoodHeader c n) says = ranged c n says (in_range c) refl
    go NoHeader says = tt
header_to_says s at Long says = tt
header_to_says s at Short says = tt

pub header_read_is_written :
    (s : List ℕ) (at : ℕ) (c : Counts) (n : Ticket) (next : ℕ) →
    read_header s at ≡ Header c n next →
    Stands s at next (script_header c n) × (in_range c ≡ true) × (n.0 ≤ number_most)
header_read_is_written s at c n next e = subst (HeaderSays s at) e (go (leb (length s) at))
  where
    go : (t : Bool) → HeaderSays s at (cond t Unended (header_to s at (line_end_lem s at)))
    go true = tt
    go false = header_to_says s at (line_end_lem s at) (ending_says line_most at (drop at s))
