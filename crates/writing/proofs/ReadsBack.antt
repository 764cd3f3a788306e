-- Reading gives back what was written, in the middle of any other bytes. What is written holds no line end before its last byte and
-- is no longer than the longest line, so the reader finds that end, and the bytes up to it are parsed number by number.
use Prim.Native.Nat.{ℕ, zero, suc, ◌+◌, ◌-◌, ◌≤◌, ◌<◌}
use mathlib.Core.Bool.{true, false}
use mathlib.Core.List.{List, [], ◌∷◌, ◌++◌, append_assoc, append-nil}
use mathlib.Core.Path.{◌≡◌, refl, sym, ◌∙◌, ap}
use native.Mathlib.Nat.{not-suc-le-zero}
use native.Mathlib.Omega.{arith}
use lib.Dec.{leb}
use lib.ListN.{length, take, drop, length-append}
use lib.Seq.{drop-append_seam, drop-drop, drop-append-add, take-append_seam}
use borrow.Author.Tests.{ne_eqb, lt-leb}
use Rattle.ticket.specs.declared.kinds.Ticket.{Ticket}
use Rattle.parts.proofs.Ranging.{counts_whole, cores_few, first_few, second_few}
use Rattle.parts.specs.Range.{in_range, per_class}
use Rattle.parts.specs.Parts.{cores}
use Rattle.parts.specs.declared.kinds.Counts.{Counts}
use Rattle.parts.specs.declared.kinds.Profile.{Profile}
use Rattle.parts.specs.declared.kinds.Profile.TheVariants.{T, D}
use Rattle.parts.specs.declared.answer.Step.{Step}
use Rattle.parts.specs.declared.answer.Step.TheVariants.{R, N, P, I, C, L}
use Rattle.numbers.specs.Bytes.{tab, end}
use Rattle.lines.specs.Bytes.{line_most, script_letter}
use Rattle.lines.proofs.Letters.{letter_r, letter_n, letter_p, letter_i, letter_c, letter_l}
use Rattle.numbers.specs.Number.{decimal, number_most, scan, field}
use Rattle.lines.specs.Reading.{ending, line_end_lem, one_number, two_numbers_lem, parse_step_lem, step_line_lem, read_step}
use Rattle.headers.specs.Header.{with_counter_lem, with_cores, with_letter, parse_header_lem, header_line, read_header}
use Rattle.digits.specs.Text.{tabbed}
use Rattle.writing.specs.Writing.{lettered, lettered2, numbers_of, step_bytes, script_header}
use Rattle.writing.specs.Claims.{Small}
use Rattle.numbers.specs.Field.{Field, Last, Then}
use Rattle.lines.specs.Ending.{At}
use Rattle.lines.specs.Parsed.{Good}
use Rattle.lines.specs.StepLine.{Line}
use Rattle.headers.specs.ParsedHeader.{Good as GoodHeader}
use Rattle.headers.specs.HeaderLine.{Header}
use Rattle.numbers.proofs.Scanning.{AllDigits, digits_all, digits_most, scan_digits, decimal_length}

-- The line's end

-- no byte is a line end
abbrev pub Plain : List ℕ → Type 0
Plain [] = Unit
Plain (b ∷ bs) = (b ≡ end → ⊥) × Plain bs

pub ending_plain :
    (f i : ℕ) (xs more : List ℕ) → Plain xs → length xs < f → ending f i (xs ++ (end ∷ more)) ≡ At (i + length xs)
unfolding ending
ending_plain zero i xs more p h = absurd (not-suc-le-zero h)
ending_plain (suc f) i [] more p h = ap At (omega arith)
ending_plain (suc f) i (x ∷ xs) more p h =
    let z : i + 1 + length xs ≡ i + suc (length xs) = omega arith in
    rw (ne_eqb x end p.0) (ending_plain f (i + 1) xs more p.1 (omega arith) ∙ ap At z)

pub plain_append : (xs ys : List ℕ) → Plain xs → Plain ys → Plain (xs ++ ys)
plain_append [] ys p q = q
plain_append (x ∷ xs) ys p q = (p.0, plain_append xs ys p.1 q)

plain_digits : (xs : List ℕ) → AllDigits xs → Plain xs
plain_digits [] p = tt
plain_digits (x ∷ xs) p = ((λ e. omega (arith, p.0)), plain_digits xs p.2)

pub plain_tabbed : (n : ℕ) → Plain (tabbed n)
plain_tabbed n = ((λ e. omega arith), plain_digits (decimal n) (digits_all 10 n))

-- a line, its end with it, in the middle of other bytes: where it ends, and what stands before its end
module _ (pre post line body : List ℕ) (whole : line ≡ body ++ (end ∷ [])) (plain : Plain body) (few : length body < line_most) where
  abbrev around : List ℕ
  around = pre ++ (line ++ post)

  follow : drop (length pre) around ≡ body ++ (end ∷ post)
  follow = drop-append_seam pre (line ++ post) ∙ rw whole (append_assoc body (end ∷ []) post)

  one_more : length line ≡ length body + 1
  one_more = rw whole (length-append body (end ∷ []))

  started : leb (length around) (length pre) ≡ false
  started =
      let k = length-append pre (line ++ post) in
      let l = length-append line post in
      let m = one_more in
      lt-leb (length around) (length pre) (omega arith)

  ended : line_end_lem around (length pre) ≡ At (length pre + length body)
  ended = rw follow (ending_plain line_most (length pre) body post plain few)

  between : take (length pre + length body - length pre) (drop (length pre) around) ≡ body
  between =
      let z : length pre + length body - length pre ≡ length body = omega arith in
      rw (z, follow) (take-append_seam body (end ∷ post))

  past : length pre + length body + 1 ≡ length pre + length line
  past = omega (arith, one_more)

  step_line : read_step around (length pre) ≡ step_line_lem (parse_step_lem body) (length pre + length line)
  step_line = simp (started, ended, between, past)

  header_line_lem : read_header around (length pre) ≡ header_line (parse_header_lem body) (length pre + length line)
  header_line_lem = simp (started, ended, between, past)

-- The numbers of a line

module _ (s : List ℕ) (i n : ℕ) (most : n ≤ number_most) where
  pub field_last : drop i s ≡ decimal n → field s i ≡ Last n
  unfolding scan
  field_last e = rw (e ∙ sym (append-nil (decimal n))) (scan_digits n i [] most)

  pub field_then :
      (rest : List ℕ) →
      drop i s ≡ decimal n ++ (tab ∷ rest) →
      (field s i ≡ Then n (i + length (decimal n) + 1)) × (drop (i + length (decimal n) + 1) s ≡ rest)
  unfolding scan
  field_then rest e =
      let z : i + length (decimal n) + 1 ≡ i + (length (decimal n) + 1) = omega arith in (
        rw e (scan_digits n i (tab ∷ rest) most),
        rw (z, sym (drop-drop (length (decimal n) + 1) i s), e) (drop-append-add (decimal n) (tab ∷ rest) 1),
      )

-- Step lines

module _ (pre post : List ℕ) (letter k : ℕ) (x : Step) (other : letter ≡ end → ⊥) (most : k ≤ number_most) where
  one_written :
      one_number letter k ≡ Good x →
      read_step (pre ++ (lettered letter k ++ post)) (length pre) ≡ Line x (length pre + length (lettered letter k))
  one_written is =
      let body : List ℕ = letter ∷ tabbed k in
      let plain : Plain body = (other, plain_tabbed k) in
      let few = decimal_length k most in
      let first = field_last body 2 k most refl in
      step_line pre post (lettered letter k) body refl plain (omega arith) ∙ simp (first, is)

  two_written :
      (u : ℕ) →
      u ≤ number_most →
      two_numbers_lem letter k u ≡ Good x →
      read_step (pre ++ (lettered2 letter k u ++ post)) (length pre) ≡ Line x (length pre + length (lettered2 letter k u))
  two_written u most-too is =
      let body : List ℕ = letter ∷ (tabbed k ++ tabbed u) in
      let plain : Plain body = (other, plain_append (tabbed k) (tabbed u) (plain_tabbed k) (plain_tabbed u)) in
      let few = decimal_length k most in
      let few_too = decimal_length u most-too in
      let long = length-append (decimal k) (tabbed u) in
      let first = field_then body 2 k most (decimal u) refl in
      let second = field_last body (2 + length (decimal k) + 1) u most-too first.1 in
      let whole : lettered2 letter k u ≡ body ++ (end ∷ []) = sym (append_assoc (letter ∷ tabbed k) (tabbed u) (end ∷ [])) in
      step_line pre post (lettered2 letter k u) body whole plain (omega arith) ∙ simp (first.0, second, is)

pub read_step_written :
    (x : Step) →
    Small (numbers_of x) →
    (pre post : List ℕ) →
    read_step (pre ++ (step_bytes x ++ post)) (length pre) ≡ Line x (length pre + length (step_bytes x))
read_step_written (R k u) h pre post = two_written pre post letter_r k.0 (R k u) (λ e. omega arith) h.0 u.0 h.1.0 refl
read_step_written (N k u) h pre post = two_written pre post letter_n k.0 (N k u) (λ e. omega arith) h.0 u.0 h.1.0 refl
read_step_written (P k) h pre post = one_written pre post letter_p k.0 (P k) (λ e. omega arith) h.0 refl
read_step_written (I k) h pre post = one_written pre post letter_i k.0 (I k) (λ e. omega arith) h.0 refl
read_step_written (C k) h pre post = one_written pre post letter_c k.0 (C k) (λ e. omega arith) h.0 refl
read_step_written (L k) h pre post = one_written pre post letter_l k.0 (L k) (λ e. omega arith) h.0 refl

-- The header

-- counts in range have two digits and one each
two_digits : (m : ℕ) → m ≤ cores → length (decimal m) ≤ 2
two_digits m h = digits_most 10 1 m (omega arith)

one_digit : (m : ℕ) → m ≤ per_class → length (decimal m) ≤ 1
one_digit m h = digits_most 10 0 m (omega arith)

-- the letter is no line end, and gives its profile
pub letter_plain : (p : Profile) → script_letter p ≡ end → ⊥
letter_plain T e = omega arith
letter_plain D e = omega arith

letter_gives : (s : List ℕ) (p : Profile) (f : Field) → with_letter s (script_letter p) f ≡ with_cores s p f
letter_gives s T f = refl
letter_gives s D f = refl

module _ (c : Counts) (n : Ticket) where
  -- the header without its end, and what it holds after one number, after two, and after three
  abbrev thirdly : List ℕ
  thirdly = tabbed n.0

  abbrev secondly : List ℕ
  secondly = tabbed c.second ++ thirdly

  abbrev firstly : List ℕ
  firstly = tabbed c.first ++ secondly

  abbrev header : List ℕ
  header = script_letter c.profile ∷ (tabbed c.cores ++ firstly)

  header_whole : script_header c n ≡ header ++ (end ∷ [])
  header_whole = simp append_assoc

  header_plain : Plain header
  header_plain =
      let after_two = plain_append (tabbed c.second) thirdly (plain_tabbed c.second) (plain_tabbed n.0) in
      let after_one = plain_append (tabbed c.first) secondly (plain_tabbed c.first) after_two in
      (letter_plain c.profile, plain_append (tabbed c.cores) firstly (plain_tabbed c.cores) after_one)

  module _ (good : in_range c ≡ true) (most : n.0 ≤ number_most) where
    header_few : length header < line_most
    header_few =
        let k = two_digits c.cores (cores_few c good) in
        let l = one_digit c.first (first_few c good) in
        let m = one_digit c.second (second_few c good) in
        let o = decimal_length n.0 most in
        let p = length-append (decimal c.cores) firstly in
        let q = length-append (decimal c.first) secondly in
        let r = length-append (decimal c.second) thirdly in
        omega arith

    header_parsed : parse_header_lem header ≡ GoodHeader c n
    header_parsed =
        let a = cores_few c good in
        let b = first_few c good in
        let d = second_few c good in
        let i : ℕ = 2 + length (decimal c.cores) + 1 in
        let j : ℕ = i + length (decimal c.first) + 1 in
        let k : ℕ = j + length (decimal c.second) + 1 in
        let one = field_then header 2 c.cores (omega arith) (drop 1 firstly) refl in
        let two = field_then header i c.first (omega arith) (drop 1 secondly) one.1 in
        let three = field_then header j c.second (omega arith) (drop 1 thirdly) two.1 in
        let four = field_last header k n.0 most three.1 in
        let by_numbers : with_cores header c.profile (field header 2) ≡ with_counter_lem c.profile c.cores c.first c.second (Last n.0) = simp (one.0, two.0, three.0, four) in
        letter_gives header c.profile (field header 2) ∙ by_numbers ∙ ap (λ (x : Counts). GoodHeader x n) (counts_whole c)

pub read_header_written :
    (c : Counts) (n : Ticket) →
    in_range c ≡ true →
    n.0 ≤ number_most →
    (pre post : List ℕ) →
    read_header (pre ++ (script_header c n ++ post)) (length pre) ≡ Header c n (length pre + length (script_header c n))
read_header_written c n good most pre post =
    header_line_lem pre post (script_header c n) (header c n) (header_whole c n) (header_plain c n) (header_few c n good most)
    ∙ simp (header_parsed c n good most, good)
