-- Reading and writing of numbers agree. A number that was written is read back whole, by recursion over its digits from the last one;
-- and where a number is read, the bytes passed are that number written, by recursion over the bytes, with what was read so far in front.
use Prim.Native.Nat.{ℕ, zero, suc, ◌+◌, ◌-◌, ◌*◌, ◌/◌, ◌%◌, ◌^◌, ◌≤◌, ◌<◌}
use mathlib.Core.Bool.{Bool, true, false, cond, ◌&&◌}
use mathlib.Core.List.{List, [], ◌∷◌, ◌++◌, append_assoc, append-nil}
use mathlib.Core.Logic.{◌⊎◌, inl, inr, ⊎_elim}
use mathlib.Core.Path.{◌≡◌, refl, sym, ◌∙◌, ap, subst}
use native.Mathlib.Nat.{pow-suc}
use native.Mathlib.Omega.{arith}
use lib.Dec.{eqb, ltb}
use lib.ListN.{length, length-append}
use borrow.Author.Tests.{ltb-true, ltb-false, lt-ltb, le-ltb, le-leb, ne_eqb, eqb-true, eqb-false}
use Rattle.numbers.specs.Bytes.{tab}
use Rattle.numbers.specs.Number.{digits, decimal, number_most, follows, scan}
use Rattle.numbers.specs.Field.{Field, Bad, Last, Then}
use Rattle.numbers.proofs.Turns.{follows_says}

-- How a number is written

few_or_more : (n : ℕ) → (n < 10) ⊎ (10 ≤ n)
few_or_more n = go (ltb n 10) refl
  where
    go : (b : Bool) → ltb n 10 ≡ b → (n < 10) ⊎ (10 ≤ n)
    go true e = inl (ltb-true n 10 e)
    go false e = inr (ltb-false n 10 e)

-- one digit is written as itself, and a greater number as the digits before the last and the last
pub digits_one : (f n : ℕ) → n < 10 → digits (suc f) n ≡ (48 + n) ∷ []
unfolding digits
digits_one f n h = rw (lt-ltb n 10 h)

pub digits_more : (f n : ℕ) → 10 ≤ n → digits (suc f) n ≡ digits f (n / 10) ++ ((48 + n % 10) ∷ [])
unfolding digits
digits_more f n h = rw (le-ltb n 10 h)

-- a number below 10 ^ suc f, without its last digit
shorter : (f n : ℕ) → n < 10 ^ suc f → n / 10 < 10 ^ f
shorter f n h = let p = pow-suc 10 f in omega arith

-- where there is room for all digits, more room changes nothing
pub digits_room : (f n : ℕ) → n < 10 ^ suc f → digits (suc (suc f)) n ≡ digits (suc f) n
digits_room zero n h = digits_one 1 n h ∙ sym (digits_one 0 n h)
digits_room (suc f) n h = go (digits_room f (n / 10)) (few_or_more n)
  where
    go :
        (n / 10 < 10 ^ suc f → digits (suc (suc f)) (n / 10) ≡ digits (suc f) (n / 10)) →
        (n < 10) ⊎ (10 ≤ n) →
        digits (suc (suc (suc f))) n ≡ digits (suc (suc f)) n
    go before (inl l) = digits_one (suc (suc f)) n l ∙ sym (digits_one (suc f) n l)
    go before (inr l) =
        rw (digits_more (suc (suc f)) n l, digits_more (suc f) n l) (ap (λ (d : List ℕ). d ++ ((48 + n % 10) ∷ [])) (before (shorter (suc f) n h)))

-- one digit more, after a number that is not 0
pub decimal_more : (v d : ℕ) → 0 < v → v ≤ number_most → d ≤ 9 → decimal (10 * v + d) ≡ decimal v ++ ((48 + d) ∷ [])
decimal_more v d p h l =
    let q : (10 * v + d) / 10 ≡ v = omega arith in
    let r : (10 * v + d) % 10 ≡ d = omega arith in
    digits_more 9 (10 * v + d) (omega arith) ∙ rw (q, r, digits_room 8 v (omega arith))

-- Reading what was written

scan_digit :
    (some : Bool) (v i d : ℕ) (more : List ℕ) →
    d ≤ 9 →
    (some && eqb v 0) ≡ false →
    10 * v + d ≤ number_most →
    scan some v i ((48 + d) ∷ more) ≡ scan true (10 * v + d) (i + 1) more
unfolding scan
scan_digit some v i d more l lone h =
    let z : 48 + d - 48 ≡ d = omega arith in
    simp (
      z,
      ne_eqb (48 + d) tab (λ e. omega arith),
      le-leb 48 (48 + d) (omega arith),
      le-leb (48 + d) 57 (omega arith),
      lone,
      le-leb (10 * v + d) number_most h,
    )

module _ (n i : ℕ) (more : List ℕ) (most : n ≤ number_most) where
  scan_one :
      (f : ℕ) → n < 10 → scan false 0 i (digits (suc f) n ++ more) ≡ scan true n (i + length (digits (suc f) n)) more
  scan_one f l =
      let z : 10 * 0 + n ≡ n = omega arith in
      rw (digits_one f n l) (scan_digit false 0 i n more (omega arith) refl (omega arith) ∙ rw z)

  scan_further :
      (f : ℕ) →
      10 ≤ n →
      scan false 0 i (digits (suc f) (n / 10) ++ ((48 + n % 10) ∷ more)) ≡
      scan true (n / 10) (i + length (digits (suc f) (n / 10))) ((48 + n % 10) ∷ more) →
      scan false 0 i (digits (suc (suc f)) n ++ more) ≡ scan true n (i + length (digits (suc (suc f)) n)) more
  scan_further f l before =
      let d = digits (suc f) (n / 10) in
      let z : 10 * (n / 10) + n % 10 ≡ n = omega arith in
      let k : i + length d + 1 ≡ i + (length d + 1) = omega arith in
      rw (digits_more (suc f) n l)
      (simp
      (append_assoc, length-append)
      (before ∙ scan_digit true (n / 10) (i + length d) (n % 10) more (omega arith) (ne_eqb (n / 10) 0 (λ e. omega arith)) (omega arith) ∙ rw (z, k)))

pub scan_written :
    (f n i : ℕ) (more : List ℕ) →
    n < 10 ^ suc f →
    n ≤ number_most →
    scan false 0 i (digits (suc f) n ++ more) ≡ scan true n (i + length (digits (suc f) n)) more
scan_written zero n i more h most = scan_one n i more most zero h
scan_written (suc f) n i more h most = go (scan_written f (n / 10) i ((48 + n % 10) ∷ more) (shorter (suc f) n h) (omega arith)) (few_or_more n)
  where
    go :
        scan false 0 i (digits (suc f) (n / 10) ++ ((48 + n % 10) ∷ more)) ≡
        scan true (n / 10) (i + length (digits (suc f) (n / 10))) ((48 + n % 10) ∷ more) →
        (n < 10) ⊎ (10 ≤ n) →
        scan false 0 i (digits (suc (suc f)) n ++ more) ≡ scan true n (i + length (digits (suc (suc f)) n)) more
    go before (inl l) = scan_one n i more most (suc f) l
    go before (inr l) = scan_further n i more most f l before

pub scan_digits :
    (n i : ℕ) (more : List ℕ) → n ≤ number_most → scan false 0 i (decimal n ++ more) ≡ scan true n (i + length (decimal n)) more
scan_digits n i more h = scan_written 9 n i more (omega arith) h

-- What was read is as it would be written

-- what the answer of a scan says of the bytes from the number's start on, at a
abbrev pub Says : ℕ → List ℕ → Field → Type 0
Says a l Bad = Unit
Says a l (Last n) = (l ≡ decimal n) × (n ≤ number_most)
Says a l (Then n j) = (rest : List ℕ) × (l ≡ decimal n ++ (tab ∷ rest)) × (j ≡ a + length (decimal n) + 1) × (n ≤ number_most)

-- a digit that follows the number v stands behind v in what is written
read_digit : (v b : ℕ) → v ≤ number_most → follows true v b ≡ true → decimal (10 * v + (b - 48)) ≡ decimal v ++ (b ∷ [])
read_digit v b h e =
    let w = follows_says true v b e in
    let d = eqb-false v 0 w.2 in
    let z : 48 + (b - 48) ≡ b = omega arith in
    decimal_more v (b - 48) (omega arith) h (omega arith) ∙ rw z

-- one more byte b after the number v, which is read up to i; r is what the scan answers after b
module _ (a v i b : ℕ) (bs : List ℕ) (r : Field) (h : v ≤ number_most) (at : i ≡ a + length (decimal v)) where
  abbrev Later : Type 0
  Later =
      10 * v + (b - 48) ≤ number_most → i + 1 ≡ a + length (decimal (10 * v + (b - 48))) → Says a (decimal (10 * v + (b - 48)) ++ bs) r

  says_digit : Later → (t : Bool) → follows true v b ≡ t → Says a (decimal v ++ (b ∷ bs)) (cond t r Bad)
  says_digit later true e =
      let w = follows_says true v b e in
      let k = length-append (decimal v) (b ∷ []) in
      let at_next : i + 1 ≡ a + length (decimal (10 * v + (b - 48))) = rw (read_digit v b h e) (omega arith) in
      subst
      (λ (l : List ℕ). Says a l r)
      (ap (λ (l : List ℕ). l ++ bs) (read_digit v b h e) ∙ append_assoc (decimal v) (b ∷ []) bs)
      (later w.3 at_next)
  says_digit later false e = tt

  says_byte :
      Later → (t : Bool) → eqb b tab ≡ t → Says a (decimal v ++ (b ∷ bs)) (cond t (Then v (i + 1)) (cond (follows true v b) r Bad))
  says_byte later true e = (bs, ap (λ (x : ℕ). decimal v ++ (x ∷ bs)) (eqb-true b tab e), omega arith, h)
  says_byte later false e = says_digit later (follows true v b) refl

says_on : (a : ℕ) (bs : List ℕ) (v i : ℕ) → v ≤ number_most → i ≡ a + length (decimal v) → Says a (decimal v ++ bs) (scan true v i bs)
unfolding scan
says_on a [] v i h at = (append-nil (decimal v), h)
says_on a (b ∷ bs) v i h at =
    says_byte a v i b bs (scan true (10 * v + (b - 48)) (i + 1) bs) h at (says_on a bs (10 * v + (b - 48)) (i + 1)) (eqb b tab) refl

pub scan_says : (i : ℕ) (bs : List ℕ) → Says i bs (scan false 0 i bs)
unfolding scan
scan_says i [] = tt
scan_says i (b ∷ bs) = go (eqb b tab) (follows false 0 b) refl
  where
    go : (t u : Bool) → follows false 0 b ≡ u → Says i (b ∷ bs) (cond t Bad (cond u (scan true (10 * 0 + (b - 48)) (i + 1) bs) Bad))
    go true u e = tt
    go false false e = tt
    go false true e =
        let w = follows_says false 0 b e in
        let z : 48 + (10 * 0 + (b - 48)) ≡ b = omega arith in
        let one : decimal (10 * 0 + (b - 48)) ≡ b ∷ [] = digits_one 9 (10 * 0 + (b - 48)) (omega arith) ∙ rw z in
        let n = says_on i bs (10 * 0 + (b - 48)) (i + 1) w.3 (rw one) in
        subst (λ (l : List ℕ). Says i (l ++ bs) (scan true (10 * 0 + (b - 48)) (i + 1) bs)) one n

pub scan_exact_last : (i n : ℕ) (bs : List ℕ) → scan false 0 i bs ≡ Last n → (bs ≡ decimal n) × (n ≤ number_most)
scan_exact_last i n bs e = subst (Says i bs) e (scan_says i bs)

pub scan_exact_then :
    (i n j : ℕ) (bs : List ℕ) →
    scan false 0 i bs ≡ Then n j →
    (rest : List ℕ) × (bs ≡ decimal n ++ (tab ∷ rest)) × (j ≡ i + length (decimal n) + 1) × (n ≤ number_most)
scan_exact_then i n j bs e = subst (Says i bs) e (scan_says i bs)

-- How long a number is, and of which bytes

digits_none : (n : ℕ) → digits zero n ≡ []
unfolding digits
digits_none n = refl

digits_some : (f n : ℕ) → 1 ≤ length (digits (suc f) n)
digits_some f n =
    ⊎_elim
    (λ l. rw (digits_one f n l) (omega arith))
    (λ l. let k = length-append (digits f (n / 10)) ((48 + n % 10) ∷ []) in rw (digits_more f n l) (omega arith))
    (few_or_more n)

pub digits_most : (f k n : ℕ) → n < 10 ^ suc k → length (digits f n) ≤ suc k
digits_most zero k n h = rw (digits_none n) (omega arith)
digits_most (suc f) k n h = go k h (digits_most f) (few_or_more n)
  where
    go :
        (j : ℕ) →
        n < 10 ^ suc j →
        ((i m : ℕ) → m < 10 ^ suc i → length (digits f m) ≤ suc i) →
        (n < 10) ⊎ (10 ≤ n) →
        length (digits (suc f) n) ≤ suc j
    go j l before (inl few) = rw (digits_one f n few) (omega arith)
    go zero l before (inr more) = absurd (omega arith)
    go (suc j) l before (inr more) =
        let b = before j (n / 10) (shorter (suc j) n l) in
        let k = length-append (digits f (n / 10)) ((48 + n % 10) ∷ []) in
        rw (digits_more f n more) (omega arith)

pub decimal_length : (n : ℕ) → n ≤ number_most → (1 ≤ length (decimal n)) × (length (decimal n) ≤ 5)
decimal_length n h = (digits_some 9 n, digits_most 10 4 n (omega arith))

-- each byte is one of the digits 0 to 9
abbrev pub AllDigits : List ℕ → Type 0
AllDigits [] = Unit
AllDigits (b ∷ bs) = (48 ≤ b) × (b ≤ 57) × AllDigits bs

all_append : (xs ys : List ℕ) → AllDigits xs → AllDigits ys → AllDigits (xs ++ ys)
all_append [] ys p q = q
all_append (x ∷ xs) ys p q = (p.0, p.1, all_append xs ys p.2 q)

pub digits_all : (f n : ℕ) → AllDigits (digits f n)
digits_all zero n = rw (digits_none n) tt
digits_all (suc f) n = go (digits_all f (n / 10)) (few_or_more n)
  where
    go : AllDigits (digits f (n / 10)) → (n < 10) ⊎ (10 ≤ n) → AllDigits (digits (suc f) n)
    go before (inl l) = rw (digits_one f n l) (omega arith, omega arith, tt)
    go before (inr l) =
        rw (digits_more f n l) (all_append (digits f (n / 10)) ((48 + n % 10) ∷ []) before (omega arith, omega arith, tt))
