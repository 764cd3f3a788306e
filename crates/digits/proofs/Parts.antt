-- A number's digits in parts: the two, three or four of a small one, and of a greater one the number without its last four digits and
-- those four. Each is the definition's digits, taken off one after another.
use Prim.Native.Nat.{ℕ, zero, suc, ◌+◌, ◌*◌, ◌^◌, ◌/◌, ◌%◌, ◌≤◌, ◌<◌}
use native.Mathlib.Nat.{pow-suc, one-le-pow}
use mathlib.Core.List.{[], ◌∷◌, ◌++◌, append_assoc}
use mathlib.Core.Path.{◌≡◌, refl, sym, ◌∙◌}
use native.Mathlib.Omega.{arith}
use lib.ListN.{length, length-append}
use Rattle.numbers.specs.Number.{digits, decimal}
use Rattle.digits.specs.Text.{two, four}
use Rattle.numbers.proofs.Scanning.{digits_one, digits_more, digits_room}

module _ (n : ℕ) where
  pub one_digit : n < 10 → decimal n ≡ (48 + n) ∷ []
  one_digit h = digits_one 9 n h

  pub two_digits : 10 ≤ n → n < 100 → decimal n ≡ two n
  two_digits l h = digits_more 9 n l ∙ rw (digits_one 8 (n / 10) (omega arith))

  pub three_digits : 100 ≤ n → n < 1000 → decimal n ≡ (48 + n / 100) ∷ two (n % 100)
  three_digits l h =
      let a : n / 10 / 10 ≡ n / 100 = omega arith in
      let b : n / 10 % 10 ≡ n % 100 / 10 = omega arith in
      let c : n % 10 ≡ n % 100 % 10 = omega arith in
      digits_more 9 n (omega arith)
      ∙ rw (digits_more 8 (n / 10) (omega arith), digits_one 7 (n / 10 / 10) (omega arith), a, b, c)

  last_four : four (n % 10000) ≡ (48 + n / 10 / 10 / 10 % 10) ∷ (48 + n / 10 / 10 % 10) ∷ (48 + n / 10 % 10) ∷ (48 + n % 10) ∷ []
  last_four =
      let a : n % 10000 / 100 / 10 ≡ n / 10 / 10 / 10 % 10 = omega arith in
      let b : n % 10000 / 100 % 10 ≡ n / 10 / 10 % 10 = omega arith in
      let c : n % 10000 % 100 / 10 ≡ n / 10 % 10 = omega arith in
      let d : n % 10000 % 100 % 10 ≡ n % 10 = omega arith in
      rw (a, b, c, d)

  pub four_digits : 1000 ≤ n → n < 10000 → decimal n ≡ four n
  four_digits l h =
      let a : n / 10 / 10 / 10 ≡ n / 100 / 10 = omega arith in
      let b : n / 10 / 10 % 10 ≡ n / 100 % 10 = omega arith in
      let c : n / 10 % 10 ≡ n % 100 / 10 = omega arith in
      let d : n % 10 ≡ n % 100 % 10 = omega arith in
      digits_more 9 n (omega arith)
      ∙ rw (
        digits_more 8 (n / 10) (omega arith),
        digits_more 7 (n / 10 / 10) (omega arith),
        digits_one 6 (n / 10 / 10 / 10) (omega arith),
        a,
        b,
        c,
        d,
      )

  -- six digits are all that a number below 1,000,000 has
  six : n < 1000000 → digits 6 n ≡ decimal n
  six h =
      sym
      (digits_room 8 n (omega arith)
      ∙ digits_room 7 n (omega arith)
      ∙ digits_room 6 n (omega arith)
      ∙ digits_room 5 n (omega arith))

pub more_digits : (n : ℕ) → 10000 ≤ n → n < 10000000000 → decimal n ≡ decimal (n / 10000) ++ four (n % 10000)
more_digits n l h =
    let k = n / 10 in
    let j = k / 10 in
    let i = j / 10 in
    let z : i / 10 ≡ n / 10000 = omega arith in
    let a : digits 7 i ≡ digits 6 (i / 10) ++ ((48 + i % 10) ∷ []) = digits_more 6 i (omega arith) in
    let b : digits 8 j ≡ digits 6 (i / 10) ++ ((48 + i % 10) ∷ (48 + j % 10) ∷ []) =
    digits_more 7 j (omega arith) ∙ rw a (append_assoc (digits 6 (i / 10)) ((48 + i % 10) ∷ []) ((48 + j % 10) ∷ []))
    in
    let c : digits 9 k ≡ digits 6 (i / 10) ++ ((48 + i % 10) ∷ (48 + j % 10) ∷ (48 + k % 10) ∷ []) =
    digits_more 8 k (omega arith) ∙ rw b (append_assoc (digits 6 (i / 10)) ((48 + i % 10) ∷ (48 + j % 10) ∷ []) ((48 + k % 10) ∷ []))
    in
    let d : decimal n ≡ digits 6 (i / 10) ++ ((48 + i % 10) ∷ (48 + j % 10) ∷ (48 + k % 10) ∷ (48 + n % 10) ∷ []) =
    digits_more 9 n (omega arith)
    ∙ rw c (append_assoc (digits 6 (i / 10)) ((48 + i % 10) ∷ (48 + j % 10) ∷ (48 + k % 10) ∷ []) ((48 + n % 10) ∷ []))
    in
    d ∙ rw (last_four n, z, six (n / 10000) (omega arith))

-- how many there are
module _ (n : ℕ) where
  pub one_length : n < 10 → 1 ≡ length (decimal n)
  one_length h = rw (one_digit n h)

  pub two_length : 10 ≤ n → n < 100 → 2 ≡ length (decimal n)
  two_length l h = rw (two_digits n l h)

  pub three_length : 100 ≤ n → n < 1000 → 3 ≡ length (decimal n)
  three_length l h = rw (three_digits n l h)

  pub four_length : 1000 ≤ n → n < 10000 → 4 ≡ length (decimal n)
  four_length l h = rw (four_digits n l h)

pub more_length : (n : ℕ) → 10000 ≤ n → n < 10000000000 → length (decimal n) ≡ length (decimal (n / 10000)) + 4
more_length n l h = rw (more_digits n l h) (length-append (decimal (n / 10000)) (four (n % 10000)))

-- and as many as the power of ten that it reaches says
powers : (f k n : ℕ) → 10 ^ k ≤ n → n < 10 * 10 ^ k → k < f → length (digits f n) ≡ k + 1
powers zero k n l h few = absurd (omega arith)
powers (suc f) zero n l h few = rw (digits_one f n (omega arith)) refl
powers (suc f) (suc k) n l h few =
    let p = pow-suc 10 k in
    let q = one-le-pow k 10 (omega arith) in
    let m = length-append (digits f (n / 10)) ((48 + n % 10) ∷ []) in
    rw (digits_more f n (omega arith)) (omega (arith, m, powers f k (n / 10) (omega arith) (omega arith) (omega arith)))

pub power_width : (n k : ℕ) → 10 ^ k ≤ n → n < 10 * 10 ^ k → k < 10 → (k + 1 ≡ length (decimal n)) × (k + 1 ≤ 10)
power_width n k l h few = (sym (powers 10 k n l h few), omega arith)
