-- A tab, the first of five digits, and the other four.
use borrow.Author.Rules.{rules}
use Prim.Native.Nat.{ℕ, ◌+◌, ◌-◌, ◌*◌, ◌/◌, ◌%◌, ◌<◌, ◌≤◌}
use mathlib.Core.List.{List, ◌∷◌}
use mathlib.Core.Path.{◌≡◌, refl, ◌∙◌}
use native.Mathlib.Omega.{arith}
use lib.ListN.{length, set, length-set}
use Rattle.numbers.specs.Bytes.{tab}
use Rattle.numbers.specs.Number.{decimal}
use Rattle.digits.specs.Text.{tabbed, four, Puts}
use Rattle.digits.proofs.Parts.{one_digit, more_digits}
use Rattle.digits.proofs.Pasting.{pair, then}
use Rattle.digits.proofs.text.put_ticket.Goals as goal

-- the five digits of a ticket of 10,000 or more
five_digits : (n : ℕ) → 10000 ≤ n → n < 65536 → decimal n ≡ (48 + n / 10000) ∷ four (n - 10000 * (n / 10000))
five_digits n l h =
    let z : n % 10000 ≡ n - 10000 * (n / 10000) = omega arith in
    more_digits n l (omega arith) ∙ rw (one_digit (n / 10000) (omega arith), z)

module _ (o : List ℕ) (at n : ℕ) (room : at + length (tabbed n) ≤ length o) (l : 10000 ≤ n) (h : n < 65536) where
  room_six : at + 6 ≤ length o
  room_six = rw (five_digits n l h) at room

  abbrev front : List ℕ
  front = set (set o at tab) (at + 1) (48 + n / 10000)

  first_fits : at + 1 < length (set o at tab)
  first_fits = omega (arith, room_six, length-set o at tab)

  rest_fits : at + 2 + 4 ≤ length front
  rest_fits = omega (arith, room_six, length-set o at tab, length-set (set o at tab) (at + 1) (48 + n / 10000))

  module _
      (k : ℕ) (is : k ≡ n) (m : List ℕ) (q : ℕ)
      (p : Puts (set (set o at tab) (at + 1) (48 + k / 10000)) m (at + 2) q (four (k - 10000 * (k / 10000)))) where
    whole : Puts o m at q (tabbed n)
    whole = rw (five_digits n l h) (then (pair o at tab (48 + n / 10000) (at + 2) refl (omega (arith, room_six))) (rw is at p))

pub bounds-out-at-2 : goal.bounds-out-at-2
bounds-out-at-2 c = search first_fits

pub put_four-requires : goal.put_four-requires
put_four-requires c = search (rest_fits, rules)

pub returns : goal.returns
returns c = search whole
