-- The case of as many digits as the tests say.
use borrow.Author.Rules.{rules}
use Prim.Native.Nat.{ℕ, ◌+◌, ◌/◌, ◌%◌, ◌<◌, ◌≤◌}
use mathlib.Core.List.{List}
use mathlib.Core.Path.{refl}
use native.Mathlib.Omega.{arith}
use lib.ListN.{length, set, length-set}
use Rattle.numbers.specs.Number.{decimal}
use Rattle.digits.specs.Text.{two, four, Puts}
use Rattle.digits.proofs.Lengths.{decimal_least}
use Rattle.digits.proofs.Parts.{three_digits, four_digits, three_length, four_length}
use Rattle.digits.proofs.Pasting.{one, then}
use Rattle.digits.proofs.text.put_short.Goals as goal

module _ (o : List ℕ) (at n : ℕ) (room : at + length (decimal n) ≤ length o) where
  some : at < length o
  some = omega (arith, decimal_least n)

  module _ (l : 100 ≤ n) (h : n < 1000) where
    three_fits : at + 1 + 2 ≤ length (set o at (48 + n / 100))
    three_fits = omega (arith, three_length n l h, length-set o at (48 + n / 100))

    three_put : (m : List ℕ) (q : ℕ) → Puts (set o at (48 + n / 100)) m (at + 1) q (two (n % 100)) → Puts o m at q (decimal n)
    three_put m q p = rw (three_digits n l h) (then (one o at (48 + n / 100) (at + 1) refl some) p)

  module _ (l : 1000 ≤ n) (h : n < 10000) where
    four_fits : at + 4 ≤ length o
    four_fits = omega (arith, four_length n l h)

    four_put : (m : List ℕ) (q : ℕ) → Puts o m at q (four n) → Puts o m at q (decimal n)
    four_put m q p = rw (four_digits n l h) p

pub bounds-out-at : goal.bounds-out-at
bounds-out-at c = search some

pub put_two-requires : goal.put_two-requires
put_two-requires c = search (three_fits, rules)

pub returns-then-n-lt1000 : goal.returns-then-n-lt1000
returns-then-n-lt1000 c = search three_put

pub put_four-requires : goal.put_four-requires
put_four-requires c = search four_fits

pub returns : goal.returns
returns c = search four_put
