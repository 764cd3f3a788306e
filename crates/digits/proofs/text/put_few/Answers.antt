-- One digit, or the two that `put_two` puts.
use Prim.Native.Nat.{ℕ, ◌+◌, ◌<◌, ◌≤◌}
use mathlib.Core.List.{List}
use mathlib.Core.Path.{refl}
use native.Mathlib.Omega.{arith}
use lib.ListN.{length, set}
use Rattle.numbers.specs.Number.{decimal}
use Rattle.digits.specs.Text.{two, Puts}
use Rattle.digits.proofs.Lengths.{decimal_least}
use Rattle.digits.proofs.Parts.{one_digit, two_digits, two_length}
use Rattle.digits.proofs.Pasting.{one}
use Rattle.digits.proofs.text.put_few.Goals as goal

module _ (o : List ℕ) (at n : ℕ) (room : at + length (decimal n) ≤ length o) where
  some : at < length o
  some = omega (arith, decimal_least n)

  one_put : n < 10 → Puts o (set o at (48 + n)) at (at + 1) (decimal n)
  one_put h = rw (one_digit n h) (one o at (48 + n) (at + 1) refl some)

  module _ (l : 10 ≤ n) (h : n < 100) where
    two_fits : at + 2 ≤ length o
    two_fits = omega (arith, two_length n l h)

    two_put : (m : List ℕ) (q : ℕ) → Puts o m at q (two n) → Puts o m at q (decimal n)
    two_put m q p = rw (two_digits n l h) p

pub bounds-out-at : goal.bounds-out-at
bounds-out-at c = search some

pub returns-then-n-lt10 : goal.returns-then-n-lt10
returns-then-n-lt10 c = search one_put

pub put_two-requires : goal.put_two-requires
put_two-requires c = search two_fits

pub returns : goal.returns
returns c = search two_put
