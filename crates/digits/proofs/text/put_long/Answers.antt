-- A number of more than four digits is what stands before the last four, and those.
use borrow.Author.Rules.{rules}
use Prim.Native.Nat.{ℕ, ◌+◌, ◌/◌, ◌%◌, ◌<◌, ◌≤◌}
use mathlib.Core.List.{List}
use native.Mathlib.Omega.{arith}
use lib.ListN.{length}
use Rattle.numbers.specs.Number.{decimal}
use Rattle.digits.specs.Text.{four, Puts}
use Rattle.digits.proofs.Parts.{more_digits, more_length}
use Rattle.digits.proofs.Pasting.{then, kept}
use Rattle.digits.proofs.text.put_long.Goals as goal

module _ (o : List ℕ) (at n : ℕ) (room : at + length (decimal n) ≤ length o) (l : 10000 ≤ n) (h : n < 100000000) where
  high_fits : at + length (decimal (n / 10000)) ≤ length o
  high_fits = omega (arith, more_length n l (omega arith))

  module _ (m : List ℕ) (p : ℕ) (a : Puts o m at p (decimal (n / 10000))) where
    low_fits : p + 4 ≤ length m
    low_fits = omega (arith, more_length n l (omega arith), kept a, a.goes)

    both : (e : List ℕ) (q : ℕ) → Puts m e p q (four (n % 10000)) → Puts o e at q (decimal n)
    both e q b = rw (more_digits n l (omega arith)) (then a b)

pub put_short-high-requires : goal.put_short-high-requires
put_short-high-requires c = search (high_fits, rules)

pub put_four-requires : goal.put_four-requires
put_four-requires c = search (low_fits, rules)

pub returns : goal.returns
returns c = search both
