-- A number of more than four digits is what stands before the last four, and those.
use borrow.Author.Rules.{rules}
use Prim.Native.Nat.{ℕ, ◌+◌, ◌-◌, ◌*◌, ◌/◌, ◌%◌, ◌<◌, ◌≤◌}
use mathlib.Core.List.{List}
use mathlib.Core.Path.{◌≡◌}
use native.Mathlib.Omega.{arith}
use lib.ListN.{length}
use Rattle.numbers.specs.Number.{decimal}
use Rattle.digits.specs.Text.{four, Puts}
use Rattle.digits.proofs.Parts.{more_digits, more_length}
use Rattle.digits.proofs.Pasting.{then, kept}
use Rattle.digits.proofs.text.put_number.Goals as goal

module _ (o : List ℕ) (at n : ℕ) (room : at + length (decimal n) ≤ length o) (l : 10000 ≤ n) (h : n < 4294967296) where
  high_fits : at + length (decimal (n / 10000)) ≤ length o
  high_fits = omega (arith, more_length n l (omega arith))

  module _ (m : List ℕ) (p : ℕ) (a : Puts o m at p (decimal (n / 10000))) where
    low_fits : p + 4 ≤ length m
    low_fits = omega (arith, more_length n l (omega arith), kept a, a.goes)

    both : (e : List ℕ) (q : ℕ) → Puts m e p q (four (n % 10000)) → Puts o e at q (decimal n)
    both e q b = rw (more_digits n l (omega arith)) (then a b)

    both_taken : (e : List ℕ) (q : ℕ) → Puts m e p q (four (n - 10000 * (n / 10000))) → Puts o e at q (decimal n)
    both_taken e q b = let z : n % 10000 ≡ n - 10000 * (n / 10000) = omega arith in both e q (rw z b)

pub put_few-high-requires : goal.put_few-high-requires
put_few-high-requires c = search (high_fits, rules)

pub put_four-requires : goal.put_four-requires
put_four-requires c = search (low_fits, rules)

pub returns-then-n-lt1000000 : goal.returns-then-n-lt1000000
returns-then-n-lt1000000 c = search both_taken

pub put_long-high-requires : goal.put_long-high-requires
put_long-high-requires c = search (high_fits, rules)

pub put_four-requires-2 : goal.put_four-requires-2
put_four-requires-2 c = search (low_fits, rules)

pub returns : goal.returns
returns c = search both
