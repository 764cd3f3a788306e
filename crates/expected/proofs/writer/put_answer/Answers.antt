-- A number of one digit is that digit, and any other is put by `put_tabbed`.
use Prim.Native.Nat.{ℕ, ◌+◌, ◌<◌, ◌≤◌}
use mathlib.Core.Bool.{Bool, true}
use mathlib.Core.List.{List}
use mathlib.Core.Path.{◌≡◌, refl, sym, ◌∙◌}
use native.Mathlib.Omega.{arith}
use borrow.Author.Tests.{ltb-true}
use lib.Dec.{ltb}
use lib.ListN.{length, set, length-set}
use Rattle.parts.specs.Answer.{number_of}
use Rattle.parts.specs.declared.answer.Answer.{Answer}
use Rattle.numbers.specs.Bytes.{tab}
use Rattle.digits.specs.Text.{tabbed, Puts}
use Rattle.digits.proofs.Lengths.{decimal_least}
use Rattle.digits.proofs.Parts.{one_digit}
use Rattle.digits.proofs.Pasting.{pair}
use Rattle.expected.proofs.writer.put_answer.Goals as goal

module _ (a : Answer) (k : ℕ) (is : k ≡ number_of a) where
  module _ (b : Bool) (says : b ≡ ltb (number_of a) 10) (e : b ≡ true) where
    few : k < 10
    few = rw is (ltb-true (number_of a) 10 (sym says ∙ e))

  module _ (o : List ℕ) (at : ℕ) (room : at + length (tabbed (number_of a)) ≤ length o) where
    digit_fits : at + 1 < length (set o at tab)
    digit_fits = omega (arith, decimal_least (number_of a), length-set o at tab)

    digit_put :
        (b : Bool) →
        b ≡ ltb (number_of a) 10 →
        b ≡ true →
        Puts o (set (set o at tab) (at + 1) (48 + k)) at (at + 2) (tabbed (number_of a))
    digit_put b says e =
        rw (← is, one_digit k (few b says e)) (pair o at tab (48 + k) (at + 2) refl (omega (arith, decimal_least (number_of a))))

pub bounds-out-at-then-taken : goal.bounds-out-at-then-taken
bounds-out-at-then-taken c = search digit_fits

pub returns-then-taken : goal.returns-then-taken
returns-then-taken c = search digit_put
