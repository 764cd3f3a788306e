-- A tab, and then the number.
use Prim.Native.Nat.{ℕ, ◌+◌, ◌<◌, ◌≤◌}
use mathlib.Core.List.{List}
use mathlib.Core.Path.{refl}
use native.Mathlib.Omega.{arith}
use lib.ListN.{length, set, length-set}
use Rattle.numbers.specs.Bytes.{tab}
use Rattle.digits.specs.Text.{tabbed, Puts}
use Rattle.digits.proofs.Lengths.{decimal_least}
use Rattle.digits.proofs.Parts.{one_digit}
use Rattle.digits.proofs.Pasting.{pair}
use Rattle.digits.proofs.text.put_tabbed.Goals as goal

module _ (o : List ℕ) (at n : ℕ) (room : at + length (tabbed n) ≤ length o) where
  room_two : at + 2 ≤ length o
  room_two = omega (arith, decimal_least n)

  digit_fits : at + 1 < length (set o at tab)
  digit_fits = omega (arith, room_two, length-set o at tab)

  digit_put : n < 10 → Puts o (set (set o at tab) (at + 1) (48 + n)) at (at + 2) (tabbed n)
  digit_put h = rw (one_digit n h) (pair o at tab (48 + n) (at + 2) refl room_two)

pub bounds-out-at-then-n-lt10 : goal.bounds-out-at-then-n-lt10
bounds-out-at-then-n-lt10 c = search digit_fits

pub returns-then-n-lt10 : goal.returns-then-n-lt10
returns-then-n-lt10 c = search digit_put
