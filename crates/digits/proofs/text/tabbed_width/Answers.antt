-- A number of sixteen bits has at most five digits.
use native.Mathlib.Omega.{arith}
use Rattle.digits.proofs.Lengths.{decimal_five}
use Rattle.digits.proofs.text.tabbed_width.Goals as goal

pub returns : goal.returns
returns c = grind (arith, decimal_five)
