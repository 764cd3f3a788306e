-- One digit, or one more than the power of ten that the number reaches.
use native.Mathlib.Omega.{arith}
use Rattle.digits.proofs.Parts.{one_length, power_width}
use Rattle.digits.proofs.text.width.Goals as goal

pub returns-then-n-eq0 : goal.returns-then-n-eq0
returns-then-n-eq0 c = grind (arith, one_length)

pub returns : goal.returns
returns c = grind (arith, power_width)
