-- What is still to be answered, after the bytes before i, is the answer.
use mathlib.Core.Path.{◌≡◌}
use lib.ListN.{drop}
use Rattle.numbers.specs.Number.{field, scan}
use Rattle.numbers.proofs.number.read_field.Given as goal

abbrev pub invariant-loop-i : goal.invariant-loop-i
invariant-loop-i l = field l.s l.at ≡ scan l.some l.v l.i (drop l.i l.s)
