-- What is still to be answered, from byte i on with as many fields left, is the answer.
use Prim.Native.Nat.{◌-◌}
use mathlib.Core.Path.{◌≡◌}
use lib.ListN.{length}
use Rattle.loglines.specs.Log.{numbers_from_lem}
use Rattle.loglines.specs.Parts.{rest_from, are_numbers}
use Rattle.loglines.proofs.line.all_numbers.Given as goal

abbrev pub invariant-loop : goal.invariant-loop
invariant-loop l = are_numbers (rest_from l.s l.fn.from) ≡ are_numbers (numbers_from_lem (length l.s - l.counter) l.s l.i)
