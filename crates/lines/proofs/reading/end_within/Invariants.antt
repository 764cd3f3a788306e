-- What is still to be answered, after the bytes before i, is the answer. No byte past those asked for is looked at.
use Prim.Native.Nat.{◌+◌, ◌-◌}
use mathlib.Core.Path.{◌≡◌}
use lib.ListN.{drop}
use Rattle.lines.specs.Reading.{ending}
use Rattle.lines.proofs.reading.end_within.Given as goal

abbrev pub invariant-loop-i : goal.invariant-loop-i
invariant-loop-i l = ending l.most l.at (drop l.at l.s) ≡ ending (l.at + l.most - l.i) l.i (drop l.i l.s)
