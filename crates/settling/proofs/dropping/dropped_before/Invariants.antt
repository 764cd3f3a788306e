-- After i turns, those of the first i who go are dropped, and the others are as they were.
use mathlib.Core.Path.{◌≡◌}
use Prim.Native.Nat.{◌≤◌}
use Rattle.parts.specs.Parts.{cores}
use Rattle.settling.specs.Dropping.{dropping}
use Rattle.settling.specs.InFront.{dropped_before}
use Rattle.settling.proofs.dropping.dropped_before.Given as goal

abbrev pub invariant-loop-i : goal.invariant-loop-i
invariant-loop-i l = (l.n ≤ cores) × (dropping l.x l.left ≡ dropped_before l.i l.first l.initial.x l.initial.left)
