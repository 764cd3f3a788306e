-- After i turns, those of the first i who are away are gone from the unit.
use mathlib.Core.Path.{◌≡◌}
use Prim.Native.Nat.{◌≤◌}
use Rattle.parts.specs.Parts.{cores}
use Rattle.settling.specs.InFront.{present}
use Rattle.settling.proofs.dropping.present.Given as goal

abbrev pub invariant-loop-i : goal.invariant-loop-i
invariant-loop-i l = (l.n ≤ cores) × (l.x ≡ present l.i l.initial.x l.all)
