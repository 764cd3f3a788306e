-- Of the registers before r, any says whether one is valid.
use Prim.Native.Nat.{ℕ}
use mathlib.Core.Path.{◌≡◌}
use Rattle.parts.specs.Fold.{some}
use Rattle.parts.specs.Parts.{register_in}
use Rattle.soundness.proofs.units.any_valid.Given as goal

abbrev pub invariant-loop-r : goal.invariant-loop-r
invariant-loop-r l = l.any ≡ some (λ (i : ℕ). (register_in l.fn.x i).valid) l.r-index
