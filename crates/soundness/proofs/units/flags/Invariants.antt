-- Of the registers before r, n counts the flags.
use Prim.Native.Nat.{ℕ}
use mathlib.Core.Path.{◌≡◌}
use Rattle.parts.specs.Fold.{count}
use Rattle.parts.specs.Parts.{register_in}
use Rattle.soundness.proofs.units.flags.Given as goal

abbrev pub invariant-loop-r : goal.invariant-loop-r
invariant-loop-r l = l.n ≡ count (λ (i : ℕ). (register_in l.fn.x i).flag) l.r-index
