-- Of the cores before d, any says whether one lends.
use Prim.Native.Nat.{ℕ}
use mathlib.Core.Path.{◌≡◌}
use lib.ListN.{get_or}
use Rattle.parts.specs.Fold.{some}
use Rattle.parts.specs.Parts.{idle}
use Rattle.soundness.specs.Sound.{lends}
use Rattle.soundness.proofs.cores.lent.Given as goal

abbrev pub invariant-loop-d : goal.invariant-loop-d
invariant-loop-d l = l.any ≡ some (λ (i : ℕ). lends l.c (get_or l.fn.all i idle)) l.d-index
