-- After j turns, ok says whether the first j cores differ from core k.
use Prim.Native.Nat.{ℕ}
use mathlib.Core.Path.{◌≡◌}
use lib.ListN.{get_or}
use Rattle.parts.specs.Fold.{every}
use Rattle.parts.specs.Parts.{idle}
use Rattle.soundness.specs.Sound.{differ}
use Rattle.soundness.proofs.cores.apart.Given as goal

abbrev pub invariant-loop-j : goal.invariant-loop-j
invariant-loop-j l = l.ok ≡ every (λ (j : ℕ). differ l.k.0 l.c j (get_or l.fn.all j idle)) l.j
