-- After k turns, ok says whether the first k registers agree.
use Prim.Native.Nat.{ℕ}
use mathlib.Core.Path.{◌≡◌}
use lib.ListN.{get_or}
use Rattle.parts.specs.Fold.{every}
use Rattle.parts.specs.Parts.{idle, register_in}
use Rattle.soundness.specs.Agreement.{agrees}
use Rattle.soundness.proofs.units.agree.Given as goal

abbrev pub invariant-loop-k : goal.invariant-loop-k
invariant-loop-k l = l.ok ≡ every (λ (i : ℕ). agrees (get_or l.all i idle) l.u.0 (register_in l.x i)) l.k
