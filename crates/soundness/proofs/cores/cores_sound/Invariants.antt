-- After i turns, ok says whether the first i cores are sound.
use mathlib.Core.Path.{◌≡◌}
use Rattle.parts.specs.Fold.{every}
use Rattle.soundness.specs.Sound.{core_sound}
use Rattle.soundness.proofs.cores.cores_sound.Given as goal

abbrev pub invariant-loop-i : goal.invariant-loop-i
invariant-loop-i l = l.ok ≡ every (core_sound l.counts l.counter l.all) l.i
