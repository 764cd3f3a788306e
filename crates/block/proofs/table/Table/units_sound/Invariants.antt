-- After i turns, ok says whether the first i units are sound.
use mathlib.Core.Path.{◌≡◌}
use Rattle.parts.specs.Fold.{every}
use Rattle.block.specs.Sound.{unit_sound_lem}
use Rattle.block.proofs.table.Table.units_sound.Given as goal

abbrev pub invariant-loop-i : goal.invariant-loop-i
invariant-loop-i l = l.ok ≡ every (unit_sound_lem l.fn.self) l.i
