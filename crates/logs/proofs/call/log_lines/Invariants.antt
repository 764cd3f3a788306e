-- What is still to be answered stays the same from turn to turn, on a sound table that a program holds; the measure is what is left of the log.
use Prim.Native.Nat.{◌-◌}
use mathlib.Core.Bool.{true}
use mathlib.Core.Path.{◌≡◌}
use lib.ListN.{length}
use Rattle.block.specs.Sound.{sound}
use Rattle.room.specs.Claims.{Held}
use Rattle.logs.specs.Checking.{check_call}
use Rattle.logs.proofs.call.log_lines.Given as goal

abbrev pub invariant-loop-why : goal.invariant-loop-why
invariant-loop-why l =
    (check_call l.initial.at l.log ≡ check_call l.at l.log)
    × (l.at.headed ≡ true)
    × (l.at.wrote ≡ l.initial.at.wrote)
    × (sound l.at.table ≡ true)
    × Held l.at.table

abbrev pub decreases-loop-why : goal.decreases-loop-why
decreases-loop-why l = length l.log - l.at.place
