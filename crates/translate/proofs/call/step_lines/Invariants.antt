-- What is still to be answered is what was at the start; the table stays sound, or not, as it was; the measure is what is left of the script.
use Prim.Native.Nat.{◌-◌}
use mathlib.Core.Bool.{true}
use mathlib.Core.Path.{◌≡◌}
use lib.ListN.{length}
use Rattle.block.specs.Sound.{sound}
use Rattle.block.specs.Table.{Shaped}
use Rattle.calls.specs.Call.{call}
use Rattle.translate.proofs.call.step_lines.Given as goal

abbrev pub invariant-loop-why : goal.invariant-loop-why
invariant-loop-why l =
    (call l.initial.at l.script l.initial.out ≡ call l.at l.script l.out)
    × (l.at.headed ≡ true)
    × (l.fit ≡ sound l.at.table)
    × Shaped l.at.table
    × (length l.out ≡ length l.initial.out)

abbrev pub decreases-loop-why : goal.decreases-loop-why
decreases-loop-why l = length l.script - l.at.place
