-- `every_case` ends: each case stands after the one before it.
use Rattle.std.proofs.Common.{length}
use Rattle.readings.proofs.every_case.Given as goal

abbrev pub decreases-loop-rest : goal.decreases-loop-rest
decreases-loop-rest l = length l.rest
