-- After k turns, none of the first k cores is stretched.
use mathlib.Core.Bool.{false}
use mathlib.Core.Path.{◌≡◌}
use Rattle.refusals.specs.Judge.{stretched}
use Rattle.refusals.proofs.tickets.stretched.Given as goal

abbrev pub invariant-loop-k : goal.invariant-loop-k
invariant-loop-k l = false ≡ stretched l.fn.counter l.all l.k
