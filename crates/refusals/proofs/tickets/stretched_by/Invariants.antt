-- After k turns, any says whether one of the first k tickets is live and old.
use mathlib.Core.Path.{◌≡◌}
use Rattle.refusals.specs.Tickets.{stretched_by}
use Rattle.refusals.proofs.tickets.stretched_by.Given as goal

abbrev pub invariant-loop-k : goal.invariant-loop-k
invariant-loop-k l = l.any ≡ stretched_by l.counter l.lives l.owns l.k
