-- After k turns, the first k registers are entered.
use mathlib.Core.Path.{◌≡◌}
use Rattle.images.specs.Image.{entered}
use Rattle.images.proofs.image.GoodWords.unit_of.Given as goal

abbrev pub invariant-loop-k : goal.invariant-loop-k
invariant-loop-k l = l.x ≡ entered l.self.words.now l.at l.k
