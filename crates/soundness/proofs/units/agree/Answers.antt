use borrow.Author.Rules.{rules}
use Rattle.parts.proofs.Folds.{none}
use Rattle.parts.proofs.Loops.{every_more}
use Rattle.soundness.proofs.units.agree.Goals as goal

pub loop-k-init : goal.loop-k-init
loop-k-init c = search (none, rules)

pub loop-k-preserved : goal.loop-k-preserved
loop-k-preserved c = search (every_more, rules)
