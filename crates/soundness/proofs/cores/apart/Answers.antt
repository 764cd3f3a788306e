use borrow.Author.Rules.{rules}
use Rattle.parts.proofs.Folds.{none}
use Rattle.parts.proofs.Loops.{every_more}
use Rattle.soundness.proofs.cores.apart.Goals as goal

pub loop-j-init : goal.loop-j-init
loop-j-init c = search (none, rules)

pub loop-j-preserved : goal.loop-j-preserved
loop-j-preserved c = search (every_more, rules)
