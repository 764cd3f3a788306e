use borrow.Author.Rules.{rules}
use Rattle.parts.proofs.Folds.{none}
use Rattle.parts.proofs.Loops.{some_more}
use Rattle.soundness.proofs.cores.lent.Goals as goal

pub loop-d-init : goal.loop-d-init
loop-d-init c = search (none, rules)

pub loop-d-preserved : goal.loop-d-preserved
loop-d-preserved c = search (some_more, rules)
