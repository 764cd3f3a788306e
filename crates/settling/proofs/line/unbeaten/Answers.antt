use borrow.Author.Rules.{rules}
use Rattle.parts.proofs.Folds.{none, more}
use Rattle.settling.proofs.line.unbeaten.Goals as goal

pub loop-a-init : goal.loop-a-init
loop-a-init c = search (none, rules)

pub loop-a-preserved : goal.loop-a-preserved
loop-a-preserved c = search (more, rules)
