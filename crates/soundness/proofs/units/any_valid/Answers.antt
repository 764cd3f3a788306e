use borrow.Author.Rules.{rules}
use Rattle.parts.proofs.Folds.{none, more}
use Rattle.soundness.proofs.units.any_valid.Goals as goal

pub loop-r-init : goal.loop-r-init
loop-r-init c = search (none, rules)

pub loop-r-preserved : goal.loop-r-preserved
loop-r-preserved c = search (more, rules)
