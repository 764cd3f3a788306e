use borrow.Author.Rules.{rules}
use Rattle.parts.proofs.Folds.{none}
use Rattle.parts.proofs.Loops.{every_more}
use Rattle.block.proofs.table.Table.units_sound.Goals as goal

pub loop-i-init : goal.loop-i-init
loop-i-init c = search (none, rules)

pub loop-i-preserved : goal.loop-i-preserved
loop-i-preserved c = search (every_more, rules)
