use borrow.Author.Rules.{rules}
use Rattle.settling.proofs.InFront.{present_first, present_on}
use Rattle.settling.proofs.dropping.present.Goals as goal

pub loop-i-init : goal.loop-i-init
loop-i-init c = search (present_first, rules)

pub loop-i-preserved : goal.loop-i-preserved
loop-i-preserved c = search (present_on, rules)
