use borrow.Author.Rules.{rules}
use Rattle.logs.proofs.Going.{at_unfit}
use Rattle.logs.proofs.call.at_unfit.Goals as goal

pub returns : goal.returns
returns c = search (at_unfit, rules)
