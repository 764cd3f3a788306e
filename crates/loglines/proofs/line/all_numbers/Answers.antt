use borrow.Author.Rules.{rules}
use Rattle.loglines.proofs.Rest.{bad_next, last_next, then_next, none_left}
use Rattle.loglines.proofs.line.all_numbers.Goals as goal

pub returns-in-None : goal.returns-in-None
returns-in-None c = search (bad_next, rules)

pub returns-in-Some-default-None : goal.returns-in-Some-default-None
returns-in-Some-default-None c = search (last_next, rules)

pub loop-preserved : goal.loop-preserved
loop-preserved c = search (then_next, rules)

pub returns : goal.returns
returns c = search (none_left, rules)
