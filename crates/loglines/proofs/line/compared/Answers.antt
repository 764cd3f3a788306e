use borrow.Author.Rules.{rules}
use Rattle.loglines.proofs.Rest.{at_end, at_bad, at_off, at_same}
use Rattle.loglines.proofs.line.compared.Goals as goal

pub returns-then-ne : goal.returns-then-ne
returns-then-ne c = search (at_off, rules)

pub loop-next-preserved : goal.loop-next-preserved
loop-next-preserved c = search (at_same, rules)

pub returns : goal.returns
returns c = search (at_end, rules)

pub returns-in_default-read_field : goal.returns-in_default-read_field
returns-in_default-read_field c = search (at_bad, rules)
