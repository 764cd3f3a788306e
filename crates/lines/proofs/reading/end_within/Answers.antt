use borrow.Author.Rules.{rules}
use Rattle.lines.proofs.Turns.{at_none, at_end, at_more, at_long}
use Rattle.lines.proofs.reading.end_within.Goals as goal

pub returns-then-s-i-eq10 : goal.returns-then-s-i-eq10
returns-then-s-i-eq10 c = search (at_end, rules)

pub loop-i-preserved : goal.loop-i-preserved
loop-i-preserved c = at_more c.args.s.now c.loop-i.i _ _ c.loop-i.invariant _ (search rules) (search rules) (search rules) (search rules)

pub returns-then-left-most : goal.returns-then-left-most
returns-then-left-most c = search (at_none, rules)

pub returns : goal.returns
returns c = search (at_long, rules)
