use borrow.Author.Rules.{rules}
use Rattle.numbers.proofs.Turns.{digit, at_tab_lem, at_other, at_digit, at_last}
use Rattle.numbers.proofs.number.read_field.Goals as goal

pub grown-v-requires : goal.grown-v-requires
grown-v-requires c = digit _ c.loop-i.some _ _ c.follows.ensures (search rules)

pub returns-then-b-eq9 : goal.returns-then-b-eq9
returns-then-b-eq9 c = search (at_tab_lem, rules)

pub returns-then-not-follows : goal.returns-then-not-follows
returns-then-not-follows c = search (at_other, rules)

pub loop-i-preserved : goal.loop-i-preserved
loop-i-preserved c = search (at_digit, rules)

pub returns : goal.returns
returns c = search (at_last, rules)
