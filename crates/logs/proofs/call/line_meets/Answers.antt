-- Read in full, the line's numbers are held to the rules; read quickly, the bytes behind the step are
-- the text of what the rules give, or else the line is read in full.
use native.Mathlib.Omega.{arith}
use borrow.Author.Rules.{rules}
use Rattle.logs.proofs.Meeting.{follows_in, quick_met, shown_most}
use Rattle.logs.proofs.call.line_meets.Goals as goal

pub line_met-requires : goal.line_met-requires
line_met-requires c = follows_in c.args.log.now c.args.place c.args.b c.requires.0 c.in-Full.rest (search rules)

pub put_shown-n-requires : goal.put_shown-n-requires
put_shown-n-requires c =
    let p = c.args.p in
    omega (arith, shown_most p.answer p.ticket p.grants)

pub returns-then-begins : goal.returns-then-begins
returns-then-begins c = search (quick_met, rules)
