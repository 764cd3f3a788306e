use mathlib.Core.Path.{◌≡◌, ◌∙◌}
use Rattle.std.specs.Prelude.{Ok, Err}
use borrow.Author.Rules.{rules}
use Rattle.faults.proofs.Turns.{at_field, at_stop, at_on, at_end}
use Rattle.faults.proofs.fault.numbers_from.Goals as goal

pub returns-in_err-a : goal.returns-in_err-a
returns-in_err-a c =
    let f = c.in_err-a.field-0.0 in
    let e : c.next_at.result ≡ Err f = search rules in
    let r : c.from_residual.result ≡ Err f = search rules in
    r ∙ search (at_stop, rules)

pub loop-i-preserved : goal.loop-i-preserved
loop-i-preserved c = let e : c.next_at.result ≡ Ok c.in_ok-a.a = search rules in search (at_field, at_on, rules)

pub returns : goal.returns
returns c = search (at_end, rules)
