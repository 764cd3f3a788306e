-- What its tests say of the six bytes from the place on is a step's text, and a tab.
use native.Mathlib.Omega.{arith}
use mathlib.Core.Path.{◌≡◌}
use Rattle.std.specs.Prelude.{Some}
use borrow.Author.Rules.{rules}
use Rattle.loglines.proofs.Quickly.{one_stands, two_stands}
use Rattle.loglines.proofs.quick.quick_part.Goals as goal

pub returns-in-Some : goal.returns-in-Some
returns-in-Some c =
    let a = c.args in
    one_stands a.s.now a.at (omega arith) (search rules) (search rules) (search rules) _ c.from.ensures _ _ c.one_number.ensures c.in-Some.is

pub returns : goal.returns
returns c =
    let a = c.args in
    let e : c.two_numbers.result ≡ Some c.in_ok-x.x = search rules in
    two_stands a.s.now a.at (omega arith) (search rules) (search rules) (search rules) _ c.from.ensures (search rules) (search rules) _ c.from-2.ensures _ _ c.two_numbers.ensures e
