-- The numbers passed agreed, so what is off is what is off among those left; the measure is
-- how many are given and not passed.
use Prim.Native.Nat.{suc, ◌-◌}
use lib.ListN.{length}
use Rattle.loglines.specs.Log.{given_by}
use Rattle.loglines.specs.Parts.{judged_in}
use Rattle.loglines.proofs.Rest.{Passed}
use Rattle.loglines.proofs.line.compared.Given as goal

abbrev pub invariant-loop-next : goal.invariant-loop-next
invariant-loop-next l =
    let gs = given_by l.p.answer l.p.ticket l.p.grants in
    Passed l.s l.n gs (judged_in l.s l.n l.fn.from gs) l.next l.passed

abbrev pub decreases-loop-next : goal.decreases-loop-next
decreases-loop-next l = suc (length (given_by l.p.answer l.p.ticket l.p.grants)) - l.passed
