-- What is still to be answered, from byte i on, is the answer.
use Rattle.std.specs.Prelude.{◌≡◌, ◌≤◌, None, drop}
use Rattle.faults.specs.Fault.{upto, numbers_from_lem}
use Rattle.faults.proofs.fault.numbers_from.Given as goal

abbrev pub invariant-loop-i : goal.invariant-loop-i
invariant-loop-i l = (l.a.field ≤ l.i) × (numbers_from_lem l.kind l.n (upto 2 None) (drop 2 l.s) ≡ numbers_from_lem l.kind l.n l.a (drop l.i l.s))
