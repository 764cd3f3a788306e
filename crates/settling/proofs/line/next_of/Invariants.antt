-- After j turns the pairs of the first j are judged, and the lists have those of them who stand in line, with
-- their tickets and marks; a core that is not in line has no pairs. In the end the core in line that did not lose is the one older than every other.
use Prim.Native.Nat.{ℕ, ◌≤◌}
use mathlib.Core.List.{List}
use mathlib.Core.Path.{◌≡◌}
use Rattle.parts.specs.Parts.{cores}
use Rattle.settling.specs.Pairs.{Line, lined}
use Rattle.settling.proofs.Marking.{Marked}
use Rattle.settling.proofs.line.next_of.Given as goal

abbrev line : ℕ → List ℕ → List ℕ → Line
line c who tickets = record { count = c; who = who; tickets = tickets }

abbrev pub invariant-loop-j : goal.invariant-loop-j
invariant-loop-j l =
    (l.n ≤ cores) ×
    (l.c ≤ l.j) ×
    (line l.c l.who l.line ≡ lined l.j l.x) ×
    Marked l.x l.j l.lost
