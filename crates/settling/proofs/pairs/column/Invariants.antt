-- Before place a, the marks below a are written, and `last` is whether one of those below a is not younger.
use Prim.Native.Nat.{◌≤◌}
use mathlib.Core.Path.{◌≡◌}
use lib.ListN.{length}
use Rattle.parts.specs.Fold.{up_to, some}
use Rattle.settling.specs.Pairs.{overtakes, met}
use Rattle.settling.proofs.pairs.column.Given as goal

abbrev pub invariant-loop-a : goal.invariant-loop-a
invariant-loop-a l =
    (l.c ≤ length l.line) ×
    (l.c ≤ length l.initial.lost) ×
    (length l.lost ≡ length l.initial.lost) ×
    (l.last ≡ some (overtakes l.line l.t.0) l.a) ×
    (l.lost ≡ up_to (met l.line l.t.0) l.a l.initial.lost)
