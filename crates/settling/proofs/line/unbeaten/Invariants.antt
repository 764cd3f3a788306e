-- Before place a, best is the one of those at the places below a that did not lose.
use Prim.Native.Nat.{◌≤◌}
use mathlib.Core.Path.{◌≡◌}
use lib.ListN.{length}
use Rattle.parts.specs.Fold.{up_to}
use Rattle.settling.specs.Pairs.{kept}
use Rattle.settling.specs.Best.{Nobody}
use Rattle.settling.proofs.line.unbeaten.Given as goal

abbrev pub invariant-loop-a : goal.invariant-loop-a
invariant-loop-a l =
    (l.c ≤ length l.who) ×
    (l.c ≤ length l.line) ×
    (l.c ≤ length l.lost) ×
    (l.best ≡ up_to (kept l.who l.line l.lost) l.a Nobody)
