-- After u turns, the first u units are read, and their next words are those of their registers.
use Prim.Native.Nat.{ℕ}
use mathlib.Core.Bool.{true}
use mathlib.Core.List.{List}
use mathlib.Core.Path.{◌≡◌}
use lib.ListN.{set}
use Rattle.parts.specs.Fold.{up_to, every}
use Rattle.parts.specs.declared.kinds.Counts.{Counts}
use Rattle.parts.specs.declared.kinds.LockUnit.{LockUnit}
use Rattle.images.specs.Image.{empty_units_lem, unit_of, next_agrees}
use Rattle.images.proofs.image.GoodWords.read_units.Given as goal

abbrev pub place : Counts → List ℕ → ℕ → List LockUnit → List LockUnit
place c ws u xs = set xs u (unit_of c ws u)

abbrev pub first : Counts → List ℕ → ℕ → List LockUnit
first c ws u = up_to (place c ws) u empty_units_lem

abbrev pub invariant-loop-u : goal.invariant-loop-u
invariant-loop-u l = (l.xs ≡ first l.self.ranged.counts l.self.words.now l.u) × (true ≡ every (next_agrees l.self.ranged.counts l.self.words.now) l.u)
