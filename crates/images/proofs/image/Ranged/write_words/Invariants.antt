-- After i turns, the first i words are written.
use Prim.Native.Nat.{ℕ}
use mathlib.Core.List.{List}
use mathlib.Core.Path.{◌≡◌}
use lib.ListN.{set}
use Rattle.parts.specs.Fold.{up_to}
use Rattle.parts.specs.declared.kinds.Counts.{Counts}
use Rattle.parts.specs.declared.kinds.LockUnit.{LockUnit}
use Rattle.words.specs.Word.{word_of}
use Rattle.images.specs.Image.{register_at}
use Rattle.images.proofs.image.Ranged.write_words.Given as goal

abbrev pub put : Counts → List LockUnit → ℕ → List ℕ → List ℕ
put c xs i o = set o i (word_of (register_at c xs i))

abbrev pub invariant-loop-i : goal.invariant-loop-i
invariant-loop-i l = l.out ≡ up_to (put l.self.counts l.units) l.i l.initial.out
