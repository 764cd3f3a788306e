-- The word behind the cores' stands among the words.
use Prim.Native.Nat.{ℕ, ◌+◌, ◌*◌, ◌<◌}
use mathlib.Core.Bool.{true}
use mathlib.Core.List.{List}
use mathlib.Core.Path.{◌≡◌}
use native.Mathlib.Omega.{arith}
use lib.ListN.{length}
use Rattle.parts.specs.declared.kinds.Counts.{Counts}
use Rattle.images.specs.Image.{per_unit, unit_count, good_words}
use Rattle.images.proofs.Ranges.{last_place, word_at_lem}
use Rattle.images.proofs.Good.{word_total}
use Rattle.images.proofs.image.GoodWords.next_agrees.Goals as goal

within :
    (c : Counts) (u m : ℕ) → m ≡ per_unit c → u < unit_count c → (ws : List ℕ) → good_words c ws ≡ true → u * m + c.cores < length ws
within c u m is h ws good = omega (arith, word_at_lem c u c.cores (last_place c) m is h, word_total c ws good)

pub bounds-self-i : goal.bounds-self-i
bounds-self-i c =
    let m = c.per_unit in
    omega (arith, within c.args.self.now.ranged.counts c.args.u m.result m.ensures c.requires.0 c.args.self.now.words.now c.args.self.now.good)
