use borrow.Author.Rules.{rules}
use Prim.Native.Nat.{ℕ}
use mathlib.Core.Path.{◌∙◌, refl}
use native.Mathlib.Omega.{arith}
use Rattle.std.proofs.Common.{tests}
use Rattle.std.proofs.lemmas.Iterator.{YieldsList-from_range}
use Rattle.std.proofs.lemmas.Iterator.Search.{all_from_yields_List}
use Rattle.words.specs.Word.{packable}
use Rattle.images.specs.Image.{word_count, register_at}
use Rattle.images.proofs.Tests.{all_below}
use Rattle.images.proofs.image.Ranged.all_fit.Goals as goal

pub returns : goal.returns
returns c =
    let count = c.word_count.ensures in
    let fit = λ (i : ℕ). packable (register_at c.args.self.counts c.args.units i) in
    all_from_yields_List fit _ _ c.all.result c.all.ensures.ran
    (YieldsList-from_range 0 c.word_count.result (word_count c.args.self.counts) refl (omega arith))
    (λ x b q k. search (rules, tests)) ∙
    all_below fit (word_count c.args.self.counts)
