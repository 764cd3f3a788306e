use borrow.Author.Rules.{rules}
use mathlib.Core.Path.{◌∙◌}
use Rattle.std.proofs.Common.{tests}
use Rattle.std.proofs.lemmas.Iterator.{YieldsList-from_slice}
use Rattle.std.proofs.lemmas.Iterator.Search.{all_from_yields_List}
use Rattle.words.specs.Word.{is_good}
use Rattle.images.proofs.Tests.{all_every}
use Rattle.images.proofs.image.all_good.Goals as goal

pub returns : goal.returns
returns c =
    all_from_yields_List is_good _ _ c.all.result c.all.ensures.ran (YieldsList-from_slice c.args.words.now c.iter.ensures.rest)
    (λ x b q k. search (rules, tests)) ∙
    all_every is_good 0 c.args.words.now
