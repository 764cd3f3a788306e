use borrow.Author.Rules.{rules}
use Prim.Native.Nat.{ℕ}
use mathlib.Core.Path.{◌∙◌, ap}
use native.Mathlib.Omega.{arith}
use lib.ListN.{take}
use Rattle.std.proofs.Common.{tests}
use Rattle.std.proofs.lemmas.Iterator.{YieldsList-from_slice}
use Rattle.std.proofs.lemmas.Iterator.Search.{all_from_yields_List}
use Rattle.settling.specs.Shown.{shows_next_lem}
use Rattle.parts.specs.Parts.{absent_unit}
use Rattle.images.specs.Image.{unit_count}
use Rattle.images.proofs.Ranges.{units_few}
use Rattle.images.proofs.Tests.{all_taken}
use Rattle.images.proofs.image.Ranged.all_show.Goals as goal

pub returns : goal.returns
returns c =
    let show = shows_next_lem c.args.self.counts.cores in
    let n = unit_count c.args.self.counts in
    let long = c.well_formed.1.0.1.0.1 in
    all_from_yields_List show _ _ c.all.result c.all.ensures.ran
    (YieldsList-from_slice (take n c.args.units) (c.iter.ensures.rest ∙ ap (λ (m : ℕ). take m c.args.units) c.unit_count.ensures))
    (λ x b q k. search (rules, tests)) ∙
    all_taken show absent_unit n c.args.units (omega (arith, units_few c.args.self.counts c.args.self.ranged))
