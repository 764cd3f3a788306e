use borrow.Author.Rules.{rules}
use mathlib.Core.Path.{◌∙◌, ap₂}
use Rattle.settling.specs.Dropping.{dropping}
use Rattle.settling.proofs.InFront.{before_first, before_goes, before_stays}
use Rattle.settling.proofs.dropping.dropped_before.Goals as goal
use Rattle.settling.proofs.dropping.dropped_before.Goals.{then-goes, else-goes}

pub loop-i-init : goal.loop-i-init
loop-i-init c = search (before_first, rules)

pub loop-i-preserved : goal.loop-i-preserved
loop-i-preserved c =
    let l = c.loop-i in
    let a = c.args in
    let g = c.goes in (
      l.invariant.0,
      elim c.if-goes.branch [
        | then-goes u ↦
            ap₂ dropping u.x-is u.left-is ∙
            before_goes a.first a.unit a.all l.i l.x l.left l.invariant.1 g.result g.ensures u.if-goes.true _ _ u.blank.ensures u.dropped.ensures
        | else-goes u ↦ ap₂ dropping u.x-is u.left-is ∙ before_stays a.first a.unit a.all l.i l.x l.left l.invariant.1 g.result g.ensures u.if-goes.false
      ],
    )
