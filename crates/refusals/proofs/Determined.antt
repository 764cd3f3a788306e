-- Each contract of this crate's seams determines its answer: it is an equation with a definition.
use mathlib.Core.Path.{sym, ◌∙◌}
use Rattle.ticket.specs.Determined.{Determines}
use Rattle.refusals.proofs.verdict.judge.Reads as judge
use Rattle.refusals.proofs.tickets.late_among.Reads as late-among
use Rattle.refusals.proofs.tickets.late_for.Reads as late-for

pub judge_determined : Determines judge.Post
judge_determined κs a x y s t p q = p ∙ sym q

pub late_among_determined : Determines late-among.Post
late_among_determined κs a x y s t p q = p ∙ sym q

pub late_for_determined : Determines late-for.Post
late_for_determined κs a x y s t p q = p ∙ sym q
