-- Each contract of this crate's seams determines its answer: it is an equation with a definition.
use mathlib.Core.Path.{sym, ◌∙◌}
use Rattle.ticket.specs.Determined.{Determines}
use Rattle.plan.proofs.planning.plan_step.Reads as plan-step
use Rattle.plan.proofs.planning.Part.of.Reads as part_of

pub plan_step_determined : Determines plan-step.Post
plan_step_determined κs a x y s t p q = p ∙ sym q

pub part_of_determined : Determines part_of.Post
part_of_determined κs a x y s t p q = p ∙ sym q
