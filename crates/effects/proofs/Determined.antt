-- The contract of this crate's seam determines its answer: it is an equation with a definition.
use mathlib.Core.Path.{sym, ◌∙◌}
use Rattle.ticket.specs.Determined.{Determines}
use Rattle.effects.proofs.steps.step_effect.Reads as step-effect

pub step_effect_determined : Determines step-effect.Post
step_effect_determined κs a x y s t p q = p ∙ sym q
