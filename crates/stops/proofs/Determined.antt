-- Each contract of this crate determines its answer: it is an equation with a definition.
use mathlib.Core.Path.{sym, ◌∙◌}
use Rattle.ticket.specs.Determined.{Determines}
use Rattle.stops.proofs.todo.due.Reads as due
use Rattle.stops.proofs.run.beginning.Reads as beginning
use Rattle.stops.proofs.run.stop_number.Reads as stop-number

pub due_determined : Determines due.Post
due_determined κs a x y s t p q = p ∙ sym q

pub beginning_determined : Determines beginning.Post
beginning_determined κs a x y s t p q = p ∙ sym q

pub stop_number_determined : Determines stop-number.Post
stop_number_determined κs a x y s t p q = p ∙ sym q
