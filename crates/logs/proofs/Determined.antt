-- Each contract of this crate determines its answer: it is an equation with a definition.
use mathlib.Core.Path.{sym, ◌∙◌}
use Rattle.ticket.specs.Determined.{Determines}
use Rattle.logs.proofs.call.check.Reads as check
use Rattle.logs.proofs.call.log_number.Reads as log-number

pub check_determined : Determines check.Post
check_determined κs a x y s t p q = p ∙ sym q

pub log_number_determined : Determines log-number.Post
log_number_determined κs a x y s t p q = p ∙ sym q
