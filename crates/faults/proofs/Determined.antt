-- Each contract determines its answer: it is an equation with a definition.
use mathlib.Core.Path.{sym, ◌∙◌}
use Rattle.ticket.specs.Determined.{Determines}
use Rattle.faults.proofs.fault.fault_at.Reads as fault-at
use Rattle.faults.proofs.fault.numbers.Reads as numbers
use Rattle.faults.proofs.fault.longest.Reads as longest

pub fault_at_determined : Determines fault-at.Post
fault_at_determined κs a x y s t p q = p ∙ sym q

pub numbers_determined : Determines numbers.Post
numbers_determined κs a x y s t p q = p ∙ sym q

pub longest_determined : Determines longest.Post
longest_determined κs a x y s t p q = p ∙ sym q
