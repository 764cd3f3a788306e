-- The contract of `line_number` determines its answer: it is an equation with a definition.
use Rattle.std.proofs.Common.{sym, ◌∙◌}
use Rattle.ticket.specs.Determined.{Determines}
use Rattle.console.proofs.line_number.Reads as line-number

pub line_number_determined : Determines line-number.Post
line_number_determined κs a x y s t p q = p ∙ sym q
