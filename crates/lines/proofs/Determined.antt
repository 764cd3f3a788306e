-- Each contract of this crate determines its answer: it has an equation with a definition.
use mathlib.Core.Path.{sym, ◌∙◌}
use Rattle.ticket.specs.Determined.{Determines}
use Rattle.lines.proofs.reading.step_line_at.Reads as step-line-at
use Rattle.lines.proofs.reading.line_end.Reads as line-end
use Rattle.lines.proofs.reading.end_within.Reads as end_within
use Rattle.lines.proofs.reading.one_number.Reads as one_number
use Rattle.lines.proofs.reading.two_numbers.Reads as two_numbers

pub step_line_at_determined : Determines step-line-at.Post
step_line_at_determined κs a x y s t p q = p.0 ∙ sym q.0

pub line_end_determined : Determines line-end.Post
line_end_determined κs a x y s t p q = p ∙ sym q

pub end_within_determined : Determines end_within.Post
end_within_determined κs a x y s t p q = p ∙ sym q

pub one_number_determined : Determines one_number.Post
one_number_determined κs a x y s t p q = p ∙ sym q

pub two_numbers_determined : Determines two_numbers.Post
two_numbers_determined κs a x y s t p q = p ∙ sym q
