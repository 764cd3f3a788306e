-- The contract of this crate's entry determines its answer: it has an equation with a definition.
use mathlib.Core.Path.{sym, ◌∙◌}
use Rattle.ticket.specs.Determined.{Determines}
use Rattle.headers.proofs.reading.header_line_at.Reads as header-line-at

pub header_line_at_determined : Determines header-line-at.Post
header_line_at_determined κs a x y s t p q = p.0 ∙ sym q.0
