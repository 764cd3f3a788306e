-- The contract of `read_field` determines its answer: it is an equation with a definition.
use mathlib.Core.Path.{sym, ◌∙◌}
use Rattle.ticket.specs.Determined.{Determines}
use Rattle.numbers.proofs.number.read_field.Reads as read-field

pub read_field_determined : Determines read-field.Post
read_field_determined κs a x y s t p q = p ∙ sym q
