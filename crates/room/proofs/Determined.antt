-- The contract of `room_for` determines its answer: it is an equation with a definition.
use mathlib.Core.Path.{sym, ◌∙◌}
use Rattle.ticket.specs.Determined.{Determines}
use Rattle.room.proofs.room_for.Reads as room_for

pub room_for_determined : Determines room_for.Post
room_for_determined κs a x y s t p q = p ∙ sym q
