-- Each contract of this crate's seams determines its answer: it is an equation with a definition.
use mathlib.Core.Path.{sym, ◌∙◌}
use Rattle.ticket.specs.Determined.{Determines}
use Rattle.places.proofs.place.core_place.Reads as core_place_lem
use Rattle.places.proofs.place.unit_place.Reads as unit_place_lem
use Rattle.places.proofs.place.other_place.Reads as other_place

pub core_place_determined : Determines core_place_lem.Post
core_place_determined κs a x y s t p q = p ∙ sym q

pub unit_place_determined : Determines unit_place_lem.Post
unit_place_determined κs a x y s t p q = p ∙ sym q

pub other_place_determined : Determines other_place.Post
other_place_determined κs a x y s t p q = p ∙ sym q
