-- The contract of this crate's entry determines its answer: it is an equation with a definition.
use mathlib.Core.Path.{sym, ◌∙◌}
use Rattle.ticket.specs.Determined.{Determines}
use Rattle.building.proofs.building.build.Reads as build

pub build_determined : Determines build.Post
build_determined κs a x y s t p q = p ∙ sym q
