-- Each contract of this crate's seams determines its answer: it is an equation with a definition.
use mathlib.Core.Path.{sym, ◌∙◌}
use Rattle.ticket.specs.Determined.{Determines}
use Rattle.soundness.proofs.cores.cores_sound.Reads as cores-sound
use Rattle.soundness.proofs.units.unit_sound.Reads as unit-sound

pub cores_sound_determined : Determines cores-sound.Post
cores_sound_determined κs a x y s t p q = p ∙ sym q

pub unit_sound_determined : Determines unit-sound.Post
unit_sound_determined κs a x y s t p q = p ∙ sym q
