-- Each contract of this crate determines its answer, and a call's also every output byte: both are equations with definitions.
use mathlib.Core.Path.{sym, ◌∙◌}
use Rattle.ticket.specs.Determined.{Determines, DeterminesLeft}
use Rattle.translate.proofs.call.translate.Reads as translate

pub translate_determined : Determines translate.Post
translate_determined κs a x y s t p q = p.0 ∙ sym q.0

pub translate_left : DeterminesLeft (λ κs s. s.1.1.0.now) translate.Post
translate_left κs a x y s t p q = p.1 ∙ sym q.1
