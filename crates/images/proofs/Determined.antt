-- Each contract of this crate's entries determines its answer, and that of `write_image` what the lent room holds: both are equations
-- with a definition.
use mathlib.Core.Path.{sym, ◌∙◌}
use Rattle.ticket.specs.Determined.{Determines, DeterminesLeft}
use Rattle.images.proofs.image.read_image.Reads as read-image
use Rattle.images.proofs.image.write_image.Reads as write-image

pub read_image_determined : Determines read-image.Post
read_image_determined κs a x y s t p q = p.0 ∙ sym q.0

pub write_image_determined : Determines write-image.Post
write_image_determined κs a x y s t p q = p.0 ∙ sym q.0

-- the third parameter is the room
pub write_image_left : DeterminesLeft (λ κs s. s.1.1.0.now) write-image.Post
write_image_left κs a x y s t p q = p.1 ∙ sym q.1
