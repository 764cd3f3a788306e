-- Each contract of this crate determines its answer, and a writer's also what the lent bytes hold afterwards: both are equations with
-- definitions.
use mathlib.Core.Path.{sym, ◌∙◌}
use Rattle.ticket.specs.Determined.{Determines, DeterminesLeft}
use Rattle.writing.proofs.writer.write_header.Reads as write-header
use Rattle.writing.proofs.writer.write_opening.Reads as write-opening
use Rattle.writing.proofs.writer.write_step.Reads as write_step

pub write_header_determined : Determines write-header.Post
write_header_determined κs a x y s t p q = p.0 ∙ sym q.0

pub write_header_left : DeterminesLeft (λ κs s. s.0.now) write-header.Post
write_header_left κs a x y s t p q = p.1 ∙ sym q.1

pub write_opening_determined : Determines write-opening.Post
write_opening_determined κs a x y s t p q = p.0 ∙ sym q.0

pub write_opening_left : DeterminesLeft (λ κs s. s.0.now) write-opening.Post
write_opening_left κs a x y s t p q = p.1 ∙ sym q.1

pub write_step_determined : Determines write_step.Post
write_step_determined κs a x y s t p q = p.0 ∙ sym q.0

pub write_step_left : DeterminesLeft (λ κs s. s.0.now) write_step.Post
write_step_left κs a x y s t p q = p.1 ∙ sym q.1
