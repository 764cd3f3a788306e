-- Each contract of this crate determines its answer, and every byte that is lent: all are equations with definitions.
use mathlib.Core.Path.{sym, ◌∙◌}
use Rattle.ticket.specs.Determined.{Determines, DeterminesLeft}
use Rattle.pieces.proofs.emptied.Reads as emptied
use Rattle.pieces.proofs.fronted.Reads as fronted
use Rattle.pieces.proofs.work.Reads as work
use Rattle.pieces.proofs.keep.Reads as keep

pub emptied_determined : Determines emptied.Post
emptied_determined κs a x y s t p q = p ∙ sym q

pub fronted_determined : Determines fronted.Post
fronted_determined κs a x y s t p q = p ∙ sym q

pub work_determined : Determines work.Post
work_determined κs a x y s t p q = p.0 ∙ sym q.0

pub work_left : DeterminesLeft (λ κs s. s.1.1.1.0.now) work.Post
work_left κs a x y s t p q = p.1 ∙ sym q.1

pub keep_determined : Determines keep.Post
keep_determined κs a x y s t p q = p.0 ∙ sym q.0

pub keep_left : DeterminesLeft (λ κs s. s.0.now) keep.Post
keep_left κs a x y s t p q = p.1 ∙ sym q.1
