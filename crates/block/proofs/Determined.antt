-- Each contract of this crate's entries and of its seams determines its answer: it is an equation with a definition.
use mathlib.Core.Path.{sym, ◌∙◌}
use Rattle.ticket.specs.Determined.{Determines, DeterminesLeft}
use Rattle.block.proofs.table.Table.sound.Reads as sound
use Rattle.block.proofs.table.Table.step.Reads as step
use Rattle.block.proofs.table.Table.step_sound.Reads as step_sound
use Rattle.block.proofs.table.Table.planned.Reads as planned
use Rattle.block.proofs.table.Table.put_back.Reads as put_back
use Rattle.block.proofs.table.Table.request.Reads as request
use Rattle.block.proofs.table.Table.nest.Reads as nest
use Rattle.block.proofs.table.Table.poll.Reads as poll
use Rattle.block.proofs.table.Table.interrupt.Reads as interrupt
use Rattle.block.proofs.table.Table.come_back.Reads as come-back
use Rattle.block.proofs.table.Table.release.Reads as release

pub sound_determined : Determines sound.Post
sound_determined κs a x y s t p q = p ∙ sym q

pub step_determined : Determines step.Post
step_determined κs a x y s t p q = p ∙ sym q

pub step_sound_determined : Determines step_sound.Post
step_sound_determined κs a x y s t p q = p ∙ sym q

pub request_determined : Determines request.Post
request_determined κs a x y s t p q = p ∙ sym q

pub nest_determined : Determines nest.Post
nest_determined κs a x y s t p q = p ∙ sym q

pub poll_determined : Determines poll.Post
poll_determined κs a x y s t p q = p ∙ sym q

pub interrupt_determined : Determines interrupt.Post
interrupt_determined κs a x y s t p q = p ∙ sym q

pub come_back_determined : Determines come-back.Post
come_back_determined κs a x y s t p q = p ∙ sym q

pub release_determined : Determines release.Post
release_determined κs a x y s t p q = p ∙ sym q

pub planned_determined : Determines planned.Post
planned_determined κs a x y s t p q = p ∙ sym q

-- of the table that was lent
pub put_back_determined : DeterminesLeft (λ κs s. s.0.now) put_back.Post
put_back_determined κs a x y s t p q = p ∙ sym q
