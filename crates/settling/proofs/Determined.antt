-- Each contract of this crate's seams determines its answer: it is an equation with a definition.
use mathlib.Core.Path.{sym, ◌∙◌}
use Rattle.ticket.specs.Determined.{Determines, DeterminesLeft}
use Rattle.settling.proofs.line.next_of.Reads as next_of
use Rattle.settling.proofs.line.stored.Reads as stored
use Rattle.settling.proofs.next.next_shown.Reads as next-shown
use Rattle.settling.proofs.next.shown.Reads as shown
use Rattle.settling.proofs.next.shows_next.Reads as shows-next
use Rattle.settling.proofs.dropping.drop_before.Reads as drop-before
use Rattle.settling.proofs.dropping.front.Reads as front
use Rattle.settling.proofs.next.shown_as.Reads as shown_as
use Rattle.settling.proofs.changing.change.Reads as change
use Rattle.settling.proofs.settle.enter.Reads as enter
use Rattle.settling.proofs.settle.leave.Reads as leave
use Rattle.settling.proofs.settle.carry.Reads as carry
use Rattle.settling.proofs.settle.stay.Reads as stay
use Rattle.settling.proofs.settle.passed_to.Reads as passed_to
use Rattle.settling.proofs.settle.with_flag.Reads as with-flag

pub next_of_determined : Determines next_of.Post
next_of_determined κs a x y s t p q = p ∙ sym q

pub stored_determined : Determines stored.Post
stored_determined κs a x y s t p q = p ∙ sym q

pub next_shown_determined : Determines next-shown.Post
next_shown_determined κs a x y s t p q = p ∙ sym q

pub shown_determined : Determines shown.Post
shown_determined κs a x y s t p q = p ∙ sym q

pub shows_next_determined : Determines shows-next.Post
shows_next_determined κs a x y s t p q = p ∙ sym q

pub enter_determined : Determines enter.Post
enter_determined κs a x y s t p q = p ∙ sym q

pub leave_determined : Determines leave.Post
leave_determined κs a x y s t p q = p ∙ sym q

pub carry_determined : Determines carry.Post
carry_determined κs a x y s t p q = p ∙ sym q

pub stay_determined : Determines stay.Post
stay_determined κs a x y s t p q = p ∙ sym q

pub passed_to_determined : Determines passed_to.Post
passed_to_determined κs a x y s t p q = p ∙ sym q

pub with_flag_determined : Determines with-flag.Post
with_flag_determined κs a x y s t p q = p ∙ sym q

pub drop_before_determined : Determines drop-before.Post
drop_before_determined κs a x y s t p q = p ∙ sym q

pub front_determined : Determines front.Post
front_determined κs a x y s t p q = p ∙ sym q

pub shown_as_determined : Determines shown_as.Post
shown_as_determined κs a x y s t p q = p ∙ sym q

-- of the unit that was lent
pub change_left : DeterminesLeft (λ κs s. s.0.now) change.Post
change_left κs a x y s t p q = p ∙ sym q
