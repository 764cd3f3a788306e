-- Each contract of this crate's seams determines its answer, and where bytes are put also what the lent bytes hold afterwards: both are
-- equations with definitions.
use mathlib.Core.Path.{sym, ◌∙◌}
use Rattle.ticket.specs.Determined.{Determines, DeterminesLeft}
use Rattle.digits.proofs.text.put_number.Reads as put-number
use Rattle.digits.proofs.text.put_tabbed.Reads as put-tabbed
use Rattle.digits.proofs.text.put_ticket.Reads as put-ticket
use Rattle.digits.proofs.text.width.Reads as width
use Rattle.digits.proofs.text.tabbed_width.Reads as tabbed-width
use Rattle.digits.proofs.room.has_room.Reads as has_room

pub put_number_determined : Determines put-number.Post
put_number_determined κs a x y s t p q = p.goes ∙ sym q.goes

pub put_number_left : DeterminesLeft (λ κs s. s.0.now) put-number.Post
put_number_left κs a x y s t p q = p.holds ∙ sym q.holds

pub put_tabbed_determined : Determines put-tabbed.Post
put_tabbed_determined κs a x y s t p q = p.goes ∙ sym q.goes

pub put_tabbed_left : DeterminesLeft (λ κs s. s.0.now) put-tabbed.Post
put_tabbed_left κs a x y s t p q = p.holds ∙ sym q.holds

pub put_ticket_determined : Determines put-ticket.Post
put_ticket_determined κs a x y s t p q = p.goes ∙ sym q.goes

pub put_ticket_left : DeterminesLeft (λ κs s. s.0.now) put-ticket.Post
put_ticket_left κs a x y s t p q = p.holds ∙ sym q.holds

pub width_determined : Determines width.Post
width_determined κs a x y s t p q = p.0 ∙ sym q.0

pub tabbed_width_determined : Determines tabbed-width.Post
tabbed_width_determined κs a x y s t p q = p.0 ∙ sym q.0

pub has_room_determined : Determines has_room.Post
has_room_determined κs a x y s t p q = p ∙ sym q
