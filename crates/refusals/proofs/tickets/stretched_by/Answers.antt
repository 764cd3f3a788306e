use Rattle.std.proofs.Common.{ℕ, ◌≡◌, ◌+◌, Bool, ◌&&◌, ◌||◌, List, false, get_or, rules, ap}
use Rattle.ticket.specs.Order.{compare}
use Rattle.ticket.specs.declared.kinds.Ticket.{Ticket}
use Rattle.parts.proofs.Folds.{none}
use Rattle.parts.proofs.Loops.{some_more}
use Rattle.refusals.specs.Judge.{far}
use Rattle.refusals.specs.Tickets.{old_at, stretched_by}
use Rattle.refusals.proofs.tickets.stretched_by.Goals as goal

one_more :
    (m : Ticket) (ls : List Bool) (os : List ℕ) (k : ℕ) (b any : Bool) →
    b ≡ far (compare (get_or os k 0) m.0) →
    any ≡ stretched_by m ls os k →
    (any || (get_or ls k false && b)) ≡ stretched_by m ls os (k + 1)
one_more m ls os k b any is so =
    some_more (old_at m ls os) k any (get_or ls k false && b) so (ap (λ (b : Bool). get_or ls k false && b) is)

pub loop-k-init : goal.loop-k-init
loop-k-init c = search (none, rules)

pub loop-k-preserved : goal.loop-k-preserved
loop-k-preserved c = search (one_more, rules)
