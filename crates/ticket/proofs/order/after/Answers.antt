-- The sum is cut to sixteen bits by the callee.
use Rattle.std.proofs.Common.{ap}
use Rattle.ticket.specs.Kinds.{ticket}
use Rattle.ticket.specs.Order.{after}
use Rattle.ticket.proofs.order.after.Goals as goal

pub returns : goal.returns
unfolding after
returns c = ap ticket c.wrapping_add_u16.ensures.value
