-- The wrapped difference is the one number below 65,536 that leads from b to a.
use Rattle.std.proofs.Common.{arith}
use Rattle.ticket.proofs.Circle.{behind_only}
use Rattle.ticket.proofs.order.behind.Goals as goal

pub returns : goal.returns
returns c = behind_only c.args.a.0 c.args.b.0 c.wrapping_sub_u16.result (omega arith) (omega arith)
