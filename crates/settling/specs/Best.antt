-- The core that is next in line, and its ticket; or nobody.
use Rattle.std.specs.Prelude.{Option, None, Some}
use Rattle.ticket.specs.declared.kinds.CoreNo.{CoreNo}
use Rattle.ticket.specs.declared.kinds.Ticket.{Ticket}

abbrev pub Best : Type 0
Best = Option (CoreNo × Ticket)

pattern abbrev pub Nobody : Best
Nobody = None

pattern abbrev pub Won : CoreNo → Ticket → Best
Won k t = Some (k, t)
