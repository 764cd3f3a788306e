-- The bytes of a line as a header, or no header.
use Rattle.std.specs.Prelude.{Option, None, Some}
use Rattle.ticket.specs.declared.kinds.Ticket.{Ticket}
use Rattle.parts.specs.declared.kinds.Counts.{Counts}

abbrev pub ParsedHeader : Type 0
ParsedHeader = Option (Counts × Ticket)

pattern abbrev pub Good : Counts → Ticket → ParsedHeader
Good c n = Some (c, n)

pattern abbrev pub Not : ParsedHeader
Not = None
