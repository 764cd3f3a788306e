-- What stands at a place before the header: a good header and the place after its line; something else, 20; a line that is not
-- finished, 22.
use Rattle.std.specs.Prelude.{ℕ, Result, Ok, Err}
use Rattle.ticket.specs.declared.kinds.Ticket.{Ticket}
use Rattle.parts.specs.declared.kinds.Counts.{Counts}
use Rattle.lines.specs.declared.reading.NoEnd.{NoEnd}
use Rattle.lines.specs.declared.reading.NoEnd.TheVariants.{TooLong, CutOff}
use Rattle.headers.specs.declared.reading.BadHeader as bad_header
use Rattle.headers.specs.declared.reading.BadHeader.TheVariants as bad_header_is

abbrev pub HeaderLine : Type 0
HeaderLine = Result (Counts × Ticket × ℕ) bad_header.BadHeader

pattern abbrev pub Header : Counts → Ticket → ℕ → HeaderLine
Header c n next = Ok (c, n, next)

pattern abbrev pub BadHeader : HeaderLine
BadHeader = Err bad_header_is.Malformed

pattern abbrev pub Unfinished : HeaderLine
Unfinished = Err bad_header_is.Unfinished

-- a line whose end is not found
abbrev pub no_line : NoEnd → bad_header.BadHeader
no_line e = elim e [ TooLong ↦ bad_header_is.Malformed | CutOff ↦ bad_header_is.Unfinished ]
