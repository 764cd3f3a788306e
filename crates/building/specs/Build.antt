-- "Fresh: every core idle, no register valid, no flag set. Building with counts outside these ranges is refused with 20 and yields
-- the fresh table of one core, one first-class unit, no second-class unit, counter 0."
use Rattle.std.specs.Prelude.{cond, replicate}
use Rattle.ticket.specs.Kinds.{ticket}
use Rattle.ticket.specs.declared.kinds.Ticket.{Ticket}
use Rattle.parts.specs.Parts.{cores, units, empty_unit_lem, idle}
use Rattle.parts.specs.Range.{in_range}
use Rattle.parts.specs.declared.kinds.Counts.{Counts}
use Rattle.parts.specs.declared.kinds.Fill.TheVariants.{Blank}
use Rattle.parts.specs.declared.kinds.Profile.TheVariants.{T}
use Rattle.parts.specs.declared.answer.Answer.TheVariants.{Done, OutOfRange}
use Rattle.block.specs.declared.table.Table.{Table}
use Rattle.building.specs.declared.building.Built.{Built}

abbrev pub fresh : Counts → Ticket → Table
fresh c n = record { units = replicate units empty_unit_lem; cores = replicate cores idle; counts = c; counter = n }

abbrev pub least : Counts
least = record { cores = 1; first = 1; second = 0; profile = T; fill = Blank }

abbrev pub build : Counts → Ticket → Built
build c n =
    cond (in_range c)
    (record { table = fresh c n; answer = Done })
    (record { table = fresh least (ticket 0); answer = OutOfRange })
