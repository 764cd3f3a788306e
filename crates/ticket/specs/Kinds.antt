-- A ticket is the number that the counter stood at; a grant names a unit and the core that it goes to.
use Rattle.std.specs.Prelude.{ℕ}
use Rattle.ticket.specs.declared.kinds.CoreNo.{CoreNo}
use Rattle.ticket.specs.declared.kinds.UnitNo.{UnitNo}
use Rattle.ticket.specs.declared.kinds.Ticket.{Ticket}
use Rattle.ticket.specs.declared.kinds.Grant.{Grant}

abbrev pub ticket : ℕ → Ticket
ticket n = record { 0 = n }

abbrev pub grant : UnitNo → CoreNo → Grant
grant u k = record { unit = u; core = k }
