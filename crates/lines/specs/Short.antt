-- A step line whose numbers have one digit each, by its letter and its numbers; or some other line.
use Rattle.std.specs.Prelude.{ℕ, Option, None, Some}
use Rattle.ticket.specs.declared.kinds.CoreNo.{CoreNo}
use Rattle.ticket.specs.declared.kinds.UnitNo.{UnitNo}

abbrev pub Short : Type 0
Short = Option (ℕ × CoreNo × Option UnitNo)

pattern abbrev pub One : ℕ → CoreNo → Short
One letter k = Some (letter, k, None)

pattern abbrev pub Two : ℕ → CoreNo → UnitNo → Short
Two letter k u = Some (letter, k, Some u)

pattern abbrev pub Other : Short
Other = None
