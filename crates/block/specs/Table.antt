-- "The table": reading it by core and unit number, and the changes that the moves are made of.
use Rattle.std.specs.Prelude.{ℕ, ◌+◌, ◌<◌, ◌≡◌, length, get_or, set}
use Rattle.ticket.specs.declared.kinds.Ticket.{Ticket}
use Rattle.parts.specs.Parts.{cores, units, idle, absent_unit, register_in, registered}
use Rattle.parts.specs.declared.kinds.Register.{Register}
use Rattle.parts.specs.declared.kinds.LockUnit.{LockUnit}
use Rattle.parts.specs.declared.kinds.Core.{Core}
use Rattle.block.specs.declared.table.Table.{Table}

abbrev pub core_of : Table → ℕ → Core
core_of t k = get_or t.cores k idle

abbrev pub unit_of : Table → ℕ → LockUnit
unit_of t u = get_or t.units u absent_unit

abbrev pub register_of : Table → ℕ → ℕ → Register
register_of t u k = register_in (unit_of t u) k

-- how many units the table has, of both classes
abbrev pub unit_count : Table → ℕ
unit_count t = t.counts.first + t.counts.second

abbrev pub with_unit : Table → ℕ → LockUnit → Table
with_unit t u x = record { units = set t.units u x; cores = t.cores; counts = t.counts; counter = t.counter }

abbrev pub with_register : Table → ℕ → ℕ → Register → Table
with_register t u k r = with_unit t u (registered (unit_of t u) k r)

abbrev pub with_core : Table → ℕ → Core → Table
with_core t k c = record { units = t.units; cores = set t.cores k c; counts = t.counts; counter = t.counter }

abbrev pub with_counter_lem : Table → Ticket → Table
with_counter_lem t n = record { units = t.units; cores = t.cores; counts = t.counts; counter = n }

-- the arrays have their lengths, as those of every table that a program holds
pub record Shaped (t : Table) : Type 0 where
  pub cores_long : length t.cores ≡ cores
  pub units_long : length t.units ≡ units
  pub registers_long : (u : ℕ) → u < units → length (unit_of t u).registers ≡ cores
