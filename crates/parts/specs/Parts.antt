-- "The table": registers, units and cores by themselves. Whatever stands past an array reads as blank.
use Rattle.std.specs.Prelude.{[], ℕ, Bool, true, false, get_or, set, replicate}
use Rattle.ticket.specs.Kinds.{ticket}
use Rattle.ticket.specs.declared.kinds.CoreNo.{CoreNo}
use Rattle.ticket.specs.declared.kinds.Ticket.{Ticket}
use Rattle.ticket.specs.declared.kinds.UnitNo.{UnitNo}
use Rattle.parts.specs.declared.kinds.Register.{Register}
use Rattle.parts.specs.declared.kinds.Next.{Next}
use Rattle.parts.specs.declared.kinds.LockUnit.{LockUnit}
use Rattle.parts.specs.declared.kinds.Core.{Core}
use Rattle.parts.specs.declared.kinds.State.{State}
use Rattle.parts.specs.declared.kinds.State.TheVariants.{Idle, Dropped}
use Rattle.parts.specs.declared.kinds.Fill.TheVariants.{Blank}

-- the greatest number of cores, and of units
abbrev pub cores : ℕ
cores = 32

abbrev pub units : ℕ
units = 16

abbrev pub core_no : ℕ → CoreNo
core_no k = record { 0 = k }

abbrev pub unit_no : ℕ → UnitNo
unit_no u = record { 0 = u }

-- "an invalid register has ticket 0 and no flag"
abbrev pub blank : Register
blank = record { ticket = ticket 0; valid = false; flag = false }

-- a register as it is entered
abbrev pub standing : Ticket → Register
standing t = record { ticket = t; valid = true; flag = false }

-- the same register with its flag set
abbrev pub flagged : Register → Register
flagged r = record { ticket = r.ticket; valid = r.valid; flag = true }

abbrev pub idle : Core
idle = record { own = ticket 0; carried = ticket 0; first = unit_no 0; second = unit_no 0; state = Idle; fill = Blank }

-- a core, by what it carries
abbrev pub core : Ticket → Ticket → UnitNo → UnitNo → State → Core
core o n f s z = record { own = o; carried = n; first = f; second = s; state = z; fill = Blank }

-- "dropped: registered nowhere, no ticket, its 0 blank"; it still names its unit
abbrev pub dropped : Core → Core
dropped c = core (ticket 0) (ticket 0) c.first (unit_no 0) Dropped

-- a next in line, by what it shows; and where nobody is in line and no flag is set
abbrev pub next_in_line : Ticket → CoreNo → Bool → Bool → Next
next_in_line t k v h = record { ticket = t; core = k; valid = v; held = h; fill = Blank; rest = Blank }

abbrev pub nobody : Next
nobody = next_in_line (ticket 0) (core_no 0) false false

-- what stands past the array of units
abbrev pub absent_unit : LockUnit
absent_unit = record { registers = []; next = nobody }

-- no register valid, no flag set
abbrev pub empty_unit_lem : LockUnit
empty_unit_lem = record { registers = replicate cores blank; next = nobody }

abbrev pub register_in : LockUnit → ℕ → Register
register_in x k = get_or x.registers k blank

-- the unit in which the register of core k became r
abbrev pub registered : LockUnit → ℕ → Register → LockUnit
registered x k r = record { registers = set x.registers k r; next = x.next }

-- the unit that shows v as its next in line
abbrev pub showing : LockUnit → Next → LockUnit
showing x v = record { registers = x.registers; next = v }
