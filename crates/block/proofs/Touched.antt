-- A step by the one or two units that it touches: only those settle. That this is the settling of all units is shown where no other
-- unit has anything to settle.
use Prim.Native.Nat.{ℕ, ◌<◌}
use mathlib.Core.Bool.{false}
use mathlib.Core.List.{◌++◌}
use mathlib.Core.Path.{◌≡◌}
use Rattle.ticket.specs.declared.kinds.CoreNo.{CoreNo}
use Rattle.ticket.specs.declared.kinds.Ticket.{Ticket}
use Rattle.ticket.specs.declared.kinds.UnitNo.{UnitNo}
use Rattle.parts.specs.Parts.{cores, units, blank}
use Rattle.parts.specs.Answer.{packed}
use Rattle.parts.specs.declared.kinds.Core.{Core}
use Rattle.parts.specs.declared.kinds.LockUnit.{LockUnit}
use Rattle.parts.specs.declared.answer.Answer.{Answer}
use Rattle.parts.specs.declared.answer.Answer.TheVariants.{Done}
use Rattle.parts.specs.declared.answer.Grants.TheVariants.{None}
use Rattle.settling.specs.Line.{flags, next, won}
use Rattle.settling.specs.Best.{Best, Nobody}
use Rattle.settling.specs.Shown.{shown}
use Rattle.settling.specs.Dropping.{dropping, away_next}
use Rattle.settling.specs.Settle.{given, changed}
use Rattle.settling.specs.declared.settle.Change.{Change}
use Rattle.block.specs.Table.{unit_of, with_register, with_core}
use Rattle.block.specs.Settle.{winner, give, show}
use Rattle.block.specs.declared.table.Table.{Table}
use Rattle.block.specs.declared.stepped.Stepped.{Stepped}

-- nothing to settle at a unit; and it shows its next in line, so that settling leaves it as it is; and so everywhere in a table
abbrev pub Calm : LockUnit → Type 0
Calm x = flags cores x ≡ 0 → next cores x ≡ Nobody

abbrev pub Quiet : LockUnit → Type 0
Quiet x = Calm x × (shown cores x ≡ x)

abbrev pub QuietTable : Table → Type 0
QuietTable t = (u : ℕ) → u < units → Quiet (unit_of t u)

-- whoever unit u would grant is not away: it drops nobody; and so everywhere in a table
abbrev pub Present : Table → ℕ → Type 0
Present t u = flags cores (unit_of t u) ≡ 0 → away_next cores (dropping (unit_of t u) t.cores) ≡ false

abbrev pub AllPresent : Table → Type 0
AllPresent t = (u : ℕ) → u < units → Present t u

-- a table of which one unit settled without a drop, and the core that it granted
pub record SettledAt : Type 0 where
  pub table : Table
  pub winner : Best

abbrev pub settle_at : Table → ℕ → SettledAt
settle_at t u = let w = winner (unit_of t u) in record { table = show (give t u w) u; winner = w }

-- a step that touched nothing that settles
abbrev pub unsettled : Table → Answer → Ticket → Stepped
unsettled t a n = record { table = t; answer = a; ticket = n; grants = None }

abbrev pub settled_one : Table → UnitNo → Answer → Ticket → Stepped
settled_one t u a n =
    let s = settle_at t u.0 in
    record { table = s.table; answer = a; ticket = n; grants = packed (won u.0 s.winner) }

abbrev pub settled_two : Table → UnitNo → UnitNo → Answer → Ticket → Stepped
settled_two t u v a n =
    let s = settle_at t u.0 in
    let z = settle_at s.table v.0 in
    record { table = z.table; answer = a; ticket = n; grants = packed (won u.0 s.winner ++ won v.0 z.winner) }

-- core k becomes c and gives up its registers at two units
abbrev pub freed_two : Table → ℕ → Core → UnitNo → UnitNo → Ticket → Stepped
freed_two t k c u v n = settled_two (with_core (with_register (with_register t u.0 k blank) v.0 k blank) k c) u v Done n

-- a unit by itself that settled, and the core that it granted: by its registers, and by what became of it
pub record Settled : Type 0 where
  pub unit : LockUnit
  pub winner : Best

abbrev pub settled_unit : LockUnit → Settled
settled_unit x = let w = winner x in record { unit = shown cores (given x w); winner = w }

abbrev pub settled_by : ℕ → CoreNo → Change → LockUnit → Settled
settled_by n k c x = record { unit = changed n k c x; winner = c.winner }
