-- "Settling. At the end of each accepted step, every unit that has no flag set and some valid register sets the flag of the core
-- with the oldest register. These are the step's grants." Units settle by rising number, and each shows its next in line (document 02, wish 7).
-- "When its unit settles and the oldest is away, that core is dropped, its ticket ends, and the next is looked at" (wish 10).
use Rattle.std.specs.Prelude.{ℕ, cond, List, [], ◌++◌, eqb, set}
use Rattle.ticket.specs.declared.kinds.Grant.{Grant}
use Rattle.parts.specs.Fold.{up_to}
use Rattle.parts.specs.Parts.{cores, units, flagged}
use Rattle.settling.specs.Line.{flags, next, won}
use Rattle.settling.specs.Shown.{shown}
use Rattle.settling.specs.Dropping.{drop_away}
use Rattle.parts.specs.declared.kinds.LockUnit.{LockUnit}
use Rattle.settling.specs.Best.{Best, Nobody, Won}
use Rattle.settling.specs.declared.dropping.Dropping.{Dropping}
use Rattle.block.specs.Table.{unit_of, register_of, with_unit, with_register}
use Rattle.block.specs.declared.table.Table.{Table}

-- who wins a unit that settles: without a flag, its next in line
abbrev pub winner : LockUnit → Best
winner x = cond (eqb (flags cores x) 0) (next cores x) Nobody

-- the flag of the core that won is set
abbrev pub give : Table → ℕ → Best → Table
give t u Nobody = t
give t u (Won k n) = with_register t u k.0 (flagged (register_of t u k.0))

-- the table so far, and its grants by rising unit
pub record Settling : Type 0 where
  pub table : Table
  pub grants : List Grant

-- the unit shows its next in line
abbrev pub show : Table → ℕ → Table
show t u = with_unit t u (shown cores (unit_of t u))

-- unit u and the cores after some were dropped there
abbrev pub with_dropping : Table → ℕ → Dropping → Table
with_dropping t u d = record { units = set t.units u d.unit; cores = d.cores; counts = t.counts; counter = t.counter }

-- unit u, if it has no flag set, drops whoever is oldest and away
abbrev pub drop_at : Table → ℕ → Table
drop_at t u = cond (eqb (flags cores (unit_of t u)) 0) (with_dropping t u (drop_away cores (unit_of t u) t.cores)) t

-- it grants its flag, and shows who is next then
abbrev pub grant_next : ℕ → Settling → Settling
grant_next u s = let w = winner (unit_of s.table u) in record { table = show (give s.table u w) u; grants = s.grants ++ won u w }

-- one unit settles
abbrev pub settle_next : ℕ → Settling → Settling
settle_next u s = grant_next u (record { table = drop_at s.table u; grants = s.grants })

-- every unit settles
abbrev pub settle : Table → Settling
settle t = up_to settle_next units (record { table = t; grants = [] })
