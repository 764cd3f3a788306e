-- Detail: the plan of a step, put back into the table: unit j before unit i, since where both are the same the second stays as it
-- is. That this is the step on a sound table is the law `by_parts`.
use Rattle.std.specs.Prelude.{ℕ, cond, List, get_or, set}
use Rattle.ticket.specs.declared.kinds.CoreNo.{CoreNo}
use Rattle.ticket.specs.declared.kinds.UnitNo.{UnitNo}
use Rattle.parts.specs.Parts.{absent_unit}
use Rattle.parts.specs.declared.kinds.LockUnit.{LockUnit}
use Rattle.settling.specs.Settle.{changed}
use Rattle.settling.specs.declared.settle.Change.{Change}
use Rattle.plan.specs.declared.planning.Plan.{Plan}
use Rattle.block.specs.declared.table.Table.{Table}
use Rattle.block.specs.declared.stepped.Stepped.{Stepped}

-- of n cores, core k changed so at unit u
abbrev pub changed_at : ℕ → CoreNo → ℕ → Change → List LockUnit → List LockUnit
changed_at n k u c us = set us u (changed n k c (get_or us u absent_unit))

abbrev pub with_change : Table → CoreNo → UnitNo → Change → Table
with_change t k u c =
    record {
      units = changed_at t.counts.cores k u.0 c t.units;
      cores = t.cores;
      counts = t.counts;
      counter = t.counter;
    }

-- the units of a plan
abbrev pub with_units : Table → CoreNo → UnitNo → UnitNo → Plan → Table
with_units t k i j p = cond p.moves (with_change (with_change t k j p.second) k i p.first) t

abbrev pub committed : Table → CoreNo → UnitNo → UnitNo → Plan → Table
committed t k i j p =
    record {
      units = (with_units t k i j p).units;
      cores = set t.cores k.0 p.core;
      counts = t.counts;
      counter = p.counter;
    }

-- and what the tester must see
abbrev pub put_back : Table → CoreNo → UnitNo → UnitNo → Plan → Stepped
put_back t k i j p = record { table = committed t k i j p; answer = p.answer; ticket = p.ticket; grants = p.grants }
