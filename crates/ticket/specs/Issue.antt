-- "The issuing unit holds one counter, which each accepted request moves on by one."
use Rattle.std.specs.Prelude.{ℕ, zero, suc, ◌+◌, ◌%◌}
use Rattle.ticket.specs.Kinds.{ticket}
use Rattle.ticket.specs.Order.{circle, after}
use Rattle.ticket.specs.declared.issue.IssuingUnit.{IssuingUnit}
use Rattle.ticket.specs.declared.issue.Issued.{Issued}

-- one call: the counter as a ticket, and the unit moved on by one
abbrev pub issue : IssuingUnit → Issued
issue u = record { ticket = u.counter; unit = record { counter = ticket (after u.counter.0) } }

-- the unit after n calls
unfoldable pub unit_after : IssuingUnit → ℕ → IssuingUnit
unit_after u zero = u
unit_after u (suc n) = (issue (unit_after u n)).unit

-- the ticket with issue number i, counted from 0 and never wrapping, of a counter that started at c
unfoldable pub nth : ℕ → ℕ → ℕ
nth c i = (c + i) % circle
