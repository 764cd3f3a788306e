-- "Store it in every unit: none, or the oldest valid register whose flag is clear." Beside it stands whether the unit has a flag set.
use Rattle.std.specs.Prelude.{ℕ, Bool, true, false, cond, ◌&&◌, not, eqb}
use Rattle.ticket.specs.Kinds.{ticket}
use Rattle.parts.specs.Parts.{core_no, next_in_line, showing}
use Rattle.parts.specs.declared.kinds.Next.{Next}
use Rattle.parts.specs.declared.kinds.LockUnit.{LockUnit}
use Rattle.settling.specs.Line.{flags, next}
use Rattle.settling.specs.Best.{Best, Nobody, Won}

-- what a unit shows, by who is next in line and whether a flag is set
abbrev pub shown_as : Best → Bool → Next
shown_as Nobody held = next_in_line (ticket 0) (core_no 0) false held
shown_as (Won k t) held = next_in_line t k true held

-- what the first n registers of a unit ask for, and the unit that shows it
abbrev pub next_of : ℕ → LockUnit → Next
next_of n x = shown_as (next n x) (not (eqb (flags n x) 0))

abbrev pub shown : ℕ → LockUnit → LockUnit
shown n x = showing x (next_of n x)

-- whether a unit shows just that
abbrev pub agree : Bool → Bool → Bool
agree a b = cond a b (not b)

abbrev pub same : Next → Next → Bool
same v w = eqb v.ticket.0 w.ticket.0 && eqb v.core.0 w.core.0 && agree v.valid w.valid && agree v.held w.held

abbrev pub shows_next_lem : ℕ → LockUnit → Bool
shows_next_lem n x = same x.next (next_of n x)
