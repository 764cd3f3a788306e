-- What is said of the grants of a step: their list, its order, and when a grant is due.
use Rattle.std.specs.Prelude.{ℕ, ◌<◌, Bool, ◌≡◌}
use mathlib.Core.List.{List, [], ◌∷◌, Memᴰ}
use Rattle.ticket.specs.declared.kinds.CoreNo.{CoreNo}
use Rattle.ticket.specs.declared.kinds.Grant.{Grant}
use Rattle.ticket.specs.declared.kinds.Ticket.{Ticket}
use Rattle.parts.specs.Fold.{some}
use Rattle.parts.specs.Parts.{cores, units, register_in}
use Rattle.block.specs.Table.{unit_of}
use Rattle.settling.specs.Line.{flags, in_line, next}
use Rattle.parts.specs.declared.kinds.LockUnit.{LockUnit}
use Rattle.block.specs.declared.table.Table.{Table}
use Rattle.settling.specs.Best.{Won}
use Rattle.parts.specs.declared.answer.Grants.{Grants}
use Rattle.parts.specs.declared.answer.Grants.TheVariants.{None, One, Two}

abbrev pub listed : Grants → List Grant
listed gs = elim gs [ None ↦ [] | One g ↦ g ∷ [] | Two g h ↦ g ∷ h ∷ [] ]

-- the units rise
unfoldable pub Rising : List Grant → Type 0
Rising [] = Unit {0}
Rising (g ∷ more) = ((h : Grant) → Memᴰ h more → g.unit.0 < h.unit.0) × Rising more

-- the unit has no flag set, and the core is its next in line
pub record Due (x : LockUnit) (k : CoreNo) : Type 0 where
  pub free : flags cores x ≡ 0
  pub ticket : Ticket
  pub oldest : next cores x ≡ Won k ticket

-- the grant is of a unit in the table, and due there
pub record DueIn (t : Table) (g : Grant) : Type 0 where
  pub place : g.unit.0 < units
  pub due : Due (unit_of t g.unit.0) g.core

-- some register of the unit is in line
abbrev pub any_in_line : LockUnit → Bool
any_in_line x = some (λ (k : ℕ). in_line (register_in x k)) cores
