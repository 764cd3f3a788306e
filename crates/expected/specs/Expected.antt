-- Expected lines as they are written. "Each step gives: step number from 1, answer, ticket, number of grants, then unit and core of
-- each grant by rising unit." "An expected line may reach 29 bytes."
use Rattle.std.specs.Prelude.{ℕ, List, [], ◌∷◌, ◌++◌}
use Rattle.ticket.specs.declared.kinds.Grant.{Grant}
use Rattle.ticket.specs.declared.kinds.Ticket.{Ticket}
use Rattle.parts.specs.Answer.{number_of}
use Rattle.parts.specs.declared.answer.Answer.{Answer}
use Rattle.parts.specs.declared.answer.Grants.{Grants}
use Rattle.parts.specs.declared.answer.Grants.TheVariants.{None, One, Two}
use Rattle.numbers.specs.Bytes.{end}
use Rattle.numbers.specs.Number.{decimal}
use Rattle.digits.specs.Text.{tabbed}

-- the longest expected line, with its end
abbrev pub expected_most : ℕ
expected_most = 29

abbrev pub grant_bytes : Grant → List ℕ
grant_bytes g = tabbed g.unit.0 ++ tabbed g.core.0

-- how many grants, and each
abbrev pub grants_bytes : Grants → List ℕ
grants_bytes gs = elim gs [ None ↦ tabbed 0 | One g ↦ tabbed 1 ++ grant_bytes g | Two g h ↦ tabbed 2 ++ (grant_bytes g ++ grant_bytes h) ]

-- what a line has behind the step's number
abbrev pub shown_bytes : Answer → Ticket → Grants → List ℕ
shown_bytes a n g = tabbed (number_of a) ++ (tabbed n.0 ++ (grants_bytes g ++ (end ∷ [])))

abbrev pub expected_bytes : ℕ → Answer → Ticket → Grants → List ℕ
expected_bytes i a n g = decimal i ++ shown_bytes a n g
