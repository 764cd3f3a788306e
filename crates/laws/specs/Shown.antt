-- Shown: what the tester sees of a run of steps: for each its answer, its ticket, and unit and core of each grant.
use Rattle.std.specs.Prelude.{ℕ, List, [], ◌∷◌}
use Rattle.parts.specs.Answer.{number_of}
use Rattle.block.specs.Steps.{step}
use Rattle.block.specs.Over.{over}
use Rattle.block.specs.declared.table.Table.{Table}
use Rattle.parts.specs.declared.answer.Step.{Step}
use Rattle.parts.specs.declared.answer.Grants.{Grants}
use Rattle.parts.specs.declared.answer.Grants.TheVariants.{None, One, Two}
use Rattle.block.specs.declared.stepped.Stepped.{Stepped}

abbrev pub grant_fields : Grants → List ℕ
grant_fields None = []
grant_fields (One g) = g.unit.0 ∷ g.core.0 ∷ []
grant_fields (Two g h) = g.unit.0 ∷ g.core.0 ∷ h.unit.0 ∷ h.core.0 ∷ []

abbrev pub fields : Stepped → List ℕ
fields x = number_of x.answer ∷ x.ticket.0 ∷ grant_fields x.grants

abbrev pub shown : Table → List Step → List (List ℕ)
shown t steps = over (λ q s. (step q s).table) (λ q. []) (λ q s later. fields (step q s) ∷ later) t steps
