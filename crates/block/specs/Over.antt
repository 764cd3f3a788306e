-- Steps one after another, accepted or refused, from a place: `on` takes a place over a step, `each` adds what a step gives where it
-- stands to what the later ones give, and `end` is what the last place gives.
use Rattle.std.specs.Prelude.{List, [], ◌∷◌}
use Rattle.parts.specs.declared.answer.Step.{Step}

unfoldable pub over : {A B : Type 0} → (A → Step → A) → (A → B) → (A → Step → B → B) → A → List Step → B
over on end each p [] = end p
over on end each p (s ∷ more) = each p s (over on end each (on p s) more)

-- the place after the steps
abbrev pub last_place : {A : Type 0} → (A → Step → A) → A → List Step → A
last_place on p steps = over on (λ q. q) (λ q s later. later) p steps
