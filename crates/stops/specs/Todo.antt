-- The line at a place after the header: a step to work, with the place after its line; or why the run stops there.
use Rattle.std.specs.Prelude.{ℕ, Result, Ok, Err}
use Rattle.parts.specs.declared.answer.Step.{Step}
use Rattle.stops.specs.declared.run.Stop as why

abbrev pub Todo : Type 0
Todo = Result (Step × ℕ) why.Stop

pattern abbrev pub Work : Step → ℕ → Todo
Work x next = Ok (x, next)

pattern abbrev pub Stop : why.Stop → Todo
Stop w = Err w
