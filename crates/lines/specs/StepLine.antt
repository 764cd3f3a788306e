-- What stands at a place after the header: a step and the place after its line; nothing; a malformed line, 21; a line that is not
-- finished, 22.
use Rattle.std.specs.Prelude.{ℕ, Option, None, Some, Result, Ok, Err}
use Rattle.parts.specs.declared.answer.Step.{Step}
use Rattle.lines.specs.declared.reading.NoEnd.{NoEnd}
use Rattle.lines.specs.declared.reading.NoEnd.TheVariants.{TooLong, CutOff}
use Rattle.lines.specs.declared.reading.BadLine.{BadLine}
use Rattle.lines.specs.declared.reading.BadLine.TheVariants as bad_line

abbrev pub StepLine : Type 0
StepLine = Result (Option (Step × ℕ)) BadLine

pattern abbrev pub Line : Step → ℕ → StepLine
Line x next = Ok (Some (x, next))

pattern abbrev pub Finished : StepLine
Finished = Ok None

pattern abbrev pub Malformed : StepLine
Malformed = Err bad_line.Malformed

pattern abbrev pub Unfinished : StepLine
Unfinished = Err bad_line.Unfinished

-- a line whose end is not found
abbrev pub no_line : NoEnd → BadLine
no_line e = elim e [ TooLong ↦ bad_line.Malformed | CutOff ↦ bad_line.Unfinished ]
