-- "Step line order: finished, 24, 22, 21, 16, 23." What is due at a step line; 23 is known later, when its answer is.
use Rattle.std.specs.Prelude.{ℕ, Bool, cond, List, leb, length}
use Rattle.lines.specs.Reading.{read_step}
use Rattle.lines.specs.StepLine.{StepLine, Line, Finished as Nothing, Malformed as NoStep, Unfinished as Cut}
use Rattle.stops.specs.Run.{steps_most}
use Rattle.stops.specs.Todo.{Todo, Work, Stop as Halt}
use Rattle.lines.specs.declared.reading.BadLine.{BadLine}
use Rattle.lines.specs.declared.reading.BadLine.TheVariants as bad_line
use Rattle.headers.specs.declared.reading.BadHeader as bad_header
use Rattle.headers.specs.declared.reading.BadHeader.TheVariants as bad_header_is
use Rattle.stops.specs.declared.run.Stop.{Stop}
use Rattle.stops.specs.declared.run.Stop.TheVariants.{Finished, Unsound, BadHeader, Malformed, Unfinished, TooMany}

-- a bad line, by what is bad in it
abbrev pub line_stop : BadLine → Stop
line_stop b = elim b [ bad_line.Malformed ↦ Malformed | bad_line.Unfinished ↦ Unfinished ]

-- what is no header, by what stands there
abbrev pub header_stop : bad_header.BadHeader → Stop
header_stop b = elim b [ bad_header_is.Malformed ↦ BadHeader | bad_header_is.Unfinished ↦ Unfinished ]

-- a step line as it is read: 22, 21, and 16 on a table that is not sound
abbrev pub line_due : StepLine → Bool → Todo
line_due l fit =
    elim l [ Line x next ↦ cond fit (Work x next) (Halt Unsound) | Nothing ↦ Halt Finished | NoStep ↦ Halt Malformed | Cut ↦ Halt Unfinished ]

-- finished and 24 before them
abbrev pub due : List ℕ → ℕ → ℕ → Bool → Todo
due s place steps fit =
    cond (leb (length s) place) (Halt Finished) (cond (leb steps_most steps) (Halt TooMany) (line_due (read_step s place) fit))
