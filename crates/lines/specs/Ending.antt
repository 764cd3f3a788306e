-- Where a line ends: the place of its end; or not within the longest line; or not yet.
use Rattle.std.specs.Prelude.{ℕ, Result, Ok, Err}
use Rattle.lines.specs.declared.reading.NoEnd.{NoEnd}
use Rattle.lines.specs.declared.reading.NoEnd.TheVariants.{TooLong, CutOff}

abbrev pub Ending : Type 0
Ending = Result ℕ NoEnd

pattern abbrev pub At : ℕ → Ending
At i = Ok i

pattern abbrev pub Long : Ending
Long = Err TooLong

pattern abbrev pub Short : Ending
Short = Err CutOff
