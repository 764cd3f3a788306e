-- What a writer of a whole line answers: the place after the line; 20, a header out of range; 23, no room for it.
use Rattle.std.specs.Prelude.{ℕ, Result, Ok, Err}
use Rattle.digits.specs.declared.room.Unwritten.{Unwritten}
use Rattle.digits.specs.declared.room.Unwritten.TheVariants as unwritten

abbrev pub Written : Type 0
Written = Result ℕ Unwritten

pattern abbrev pub Next : ℕ → Written
Next at = Ok at

pattern abbrev pub OutOfRange : Written
OutOfRange = Err unwritten.OutOfRange

pattern abbrev pub NoRoom : Written
NoRoom = Err unwritten.NoRoom
