-- A verdict's words: a step is allowed, or refused with an answer.
use Rattle.std.specs.Prelude.{Result, Ok, Err}
use Rattle.parts.specs.declared.answer.Answer.{Answer}

abbrev pub Verdict : Type 0
Verdict = Result Unit Answer

pattern abbrev pub Allowed : Verdict
Allowed = Ok tt

pattern abbrev pub Refused : Answer → Verdict
Refused a = Err a
