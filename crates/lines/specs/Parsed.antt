-- The bytes of a line as a step, or no step.
use Rattle.std.specs.Prelude.{Option, None, Some}
use Rattle.parts.specs.declared.answer.Step.{Step}

abbrev pub Parsed : Type 0
Parsed = Option Step

pattern abbrev pub Good : Step → Parsed
Good x = Some x

pattern abbrev pub Not : Parsed
Not = None
