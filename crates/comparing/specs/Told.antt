-- What two numbers read as tickets compare as, or that there are not two.
use Rattle.std.specs.Prelude.{Option, None, Some}
use Rattle.ticket.specs.declared.order.Comparison.{Comparison}

abbrev pub Told : Type 0
Told = Option Comparison

pattern abbrev pub Malformed : Told
Malformed = None

pattern abbrev pub Says : Comparison → Told
Says x = Some x
