-- A run after its header stands as many lines behind the header's as it has steps, and one.
use Rattle.std.proofs.Common.{◌+◌, ◌≡◌, true}
use Rattle.stops.specs.declared.run.Run.{Run}
use Rattle.console.specs.Line.{line_number}

pub after_header : (q : Run) → q.headed ≡ true → q.steps + 2 ≡ line_number q
after_header q h = rw h
