-- "Lines count from 1", the header's line first: the line at which a run stands.
use Rattle.std.specs.Prelude.{ℕ, ◌+◌, cond}
use Rattle.stops.specs.declared.run.Run.{Run}

abbrev pub line_number : Run → ℕ
line_number r = cond r.headed (r.steps + 2) 1
