-- "A reader goes over the lent script bytes and knows its place." "A place past the end of the script counts as its end."
use Rattle.std.specs.Prelude.{ℕ, ◌-◌, List, length}
use Rattle.std.specs.Borrow.{Bor}
use Rattle.lines.specs.Reading.{read_step}
use Rattle.lines.specs.StepLine.{StepLine, Line, Finished, Malformed, Unfinished}
use Rattle.script.specs.declared.reader.ScriptReader.{ScriptReader}
use Rattle.script.specs.declared.reader.ReadOn.{ReadOn}

-- a reader at a place
abbrev pub opened : Bor (List ℕ) → ℕ → ScriptReader
opened s at = record { script = s; place = at }

-- how many bytes are left from a place on
abbrev pub bytes_from_lem : List ℕ → ℕ → ℕ
bytes_from_lem s at = length s - at

-- where a reader stands after what it found: past a step line, and otherwise where it stood
abbrev pub place_after_lem : StepLine → ℕ → ℕ
place_after_lem line at = elim line [ Line x next ↦ next | Finished ↦ at | Malformed ↦ at | Unfinished ↦ at ]

-- the step line at the reader's place, and the reader moved on
abbrev pub read_on : ScriptReader → ReadOn
read_on r =
    let line : StepLine = read_step r.script.now r.place in
    record { line = line; reader = opened r.script (place_after_lem line r.place) }
