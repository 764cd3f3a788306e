-- The bytes to set aside for the output of a script: the header's line, and a line for each step line that can be worked.
use Rattle.std.specs.Prelude.{ℕ, zero, suc, ◌+◌, ◌*◌, cond, List, ltb, length, drop}
use Rattle.lines.specs.Bytes.{line_most}
use Rattle.lines.specs.Reading.{read_step}
use Rattle.lines.specs.StepLine.{Line, Finished, Malformed, Unfinished}
use Rattle.expected.specs.Expected.{expected_most}
use Rattle.stops.specs.Run.{steps_most}

-- of so many step lines those that can be worked: "24: a line after 1,000,000 steps or more"
abbrev pub workable : ℕ → ℕ
workable steps = cond (ltb steps steps_most) steps steps_most

-- the header's greatest length, and a step's for each
abbrev pub room_for : ℕ → ℕ
room_for steps = line_most + expected_most * workable steps

-- how many step lines the reader reads from the front of s, up to the first line that is none, at most f
unfoldable pub step_lines_in : ℕ → List ℕ → ℕ
step_lines_in zero s = 0
step_lines_in (suc f) s = elim (read_step s 0) [ Line x next ↦ suc (step_lines_in f (drop next s)) | Finished ↦ 0 | Malformed ↦ 0 | Unfinished ↦ 0 ]

-- a line has at least one byte, so there are no more than bytes
abbrev pub step_lines : List ℕ → ℕ
step_lines s = step_lines_in (length s) s
