-- "A reader goes over the lent script bytes and knows its place. It gives 21 if the next `line_most` bytes hold no line end, or the bytes
-- up to it aren't a step line; 22 if fewer remain and none is a line end. After the header, nothing left means finished." "A place past
-- the end of the script counts as its end."
use Rattle.std.specs.Prelude.{ℕ, zero, suc, ◌+◌, ◌-◌, cond, List, [], ◌∷◌, eqb, leb, length, get_or, take, drop}
use Rattle.parts.specs.Parts.{core_no, unit_no}
use Rattle.parts.specs.declared.answer.Step.{Step}
use Rattle.parts.specs.declared.answer.Step.TheVariants.{R, N, P, I, C, L}
use Rattle.numbers.specs.Bytes.{tab, end}
use Rattle.lines.specs.Bytes.{line_most, letter_of}
use Rattle.numbers.specs.Number.{field}
use Rattle.numbers.specs.Field.{Field, Bad, Last, Then}
use Rattle.lines.specs.Ending.{Ending, At, Long, Short}
use Rattle.lines.specs.Parsed.{Parsed, Good, Not}
use Rattle.lines.specs.StepLine.{StepLine, Line, Finished, Malformed, Unfinished}

-- looks at bytes i, i + 1 and so on, at most f of them, for a line's end
unfoldable pub ending : ℕ → ℕ → List ℕ → Ending
ending zero i bs = Long
ending (suc f) i [] = Short
ending (suc f) i (b ∷ bs) = cond (eqb b end) (At i) (let more = ending f (i + 1) bs in more)

-- the end of the line that starts at a place
abbrev pub line_end_lem : List ℕ → ℕ → Ending
line_end_lem s at = ending line_most at (drop at s)

-- what stands at a place: the bytes up to the line's end as `read` reads them, with the place after it; `none` where nothing is left, `bad`
-- where the next `line_most` bytes hold no line end, and `cut` where fewer remain and none is one
abbrev pub line_at : {A : Type 0} → A → A → A → (List ℕ → ℕ → A) → List ℕ → ℕ → A
line_at none bad cut read s at =
    cond (leb (length s) at) none
    (elim (line_end_lem s at) [ At e ↦ read (take (e - at) (drop at s)) (e + 1) | Long ↦ bad | Short ↦ cut ])

-- Step lines

-- a step, if the letter is its own
abbrev pub if_its : ℕ → Step → Parsed → Parsed
if_its letter x other = cond (eqb letter (letter_of x)) (Good x) other

-- a letter with one number, and with two
abbrev pub one_number : ℕ → ℕ → Parsed
one_number letter k = let c = core_no k in if_its letter (P c) (if_its letter (I c) (if_its letter (C c) (if_its letter (L c) Not)))

abbrev pub two_numbers_lem : ℕ → ℕ → ℕ → Parsed
two_numbers_lem letter k u = let c = core_no k in let v = unit_no u in if_its letter (R c v) (if_its letter (N c v) Not)

-- what follows the core's number
abbrev pub after_core : ℕ → ℕ → Field → Parsed
after_core letter k f = elim f [ Bad ↦ Not | Last u ↦ two_numbers_lem letter k u | Then u i ↦ Not ]

abbrev pub after_letter : List ℕ → ℕ → Field → Parsed
after_letter s letter f = elim f [ Bad ↦ Not | Last k ↦ one_number letter k | Then k i ↦ after_core letter k (field s i) ]

-- the bytes of a line, without its end: the letter, a tab, and its numbers parted by tabs
abbrev pub parse_step_lem : List ℕ → Parsed
parse_step_lem s = cond (eqb (get_or s 1 0) tab) (after_letter s (get_or s 0 0) (field s 2)) Not

-- 21 or the step with the place after its line
abbrev pub step_line_lem : Parsed → ℕ → StepLine
step_line_lem p next = elim p [ Good x ↦ Line x next | Not ↦ Malformed ]

-- the step line at a place
abbrev pub read_step : List ℕ → ℕ → StepLine
read_step s at = line_at Finished Malformed Unfinished (λ bytes next. step_line_lem (parse_step_lem bytes) next) s at

-- Document 01's numbers: of an answer; and which is due

abbrev pub step_line_number : StepLine → ℕ
step_line_number l = elim l [ Line x next ↦ 0 | Finished ↦ 0 | Malformed ↦ 21 | Unfinished ↦ 22 ]

abbrev pub step_number : List ℕ → ℕ → ℕ
step_number s at = line_at 0 21 22 (λ bytes next. elim (parse_step_lem bytes) [ Good x ↦ 0 | Not ↦ 21 ]) s at
