-- "Script lines read back to exactly what was written": a line that is written is read, in the middle of any other bytes, and a line that
-- is read is the one that is written.
use Rattle.std.specs.Prelude.{ℕ, ◌+◌, ◌-◌, ◌≤◌, true, List, [], ◌∷◌, ◌↔◌, ◌≡◌, length, take, drop}
use Rattle.ticket.specs.declared.kinds.Ticket.{Ticket}
use Rattle.parts.specs.Range.{in_range}
use Rattle.parts.specs.declared.kinds.Counts.{Counts}
use Rattle.parts.specs.declared.kinds.Profile.TheVariants.{D}
use Rattle.parts.specs.declared.answer.Step.{Step}
use Rattle.numbers.specs.Number.{number_most}
use Rattle.lines.specs.Reading.{read_step}
use Rattle.lines.specs.StepLine.{Line}
use Rattle.headers.specs.Header.{read_header}
use Rattle.headers.specs.HeaderLine.{Header}
use Rattle.writing.specs.Writing.{numbers_of, step_bytes, script_header}

-- numbers that a line can hold
abbrev pub Small : List ℕ → Type 0
Small [] = Unit {0}
Small (n ∷ ns) = (n ≤ number_most) × Small ns

-- from a place up to the next one stand the bytes of a line
abbrev pub Stands : List ℕ → ℕ → ℕ → List ℕ → Type 0
Stands s at next line = (take (next - at) (drop at s) ≡ line) × (next ≡ at + length line)

-- a value is found at a place, up to the next one, exactly where its line stands, and where the line is one that can be written
abbrev pub ReadAsWritten : {A : Type 0} → (List ℕ → ℕ → A) → (ℕ → A) → List ℕ → Type 0 → Type 0
ReadAsWritten read found line can = (s : List ℕ) (at next : ℕ) → (read s at ≡ found next) ↔ (Stands s at next line × can)

abbrev pub StepAsWritten : Type 0
StepAsWritten = (x : Step) → ReadAsWritten read_step (Line x) (step_bytes x) (Small (numbers_of x))

abbrev pub HeaderAsWritten : Type 0
HeaderAsWritten =
    (c : Counts) (n : Ticket) → ReadAsWritten read_header (Header c n) (script_header c n) ((in_range c ≡ true) × (n.0 ≤ number_most))

-- "20 for `D` with second-class units": a header of D that is read has none
abbrev pub NoneSecondRead : Type 0
NoneSecondRead =
    (s : List ℕ) (at : ℕ) (c : Counts) (n : Ticket) (next : ℕ) → read_header s at ≡ Header c n next → c.profile ≡ D → c.second ≡ 0
