-- Script lines and the output's first line as they are written, whole, into lent bytes at a place. "Writing one gives 20 for a header
-- out of range, then 23." "Output opens with `E` and the header's four numbers." In the dequeueing profile the letters are `D` and `F`.
use Rattle.std.specs.Prelude.{ℕ, cond, List, [], ◌∷◌, ◌++◌}
use Rattle.ticket.specs.declared.kinds.Ticket.{Ticket}
use Rattle.parts.specs.Range.{in_range}
use Rattle.parts.specs.declared.kinds.Counts.{Counts}
use Rattle.parts.specs.declared.answer.Step.{Step}
use Rattle.parts.specs.declared.answer.Step.TheVariants.{R, N, P, I, C, L}
use Rattle.numbers.specs.Bytes.{end}
use Rattle.lines.specs.Bytes.{script_letter, output_letter, letter_of}
use Rattle.digits.specs.Text.{tabbed}
use Rattle.digits.specs.Room.{wrote, left}
use Rattle.digits.specs.Written.{Written}
use Rattle.digits.specs.Written.{OutOfRange}

-- each number behind a tab, and the line's end
abbrev pub fields : List ℕ → List ℕ
fields [] = end ∷ []
fields (n ∷ ns) = tabbed n ++ fields ns

-- "the letter and its numbers"
abbrev pub numbers_of : Step → List ℕ
numbers_of s =
    elim s [ R k u ↦ k.0 ∷ u.0 ∷ [] | N k u ↦ k.0 ∷ u.0 ∷ [] | P k ↦ k.0 ∷ [] | I k ↦ k.0 ∷ [] | C k ↦ k.0 ∷ [] | L k ↦ k.0 ∷ [] ]

abbrev pub step_bytes : Step → List ℕ
step_bytes s = letter_of s ∷ fields (numbers_of s)

-- the header with its letter
abbrev pub header_bytes : ℕ → Counts → Ticket → List ℕ
header_bytes letter c n = letter ∷ fields (c.cores ∷ c.first ∷ c.second ∷ n.0 ∷ [])

-- as a script has it, and as the output opens with it
abbrev pub script_header : Counts → Ticket → List ℕ
script_header c n = header_bytes (script_letter c.profile) c n

abbrev pub output_header : Counts → Ticket → List ℕ
output_header c n = header_bytes (output_letter c.profile) c n

-- the header: 20 before 23
abbrev pub wrote_header : List ℕ → ℕ → ℕ → Counts → Ticket → Written
wrote_header out at letter c n = cond (in_range c) (wrote out at (header_bytes letter c n)) OutOfRange

abbrev pub left_header : List ℕ → ℕ → ℕ → Counts → Ticket → List ℕ
left_header out at letter c n = cond (in_range c) (left out at (header_bytes letter c n)) out

-- as the code puts them: a letter and its numbers, and so a letter and one number, or two
abbrev pub letter_line : ℕ → List ℕ → List ℕ
letter_line letter ns = letter ∷ fields ns

abbrev pub lettered : ℕ → ℕ → List ℕ
lettered letter k = letter ∷ fields (k ∷ [])

abbrev pub lettered2 : ℕ → ℕ → ℕ → List ℕ
lettered2 letter k u = letter ∷ fields (k ∷ u ∷ [])
