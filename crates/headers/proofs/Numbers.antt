-- The number that the answer carries, by the tests it comes from: 22 where nothing is left, then 22 and 20 by the line's end and its bytes.
use Prim.Native.Nat.{ℕ, ◌+◌, ◌-◌}
use mathlib.Core.Bool.{Bool, true, false, cond}
use mathlib.Core.List.{List}
use mathlib.Core.Path.{◌≡◌, refl}
use lib.Dec.{leb}
use lib.ListN.{length, take, drop}
use Rattle.parts.specs.Range.{in_range}
use Rattle.lines.specs.Reading.{line_end_lem}
use Rattle.lines.specs.Ending.{Ending, At, Long, Short}
use Rattle.headers.specs.Header.{parse_header_lem, header_line, read_header, header_line_number, header_number}
use Rattle.headers.specs.ParsedHeader.{ParsedHeader, Good as GoodHeader, Not as NoHeader}
use Rattle.headers.specs.HeaderLine.{HeaderLine, Header, BadHeader, Unfinished as Unended}

-- the header at a place that is not past the end, and its number, by where the line ends
abbrev pub header_to : List ℕ → ℕ → Ending → HeaderLine
header_to s at found = elim found [ At e ↦ header_line (parse_header_lem (take (e - at) (drop at s))) (e + 1) | Long ↦ BadHeader | Short ↦ Unended ]

abbrev due : ParsedHeader → ℕ
due p = elim p [ GoodHeader c n ↦ cond (in_range c) 0 20 | NoHeader ↦ 20 ]

abbrev due_to : List ℕ → ℕ → Ending → ℕ
due_to s at found = elim found [ At e ↦ due (parse_header_lem (take (e - at) (drop at s))) | Long ↦ 20 | Short ↦ 22 ]

parsed_number : (p : ParsedHeader) (next : ℕ) → header_line_number (header_line p next) ≡ due p
parsed_number (GoodHeader c n) next = go (in_range c)
  where
    go : (b : Bool) → header_line_number (cond b (Header c n next) BadHeader) ≡ cond b 0 20
    go true = refl
    go false = refl
parsed_number NoHeader next = refl

ended_number : (s : List ℕ) (at : ℕ) (found : Ending) → header_line_number (header_to s at found) ≡ due_to s at found
ended_number s at (At e) = parsed_number (parse_header_lem (take (e - at) (drop at s))) (e + 1)
ended_number s at Long = refl
ended_number s at Short = refl

pub header_number_lem : (s : List ℕ) (at : ℕ) → header_line_number (read_header s at) ≡ header_number s at
header_number_lem s at = go (leb (length s) at)
  where
    go :
        (b : Bool) →
        header_line_number (cond b Unended (header_to s at (line_end_lem s at))) ≡ cond b 22 (due_to s at (line_end_lem s at))
    go true = refl
    go false = ended_number s at (line_end_lem s at)
