-- The header at a place: "before it, nothing left is 22. A place past the end of the script counts as its end. Header order: 22, 20." Its
-- line ends as any line does. "Readers take both header letters."
use Rattle.std.specs.Prelude.{ℕ, Option, None, Some, cond, List, eqb, get_or}
use Rattle.ticket.specs.Kinds.{ticket}
use Rattle.parts.specs.Range.{in_range}
use Rattle.parts.specs.declared.kinds.Fill.TheVariants.{Blank}
use Rattle.parts.specs.declared.kinds.Profile.{Profile}
use Rattle.parts.specs.declared.kinds.Profile.TheVariants.{T, D}
use Rattle.numbers.specs.Bytes.{tab}
use Rattle.numbers.specs.Number.{field}
use Rattle.numbers.specs.Field.{Field, Bad, Last, Then}
use Rattle.lines.specs.Bytes.{script_letter}
use Rattle.lines.specs.Reading.{line_at}
use Rattle.headers.specs.ParsedHeader.{ParsedHeader, Good as GoodHeader, Not as NoHeader}
use Rattle.headers.specs.HeaderLine.{HeaderLine, Header, BadHeader, Unfinished as Unended}

-- a number that a tab ends, and the place after it
abbrev pub number_then : Field → Option (ℕ × ℕ)
number_then f = elim f [ Bad ↦ None | Last v ↦ None | Then v i ↦ Some (v, i) ]

-- number by number, with the profile and what was read before it
abbrev pub with_counter_lem : Profile → ℕ → ℕ → ℕ → Field → ParsedHeader
with_counter_lem p a b c f =
    elim f [ Bad ↦ NoHeader | Last n ↦ GoodHeader (record { cores = a; first = b; second = c; profile = p; fill = Blank }) (ticket n) | Then n i ↦ NoHeader ]

abbrev pub with_second_lem : List ℕ → Profile → ℕ → ℕ → Field → ParsedHeader
with_second_lem s p a b f = elim f [ Bad ↦ NoHeader | Last c ↦ NoHeader | Then c i ↦ with_counter_lem p a b c (field s i) ]

abbrev pub with_first_lem : List ℕ → Profile → ℕ → Field → ParsedHeader
with_first_lem s p a f = elim f [ Bad ↦ NoHeader | Last b ↦ NoHeader | Then b i ↦ with_second_lem s p a b (field s i) ]

abbrev pub with_cores : List ℕ → Profile → Field → ParsedHeader
with_cores s p f = elim f [ Bad ↦ NoHeader | Last a ↦ NoHeader | Then a i ↦ with_first_lem s p a (field s i) ]

-- the letter gives the profile
abbrev pub with_letter : List ℕ → ℕ → Field → ParsedHeader
with_letter s letter f =
    cond (eqb letter (script_letter T)) (with_cores s T f) (cond (eqb letter (script_letter D)) (with_cores s D f) NoHeader)

abbrev pub parse_header_lem : List ℕ → ParsedHeader
parse_header_lem s = cond (eqb (get_or s 1 0) tab) (with_letter s (get_or s 0 0) (field s 2)) NoHeader

-- 20, or the header with the place after its line
abbrev pub header_line : ParsedHeader → ℕ → HeaderLine
header_line p next = elim p [ GoodHeader c n ↦ cond (in_range c) (Header c n next) BadHeader | NoHeader ↦ BadHeader ]

-- the header at a place
abbrev pub read_header : List ℕ → ℕ → HeaderLine
read_header s at = line_at Unended BadHeader Unended (λ bytes next. header_line (parse_header_lem bytes) next) s at

-- Document 01's numbers: of an answer; and which is due

abbrev pub header_line_number : HeaderLine → ℕ
header_line_number l = elim l [ Header c n next ↦ 0 | BadHeader ↦ 20 | Unended ↦ 22 ]

abbrev pub header_number : List ℕ → ℕ → ℕ
header_number s at =
    line_at 22 20 22 (λ bytes next. elim (parse_header_lem bytes) [ GoodHeader c n ↦ cond (in_range c) 0 20 | NoHeader ↦ 20 ]) s at
