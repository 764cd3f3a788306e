-- Demands 1 and 2, of a call: the translation's turn is steady, so that what is claimed of every walk holds of it; and each step's line is
-- as document 01 has it.
use Rattle.std.specs.Prelude.{ℕ, true, false, List, [], ◌⊎◌, ◌≡◌}
use Rattle.ticket.specs.declared.kinds.Ticket.{Ticket}
use Rattle.parts.specs.Range.{in_range}
use Rattle.parts.specs.declared.kinds.Counts.{Counts}
use Rattle.writing.specs.Writing.{script_header}
use Rattle.walks.specs.Walk.{Steady, Desk, walked}
use Rattle.calls.specs.Call.{Known, translation}
use Rattle.calls.specs.Columns.{header_worked, Columned}

-- a line that is answered has bytes, all of them there, and is answered the same whatever follows; no line asks for room by itself
abbrev pub SteadyTranslation : Type 0
SteadyTranslation = Steady translation

-- "the numbers are those of the lines read and the grants listed": what a call reads and writes, line by line, after the header
abbrev pub ColumnsWritten : Type 0
ColumnsWritten = (d : Desk Known) (s : List ℕ) → d.state.headed ≡ true → Columned s d.place [] d (walked translation d s).desk

-- and before it: nothing, or a good header and what follows it
abbrev pub OpeningWritten : Type 0
OpeningWritten =
    (d : Desk Known) (s : List ℕ) →
    d.state.headed ≡ false →
    let e = (walked translation d s).desk in
    (e ≡ d) ⊎ ((c : Counts) × (n : Ticket) × (in_range c ≡ true) × Columned s d.place (script_header c n) (header_worked d c n) e)
