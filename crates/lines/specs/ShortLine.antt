-- Detail: a step line whose numbers have one digit each, of four bytes or of six, is read without looking for its end.
use Rattle.std.specs.Prelude.{ℕ, ◌+◌, ◌-◌, Bool, cond, ◌&&◌, List, eqb, leb, ltb, length, get_or}
use Rattle.parts.specs.Parts.{core_no, unit_no}
use Rattle.numbers.specs.Bytes.{tab, end}
use Rattle.lines.specs.Short.{Short, One, Two, Other}

-- whether a byte is a digit
abbrev pub digit : ℕ → Bool
digit b = leb 48 b && leb b 57

-- a line that is not the shortest, with its first number k: another number of one digit, and the end
abbrev pub short_two : List ℕ → ℕ → ℕ → Short
short_two s at k =
    let u : ℕ = get_or s (at + 4) 0 in
    cond (eqb (get_or s (at + 3) 0) tab && digit u && eqb (get_or s (at + 5) 0) end) (Two (get_or s at 0) (core_no k) (unit_no (u - 48))) Other

-- the letter, a tab, and a number of one digit
abbrev pub short_one : List ℕ → ℕ → Short
short_one s at =
    let k : ℕ = get_or s (at + 2) 0 in
    cond
    (eqb (get_or s (at + 1) 0) tab && digit k)
    (cond (eqb (get_or s (at + 3) 0) end) (One (get_or s at 0) (core_no (k - 48))) (short_two s at (k - 48)))
    Other

-- what a line is, if six bytes or more are left
abbrev pub short_line : List ℕ → ℕ → Short
short_line s at = cond (ltb (length s - at) 6) Other (short_one s at)
