-- A line is put whole where it fits, and otherwise not at all: "Writing one gives 20 for a header out of range, then 23."
use Rattle.std.specs.Prelude.{ℕ, ◌+◌, Bool, cond, List, leb, length}
use Rattle.digits.specs.Text.{pasted}
use Rattle.digits.specs.Written.{Written}
use Rattle.digits.specs.Written.{Next, OutOfRange, NoRoom}

abbrev pub fits : List ℕ → ℕ → List ℕ → Bool
fits out at xs = leb (at + length xs) (length out)

-- 23, or the place after the line; and what the output holds then
abbrev pub wrote : List ℕ → ℕ → List ℕ → Written
wrote out at xs = cond (fits out at xs) (Next (at + length xs)) NoRoom

abbrev pub left : List ℕ → ℕ → List ℕ → List ℕ
left out at xs = cond (fits out at xs) (pasted out at xs) out

-- Document 01's numbers: of an answer; and which is due, 20 before 23

abbrev pub written_number : Written → ℕ
written_number w = elim w [ Next at ↦ 0 | OutOfRange ↦ 20 | NoRoom ↦ 23 ]

abbrev pub write_number : Bool → List ℕ → ℕ → List ℕ → ℕ
write_number ranged out at xs = cond ranged (cond (fits out at xs) 0 23) 20
