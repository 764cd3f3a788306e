-- The number that the answer carries, by the tests it comes from: 0 where nothing is left, then 22 and 21 by the line's end and its bytes.
use Prim.Native.Nat.{ℕ, ◌+◌, ◌-◌}
use mathlib.Core.Bool.{Bool, true, false, cond}
use mathlib.Core.List.{List}
use mathlib.Core.Path.{◌≡◌, refl}
use lib.Dec.{leb}
use lib.ListN.{length, take, drop}
use Rattle.lines.specs.Reading.{line_end_lem, parse_step_lem, step_line_lem, read_step, step_line_number, step_number}
use Rattle.lines.specs.Ending.{Ending, At, Long, Short}
use Rattle.lines.specs.Parsed.{Parsed, Good, Not}
use Rattle.lines.specs.StepLine.{Finished}
use Rattle.lines.proofs.Turns.{step_to}

parsed_number : (p : Parsed) (next : ℕ) → step_line_number (step_line_lem p next) ≡ elim p [ Good x ↦ 0 | Not ↦ 21 ]
parsed_number (Good x) next = refl
parsed_number Not next = refl

-- the number by where the line ends
abbrev due_to : List ℕ → ℕ → Ending → ℕ
due_to s at found = elim found [ At e ↦ elim (parse_step_lem (take (e - at) (drop at s))) [ Good x ↦ 0 | Not ↦ 21 ] | Long ↦ 21 | Short ↦ 22 ]

ended_number : (s : List ℕ) (at : ℕ) (found : Ending) → step_line_number (step_to s at found) ≡ due_to s at found
ended_number s at (At e) = parsed_number (parse_step_lem (take (e - at) (drop at s))) (e + 1)
ended_number s at Long = refl
ended_number s at Short = refl

pub step_number_lem : (s : List ℕ) (at : ℕ) → step_line_number (read_step s at) ≡ step_number s at
step_number_lem s at = go (leb (length s) at)
  where
    go :
        (b : Bool) →
        step_line_number (cond b Finished (step_to s at (line_end_lem s at))) ≡ cond b 0 (due_to s at (line_end_lem s at))
    go true = refl
    go false = ended_number s at (line_end_lem s at)
