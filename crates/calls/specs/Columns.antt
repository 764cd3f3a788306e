-- What a call writes: a line for each step line that it read, numbered on from the steps done, with what that step answers, each behind
-- the one before it; ahead of them the header's, where that was still to be read.
use Rattle.std.specs.Prelude.{ℕ, List, [], ◌∷◌, ◌++◌, ◌≡◌, length, drop}
use Rattle.ticket.specs.declared.kinds.Ticket.{Ticket}
use Rattle.block.specs.Over.{last_place}
use Rattle.parts.specs.declared.answer.Step.{Step}
use Rattle.parts.specs.declared.kinds.Counts.{Counts}
use Rattle.writing.specs.Writing.{step_bytes, script_header}
use Rattle.walks.specs.Walk.{Desk, replied}
use Rattle.calls.specs.Call.{Known, step_reply, header_reply}

-- the lines of steps, one after another
unfoldable pub script : List Step → List ℕ
script [] = []
script (x ∷ xs) = step_bytes x ++ script xs

-- the desk after a step's line, and after the header's
abbrev pub step_worked : Desk Known → Step → Desk Known
step_worked d x = replied d (step_reply d.state x (length (step_bytes x)))

abbrev pub header_worked : Desk Known → Counts → Ticket → Desk Known
header_worked d c n = replied d (header_reply d.state c n (length (script_header c n)))

-- from a place of the script s on stand these bytes and the lines of steps, and the desk e is d after those steps
pub record Columned (s : List ℕ) (place : ℕ) (opening : List ℕ) (d e : Desk Known) : Type 0 where
  pub worked : List Step
  pub read : drop place s ≡ opening ++ (script worked ++ drop e.place s)
  pub wrote : e ≡ last_place step_worked d worked
