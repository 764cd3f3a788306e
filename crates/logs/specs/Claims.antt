-- The log of a part that keeps the rules is accepted, whatever its steps are.
use Rattle.std.specs.Prelude.{ℕ, zero, suc, ◌≤◌, true, cond, List, [], ◌∷◌, ◌++◌, ◌≡◌, eqb, length}
use Rattle.ticket.specs.declared.kinds.Ticket.{Ticket}
use Rattle.parts.specs.Range.{in_range}
use Rattle.parts.specs.declared.answer.Step.{Step}
use Rattle.parts.specs.declared.kinds.Counts.{Counts}
use Rattle.block.specs.Over.{over, last_place}
use Rattle.block.specs.Steps.{step}
use Rattle.block.specs.declared.stepped.Stepped.{Stepped}
use Rattle.block.specs.declared.table.Table.{Table}
use Rattle.building.specs.Build.{build}
use Rattle.numbers.specs.Bytes.{tab, end}
use Rattle.numbers.specs.Number.{number_most}
use Rattle.lines.specs.Bytes.{letter_of}
use Rattle.writing.specs.Writing.{fields, numbers_of, script_header}
use Rattle.writing.specs.Claims.{Small}
use Rattle.stops.specs.Run.{steps_most, beginning}
use Rattle.stops.specs.declared.run.Stop.TheVariants.{Finished}
use Rattle.walks.specs.Walk.{Steady, Ended}
use Rattle.walks.specs.Pieces.{written}
use Rattle.calls.specs.Call.{Known, working, call}
use Rattle.logs.specs.Checking.{given, checking, check_call}
use Rattle.logs.specs.declared.call.LogStop.{LogStop}
use Rattle.logs.specs.declared.call.LogStop.TheVariants.{Plain}

-- a line that agrees is used up to its end, and agrees whatever follows: so a log in pieces is answered as in one, as every walk is
abbrev pub SteadyChecking : Type 0
SteadyChecking = Steady checking

-- the log line that a part shows for a step
abbrev pub log_bytes : Step → Stepped → List ℕ
log_bytes x y = letter_of x ∷ fields (numbers_of x ++ given y)

-- the lines that the rules give for steps, one after another, and the table after them
abbrev pub steps_log : Table → List Step → List ℕ
steps_log t xs = over (λ q x. (step q x).table) (λ q. []) (λ q x later. log_bytes x (step q x) ++ later) t xs

abbrev pub table_after : Table → List Step → Table
table_after t xs = last_place (λ q x. (step q x).table) t xs

abbrev pub log_of : Counts → Ticket → List Step → List ℕ
log_of c n xs = script_header c n ++ steps_log (build c n).table xs

-- every step's numbers are such that a line can hold
abbrev pub AllSmall : List Step → Type 0
AllSmall [] = Unit {0}
AllSmall (x ∷ xs) = Small (numbers_of x) × AllSmall xs

-- the log is finished, all its bytes are used, and its steps were worked
pub record Accepts (log : List ℕ) (t : Table) (steps : ℕ) (e : Ended Known LogStop) : Type 0 where
  pub why : e.why ≡ Plain Finished
  pub place : e.desk.place ≡ length log
  pub state : e.desk.state ≡ working t steps

abbrev pub Accepted : Type 0
Accepted =
    (c : Counts) (n : Ticket) (xs : List Step) →
    in_range c ≡ true →
    n.0 ≤ number_most →
    AllSmall xs →
    length xs ≤ steps_most →
    let log = log_of c n xs in Accepts log (table_after (build c n).table xs) (length xs) (check_call beginning log)

-- Of the bytes of a script and of what was written for it

-- the bytes up to the first b, and those past it
unfoldable pub until : ℕ → List ℕ → List ℕ
until b [] = []
until b (x ∷ xs) = cond (eqb x b) [] (x ∷ until b xs)

unfoldable pub past : ℕ → List ℕ → List ℕ
past b [] = []
past b (x ∷ xs) = cond (eqb x b) xs (past b xs)

-- n step lines of a script, each with what its line of the output o has past the step's number
unfoldable pub beside : ℕ → List ℕ → List ℕ → List ℕ
beside zero s o = []
beside (suc n) s o = until end s ++ (tab ∷ (until end (past tab o) ++ (end ∷ beside n (past end s) (past end o))))

-- the log: the script's header, and n steps
abbrev pub own_log : ℕ → List ℕ → List ℕ → List ℕ
own_log n s o = until end s ++ (end ∷ beside n (past end s) (past end o))

-- "a log made from our own output is always accepted": of all the steps that a call worked, whatever stopped it after the header
abbrev pub OwnAccepted : Type 0
OwnAccepted =
    (s out : List ℕ) →
    let d = (call beginning s out).desk in
    let log = own_log d.state.steps s (written d.first) in
    d.state.headed ≡ true → Accepts log d.state.table d.state.steps (check_call beginning log)

-- which a call that is finished has read
abbrev pub FinishedHeaded : Type 0
FinishedHeaded = (s out : List ℕ) → let e = call beginning s out in e.why ≡ Finished → e.desk.state.headed ≡ true
