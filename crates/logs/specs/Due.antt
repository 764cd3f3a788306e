-- Detail: a line at its place in the log, as the code goes about it: its step is read first, and the numbers behind it are held to the rules when
-- the step is planned.
use Rattle.std.specs.Prelude.{ℕ, ◌+◌, ◌-◌, ◌<◌, cond, List, ◌≡◌, leb, length, take, drop}
use Rattle.parts.specs.declared.answer.Step.{Step}
use Rattle.block.specs.declared.table.Table.{Table}
use Rattle.lines.specs.Reading.{ending}
use Rattle.lines.specs.Ending.{Ending}
use Rattle.lines.specs.Ending.{At, Long, Short}
use Rattle.stops.specs.Run.{steps_most}
use Rattle.stops.specs.declared.run.Stop.{Stop}
use Rattle.stops.specs.declared.run.Stop.TheVariants.{Finished, Unsound, Malformed, Unfinished, TooMany}
use Rattle.calls.specs.Placed.{run_at}
use Rattle.loglines.specs.Log.{log_most}
use Rattle.loglines.specs.Parts.{part_in, rest_from, are_numbers, judged_in}
use Rattle.loglines.specs.Quick.{StandsAt}
use Rattle.logs.specs.declared.call.LogStop.{LogStop}
use Rattle.logs.specs.declared.call.LogStop.TheVariants.{Plain, Disagrees}
use Rattle.logs.specs.declared.call.Checked.{Checked}
use Rattle.logs.specs.declared.call.Rest.{Rest}
use Rattle.logs.specs.declared.call.Behind.{Behind}
use Rattle.logs.specs.declared.call.Behind.TheVariants.{Quick, Full}
use Rattle.loglines.specs.declared.line.Mismatch.{Mismatch}
use Rattle.loglines.specs.declared.line.Mismatch.TheVariants as mismatch
use Rattle.std.specs.Prelude.{Result, Ok, Err}
use Rattle.loglines.specs.Parts.{Part}
use Rattle.loglines.specs.Parts.{Begins, Not}
use Rattle.loglines.specs.Parts.{Judged}
use Rattle.loglines.specs.Parts.{Malformed as NoNumber, Disagrees as IsOff, Agrees as AllGiven}

-- the line from a place up to its end, without it
abbrev pub line_in : List ℕ → ℕ → ℕ → List ℕ
line_in s place e = take (e - place) (drop place s)

-- what is due at a place: a step, and where its numbers stand; or why the run stops
abbrev pub Due : Type 0
Due = Result (Step × Behind) Stop

pattern abbrev pub Work : Step → Behind → Due
Work x b = Ok (x, b)

pattern abbrev pub Halt : Stop → Due
Halt why = Err why

-- the same, read in full
abbrev pub PlainDue : Type 0
PlainDue = Result (Step × Rest) Stop

pattern abbrev pub Reading : Step → Rest → PlainDue
Reading x r = Ok (x, r)

pattern abbrev pub Unread : Stop → PlainDue
Unread why = Err why

abbrev pub fully : PlainDue → Due
fully d = elim d [ Reading x r ↦ Work x (Full r) | Unread why ↦ Halt why ]

-- what a line comes to: it agrees, and the next one starts there; or why the run stops
abbrev pub Met : Type 0
Met = Result ℕ LogStop

pattern abbrev pub Agrees : ℕ → Met
Agrees next = Ok next

pattern abbrev pub Stops : LogStop → Met
Stops why = Err why

-- the step that is due, read in full
abbrev pub part_due : Part → ℕ → PlainDue
part_due p end = elim p [ Begins x n from ↦ Reading x (record { numbers = n; from = from; end = end }) | Not ↦ Unread Malformed ]

abbrev pub end_due : List ℕ → ℕ → Ending → PlainDue
end_due s place found = elim found [ At e ↦ part_due (part_in (line_in s place e)) e | Long ↦ Unread Malformed | Short ↦ Unread Unfinished ]

-- the line's end, or why the run stops
abbrev pub end_found : Ending → Result ℕ Stop
end_found found = elim found [ At e ↦ Ok e | Long ↦ Err Malformed | Short ↦ Err Unfinished ]

abbrev pub plain_due : List ℕ → ℕ → PlainDue
plain_due s place = end_due s place (ending log_most place (drop place s))

abbrev pub full_due : List ℕ → ℕ → ℕ → Due
full_due s place steps = cond (leb (length s) place) (Halt Finished) (cond (leb steps_most steps) (Halt TooMany) (fully (plain_due s place)))

-- what is known of the line whose step is answered: quickly read the step stands there, and else it is what is read in full
abbrev pub Reads : List ℕ → ℕ → Step → Behind → Type 0
Reads s place x b = elim b [ Quick from ↦ StandsAt s place x from | Full r ↦ plain_due s place ≡ Reading x r ]

-- a step that is due stands within the log, in time
pub record Timely (s : List ℕ) (place steps : ℕ) (x : Step) (b : Behind) : Type 0 where
  pub more : place < length s
  pub early : steps < steps_most
  pub reads : Reads s place x b

abbrev pub DueSays : List ℕ → ℕ → ℕ → Due → Type 0
DueSays s place steps d = elim d [ Work x b ↦ Timely s place steps x b | Halt why ↦ full_due s place steps ≡ Halt why ]

-- the step of some line
abbrev pub Follows : List ℕ → ℕ → Behind → Type 0
Follows s place b = (x : Step) × Reads s place x b

-- what a line comes to, when the rules give gs for its step
abbrev pub met_by : Judged → ℕ → Met
met_by j end = elim j [ NoNumber ↦ Stops (Plain Malformed) | IsOff o ↦ Stops (Disagrees o) | AllGiven ↦ Agrees (end + 1) ]

abbrev pub mismatch_stop : Mismatch → LogStop
mismatch_stop m = elim m [ mismatch.Malformed ↦ Plain Malformed | mismatch.Disagrees o ↦ Disagrees o ]

abbrev pub due_met : List ℕ → ℕ → List ℕ → PlainDue → Met
due_met s place gs d =
    elim d [ Reading x r ↦ met_by (judged_in (line_in s place r.end) r.numbers r.from gs) r.end | Unread why ↦ Stops (Plain why) ]

abbrev pub plain_met : List ℕ → ℕ → List ℕ → Met
plain_met s place gs = due_met s place gs (plain_due s place)

-- a line on a table that is not sound: 21, or 16
abbrev pub unfit_part : List ℕ → Part → Stop
unfit_part s p = elim p [ Begins x n from ↦ cond (are_numbers (rest_from s from)) Unsound Malformed | Not ↦ Malformed ]

-- why a run on such a table stops: finished, 24, 22, and that
abbrev pub unfit_stop : List ℕ → ℕ → ℕ → Stop
unfit_stop s place steps =
    cond (leb (length s) place) Finished
    (cond (leb steps_most steps) TooMany
    (elim (ending log_most place (drop place s)) [ At e ↦ unfit_part (line_in s place e) (part_in (line_in s place e)) | Long ↦ Malformed | Short ↦ Unfinished ]))

-- the run stopped, with its table
abbrev pub stopped_at : ℕ → ℕ → Table → ℕ → LogStop → Checked
stopped_at place wrote t steps why = record { run = run_at place wrote t steps; why = why }
