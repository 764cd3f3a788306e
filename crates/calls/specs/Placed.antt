-- Detail: the next line by its place in the script, as the code reads it. That this is the walk's turn is the law `turned_placed`.
use Rattle.std.specs.Prelude.{ℕ, ◌+◌, true, cond, List, ◌⊎◌, length}
use Rattle.std.proofs.Common.{inl, inr}
use Rattle.building.specs.Build.{build}
use Rattle.block.specs.Sound.{sound}
use Rattle.block.specs.Steps.{step}
use Rattle.parts.specs.declared.answer.Step.{Step}
use Rattle.block.specs.declared.table.Table.{Table}
use Rattle.headers.specs.Header.{read_header}
use Rattle.digits.specs.Text.{pasted}
use Rattle.digits.specs.Room.{fits}
use Rattle.expected.specs.Expected.{expected_bytes}
use Rattle.writing.specs.Writing.{output_header}
use Rattle.headers.specs.HeaderLine.{HeaderLine, Header, BadHeader as NoHeader, Unfinished as CutHeader}
use Rattle.stops.specs.Todo.{Todo, Work, Stop as Halt}
use Rattle.stops.specs.declared.run.Run.{Run}
use Rattle.stops.specs.declared.run.Stop.{Stop}
use Rattle.stops.specs.declared.run.Stop.TheVariants.{BadHeader, Unfinished, NoRoom}
use Rattle.stops.specs.declared.run.Stopped.{Stopped}
use Rattle.stops.specs.Due.{due}
use Rattle.walks.specs.Walk.{Desk}
use Rattle.calls.specs.Call.{Known, desk_of}

-- the run on a table, after a line
abbrev pub run_at : ℕ → ℕ → Table → ℕ → Run
run_at place wrote t steps = record { place = place; wrote = wrote; table = t; steps = steps; headed = true }

abbrev pub stopped_at : ℕ → ℕ → Table → ℕ → Stop → Stopped
stopped_at place wrote t steps why = record { run = run_at place wrote t steps; why = why }

-- an output line is written if it fits whole, 23 otherwise; after it the run stands at `next` with the table t
abbrev pub answered : Run → List ℕ → List ℕ → ℕ → Table → ℕ → Desk Known ⊎ Stop
answered r out xs next t steps =
    cond (fits out r.wrote xs) (inl (desk_of (run_at next (r.wrote + length xs) t steps) (pasted out r.wrote xs))) (inr NoRoom)

abbrev pub stepped : Run → List ℕ → Step → ℕ → Desk Known ⊎ Stop
stepped r out x next =
    let y = step r.table x in
    answered r out (expected_bytes (r.steps + 1) y.answer y.ticket y.grants) next y.table (r.steps + 1)

abbrev pub worked : Run → List ℕ → Todo → Desk Known ⊎ Stop
worked r out w = elim w [ Work x next ↦ stepped r out x next | Halt why ↦ inr why ]

abbrev pub opening : Run → List ℕ → HeaderLine → Desk Known ⊎ Stop
opening r out (Header c n next) = answered r out (output_header c n) next (build c n).table r.steps
opening r out NoHeader = inr BadHeader
opening r out CutHeader = inr Unfinished

-- the next line: the desk after it, or why the run stops there
abbrev pub placed : Run → List ℕ → List ℕ → Desk Known ⊎ Stop
placed r out s =
    cond r.headed (worked r out (due s r.place r.steps (sound r.table))) (opening r out (read_header s r.place))
