-- One call of the translation, which is a walk. "Header order: 22, 20, 23. Step line order: finished, 24, 22, 21, 16, 23. Refusals 16 and 20
-- to 24 stop the run at the start of that line: complete output lines stand, all further output bytes and the table are unchanged. Refusals
-- 10 to 15 are expected answers; the run goes on."
use Rattle.std.specs.Prelude.{ℕ, ◌+◌, Bool, true, cond, List, [], ◌⊎◌}
use Rattle.std.proofs.Common.{inl, inr}
use Rattle.ticket.specs.declared.kinds.Ticket.{Ticket}
use Rattle.building.specs.Build.{build}
use Rattle.block.specs.Sound.{sound}
use Rattle.block.specs.Steps.{step}
use Rattle.parts.specs.declared.answer.Step.{Step}
use Rattle.parts.specs.declared.kinds.Counts.{Counts}
use Rattle.block.specs.declared.table.Table.{Table}
use Rattle.headers.specs.Header.{read_header}
use Rattle.expected.specs.Expected.{expected_bytes}
use Rattle.writing.specs.Writing.{output_header}
use Rattle.headers.specs.HeaderLine.{HeaderLine, Header, BadHeader as NoHeader, Unfinished as CutHeader}
use Rattle.stops.specs.Todo.{Todo, Work, Stop as Halt}
use Rattle.stops.specs.declared.run.Run.{Run}
use Rattle.stops.specs.declared.run.Stop.{Stop}
use Rattle.stops.specs.declared.run.Stop.TheVariants.{BadHeader, Unfinished, NoRoom}
use Rattle.stops.specs.declared.run.Stopped.{Stopped}
use Rattle.stops.specs.Due.{due}
use Rattle.walks.specs.Walk.{Reply, Turn, Desk, Ended, walked}
use Rattle.walks.specs.Pieces.{lent}

-- what is known between lines: whether the header is read, the table, and how many steps are done
pub record Known : Type 0 where
  pub headed : Bool
  pub table : Table
  pub steps : ℕ

-- after the header
abbrev pub working : Table → ℕ → Known
working t steps = record { headed = true; table = t; steps = steps }

-- a step's line, of so many bytes: its number, and what the step answers
abbrev pub step_reply : Known → Step → ℕ → Reply Known
step_reply q x used =
    let y = step q.table x in
    let n = q.steps + 1 in
    record { used = used; said = expected_bytes n y.answer y.ticket y.grants; also = []; then = working y.table n }

-- the header's line, and the fresh table
abbrev pub header_reply : Known → Counts → Ticket → ℕ → Reply Known
header_reply q c n used = record { used = used; said = output_header c n; also = []; then = working (build c n).table q.steps }

-- what a line asks for, or why the run stops there whatever the room
abbrev pub step_asked : Known → Todo → Reply Known ⊎ Stop
step_asked q w = elim w [ Work x used ↦ inl (step_reply q x used) | Halt why ↦ inr why ]

abbrev pub header_asked : Known → HeaderLine → Reply Known ⊎ Stop
header_asked q l = elim l [ Header c n used ↦ inl (header_reply q c n used) | NoHeader ↦ inr BadHeader | CutHeader ↦ inr Unfinished ]

-- the turn: the first line of the bytes that are left; 23 where its answer does not fit
abbrev pub asked : Known → List ℕ → Reply Known ⊎ Stop
asked q s = cond q.headed (step_asked q (due s 0 q.steps (sound q.table))) (header_asked q (read_header s 0))

abbrev pub translation : Turn Known Stop
translation = record { ask = asked; full = NoRoom }

-- what a run knows; its desk with an output, and the run of a desk
abbrev pub known : Run → Known
known r = record { headed = r.headed; table = r.table; steps = r.steps }

abbrev pub desk_of : Run → List ℕ → Desk Known
desk_of r out = record { state = known r; place = r.place; first = record { bytes = out; wrote = r.wrote }; second = lent [] }

abbrev pub run_of : Desk Known → Run
run_of d = record { place = d.place; wrote = d.first.wrote; table = d.state.table; steps = d.state.steps; headed = d.state.headed }

-- the call; what it hands back, and what it leaves in the output
abbrev pub call : Run → List ℕ → List ℕ → Ended Known Stop
call r s out = walked translation (desk_of r out) s

abbrev pub stopped : Ended Known Stop → Stopped
stopped e = record { run = run_of e.desk; why = e.why }

abbrev pub output : Ended Known Stop → List ℕ
output e = e.desk.first.bytes
