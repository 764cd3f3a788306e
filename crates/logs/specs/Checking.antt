-- One call of the check, which is a walk that says nothing. "A line is read and judged in this order: finished; 24; 22; 21; 16; 40." "The run stops
-- at that line, the table as before it. All lines before it agreed and were worked."
use Rattle.std.specs.Prelude.{ℕ, ◌+◌, cond, List, [], ◌⊎◌, eqb, leb, length, take}
use Rattle.std.proofs.Common.{inl, inr, ⊎_elim}
use Rattle.building.specs.Build.{build}
use Rattle.block.specs.Sound.{sound}
use Rattle.block.specs.Steps.{step}
use Rattle.block.specs.declared.stepped.Stepped.{Stepped}
use Rattle.lines.specs.Reading.{ending}
use Rattle.lines.specs.Ending.{Ending}
use Rattle.lines.specs.Ending.{At, Long, Short}
use Rattle.headers.specs.Header.{read_header}
use Rattle.headers.specs.HeaderLine.{HeaderLine}
use Rattle.headers.specs.HeaderLine.{Header, BadHeader as NoHeader, Unfinished as CutHeader}
use Rattle.writing.specs.Writing.{numbers_of}
use Rattle.stops.specs.Run.{steps_most, stop_number}
use Rattle.stops.specs.declared.run.Run.{Run}
use Rattle.stops.specs.declared.run.Stop.TheVariants.{Finished, Unsound, BadHeader, Malformed, Unfinished, NoRoom, TooMany}
use Rattle.walks.specs.Walk.{Reply, Turn, Ended, walked}
use Rattle.walks.specs.Pieces.{lent}
use Rattle.calls.specs.Call.{Known, working, known}
use Rattle.loglines.specs.Log.{log_most, Shown, parse_log, given_by, first_off, off_at}
use Rattle.logs.specs.declared.call.LogStop.{LogStop}
use Rattle.logs.specs.declared.call.LogStop.TheVariants.{Plain, Disagrees}
use Rattle.logs.specs.declared.call.Checked.{Checked}

-- "40: line disagrees"; any other stop has the number of a translation's
abbrev pub log_number : LogStop → ℕ
log_number why = elim why [ Plain w ↦ stop_number w | Disagrees o ↦ 40 ]

-- what the rules give for a step
abbrev pub given : Stepped → List ℕ
given y = given_by y.answer y.ticket y.grants

-- a line that agrees is worked; 40 otherwise
abbrev pub agreed : Known → Shown → ℕ → Reply Known ⊎ LogStop
agreed q l used =
    let y = step q.table l.step in
    let off = first_off l.shown (given y) in
    cond (eqb off 0) (inl (record { used = used; said = []; also = []; then = working y.table (q.steps + 1) }))
    (inr (Disagrees (off_at (length (numbers_of l.step)) off l.shown (given y))))

-- 21, then 16, then 40
abbrev pub line_judged : Known → ℕ → Shown ⊎ Unit {0} → Reply Known ⊎ LogStop
line_judged q used l =
    ⊎_elim (λ (x : Shown). cond (sound q.table) (agreed q x used) (inr (Plain Unsound))) (λ (x : Unit {0}). inr (Plain Malformed)) l

-- 22, and 21 where no end is within the longest line
abbrev pub end_judged : Known → List ℕ → Ending → Reply Known ⊎ LogStop
end_judged q s found =
    elim found [ At e ↦ line_judged q (e + 1) (parse_log (take e s)) | Long ↦ inr (Plain Malformed) | Short ↦ inr (Plain Unfinished) ]

-- finished, and 24, before them
abbrev pub step_judged : Known → List ℕ → Reply Known ⊎ LogStop
step_judged q s =
    cond (leb (length s) 0) (inr (Plain Finished)) (cond (leb steps_most q.steps) (inr (Plain TooMany)) (end_judged q s (ending log_most 0 s)))

-- "For the header line: as a script's header"
abbrev pub header_judged : Known → HeaderLine → Reply Known ⊎ LogStop
header_judged q l =
    elim l [
      | Header c n used ↦ inl (record { used = used; said = []; also = []; then = working (build c n).table q.steps })
      | NoHeader ↦ inr (Plain BadHeader)
      | CutHeader ↦ inr (Plain Unfinished)
    ]

abbrev pub checking : Turn Known LogStop
checking = record { ask = λ q s. cond q.headed (step_judged q s) (header_judged q (read_header s 0)); full = Plain NoRoom }

-- the call, which has no output, and what it hands back; the run's place in an output stays as it is
abbrev pub check_call : Run → List ℕ → Ended Known LogStop
check_call r s = walked checking (record { state = known r; place = r.place; first = lent []; second = lent [] }) s

abbrev pub checked : Run → Ended Known LogStop → Checked
checked r e =
    let q = e.desk.state in
    record { run = record { place = e.desk.place; wrote = r.wrote; table = q.table; steps = q.steps; headed = q.headed }; why = e.why }
