-- A line has a fault exactly where the reader refuses it: 21 for a step line and a log's, 20 for a header.
use Rattle.std.specs.Prelude.{ℕ, ◌-◌, List, ◌≡◌, eqb, take, drop}
use Rattle.std.proofs.Common.{⊎_elim}
use Rattle.lines.specs.Reading.{ending, step_number}
use Rattle.lines.specs.Ending.{At, Long, Short}
use Rattle.headers.specs.Header.{header_number}
use Rattle.loglines.specs.Log.{log_most, Shown, parse_log}
use Rattle.faults.specs.Fault.{wrong, fault_at}
use Rattle.faults.specs.declared.fault.Form.TheVariants.{Script, Log, Header}

abbrev pub StepFaults : Type 0
StepFaults = (s : List ℕ) (at : ℕ) → wrong (fault_at Script s at) ≡ eqb (step_number s at) 21

abbrev pub HeaderFaults : Type 0
HeaderFaults = (s : List ℕ) (at : ℕ) → wrong (fault_at Header s at) ≡ eqb (header_number s at) 20

-- the log's line at a place, before it is held to the rules: 21, or 22 where it is not finished
abbrev pub log_line_number : List ℕ → ℕ → ℕ
log_line_number s at =
    elim (ending log_most at (drop at s)) [ At e ↦ ⊎_elim (λ (x : Shown). 0) (λ (x : Unit {0}). 21) (parse_log (take (e - at) (drop at s))) | Long ↦ 21 | Short ↦ 22 ]

abbrev pub LogFaults : Type 0
LogFaults = (s : List ℕ) (at : ℕ) → wrong (fault_at Log s at) ≡ eqb (log_line_number s at) 21
