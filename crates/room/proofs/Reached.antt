-- The figures are reached: a run, computed, whose line has as many bytes as the longest, and the header of the largest table. The release of core 0,
-- with the last number that a step can have and ticket 65,535, frees the last unit of each class, for which two cores with numbers of two digits wait.
use Prim.Native.Nat.{ℕ, ◌-◌}
use mathlib.Core.List.{List, [], ◌∷◌}
use mathlib.Core.Path.{◌≡◌, refl, ◌∙◌, ap}
use lib.ListN.{replicate}
use Rattle.ticket.specs.Kinds.{ticket}
use Rattle.ticket.specs.Order.{behind, compare, after}
use Rattle.parts.specs.Fold.{up_to}
use Rattle.parts.specs.Parts.{cores, units, core_no, unit_no}
use Rattle.parts.specs.Range.{per_class}
use Rattle.parts.specs.declared.kinds.Fill.TheVariants.{Blank}
use Rattle.parts.specs.declared.kinds.Profile.TheVariants.{T}
use Rattle.parts.specs.declared.answer.Step.{Step}
use Rattle.parts.specs.declared.answer.Step.TheVariants.{R, N, P}
use Rattle.plan.specs.Plan.{plan_step}
use Rattle.building.specs.Build.{fresh}
use Rattle.block.specs.Over.{over, last_place}
use Rattle.block.specs.Steps.{step}
use Rattle.block.specs.declared.table.Table.{Table}
use Rattle.laws.proofs.Planned.{Fine, fine_fresh, table_planned, last_planned, last_fine}
use Rattle.numbers.specs.Number.{number_most, scan, digits}
use Rattle.lines.specs.Bytes.{line_most}
use Rattle.lines.specs.Reading.{ending}
use Rattle.writing.specs.Writing.{script_header}
use Rattle.expected.specs.Expected.{expected_most}
use Rattle.stops.specs.Run.{steps_most, beginning}
use Rattle.walks.specs.Walk.{lines}
use Rattle.calls.specs.Call.{call}
use Rattle.calls.specs.Placed.{run_at}
use Rattle.room.proofs.Planned.{call_planned_lem}

abbrev last_first : ℕ
last_first = per_class - 1

abbrev last_second : ℕ
last_second = units - 1

-- core 0 holds both units, core 10 waits at the one and core 11 at the other
abbrev before : List Step
before =
    R (core_no 0) (unit_no last_first) ∷
    P (core_no 0) ∷
    N (core_no 0) (unit_no last_second) ∷
    P (core_no 0) ∷
    R (core_no 10) (unit_no last_first) ∷
    R (core_no 11) (unit_no last_second) ∷
    []

abbrev begun : Table
begun = fresh (record { cores = 12; first = per_class; second = per_class; profile = T; fill = Blank }) (ticket number_most)

abbrev held : Table
held = last_place (λ t x. (step t x).table) begun before

begun_fine : Fine begun
begun_fine = fine_fresh (record { cores = 12; first = per_class; second = per_class; profile = T; fill = Blank }) (ticket number_most) refl

-- what the release of core 0, `L 0`, writes on a table
abbrev released : Table → ℕ
released t = (call (run_at 0 0 t (steps_most - 1)) (76 ∷ 9 ∷ 48 ∷ 10 ∷ []) (replicate expected_most 0)).desk.first.wrote

pub line_reached : released held ≡ expected_most
unfolding behind compare after up_to plan_step over lines ending scan digits
line_reached =
    ap released (last_planned begun before begun_fine) ∙
    ap (λ (e : _). e.desk.first.wrote)
    (call_planned_lem (run_at 0 0 (table_planned begun before) (steps_most - 1)) (76 ∷ 9 ∷ 48 ∷ 10 ∷ []) (replicate expected_most 0)
    (last_fine begun before begun_fine))

-- the header of the largest table
abbrev header : List ℕ
header = script_header (record { cores = cores; first = per_class; second = per_class; profile = T; fill = Blank }) (ticket number_most)

pub header_reached : (call beginning header (replicate line_most 0)).desk.first.wrote ≡ line_most
unfolding up_to lines ending scan digits
header_reached = refl
