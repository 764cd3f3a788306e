-- Every row of the table computes: antt runs the definitions on the row's numbers. Steps are computed by their plans (laws: Planned), from tables that are
-- known to be sound.
use Prim.Native.Nat.{ℕ, zero, suc, ◌<◌}
use mathlib.Core.Bool.{true}
use mathlib.Core.Path.{◌≡◌, refl, ◌∙◌, ap}
use native.Mathlib.Omega.{arith}
use lib.ListN.{length, replicate}
use Rattle.ticket.specs.Kinds.{ticket}
use Rattle.ticket.specs.Order.{behind, compare, after}
use Rattle.parts.specs.Fold.{up_to}
use Rattle.parts.specs.Parts.{core_no, unit_no}
use Rattle.parts.specs.Answer.{number_of}
use Rattle.parts.specs.declared.answer.Step.{Step}
use Rattle.parts.specs.declared.answer.Step.TheVariants.{R}
use Rattle.plan.specs.Plan.{plan_step}
use Rattle.building.specs.Build.{fresh, least}
use Rattle.block.specs.Sound.{recent}
use Rattle.block.specs.Steps.{step}
use Rattle.block.specs.Table.{core_of, with_counter_lem}
use Rattle.block.specs.declared.stepped.Stepped.{Stepped}
use Rattle.block.specs.declared.table.Table.{Table}
use Rattle.laws.proofs.Keeping.{counter_sound}
use Rattle.laws.proofs.Planned.{Fine, fine_fresh, planned, step_planned_lem, planned_fine}
use Rattle.numbers.specs.Number.{scan, digits}
use Rattle.lines.specs.Reading.{ending}
use Rattle.stops.specs.Run.{beginning}
use Rattle.walks.specs.Walk.{lines}
use Rattle.calls.specs.Call.{output}
use Rattle.room.proofs.Planned.{call_planned_lem}
use Rattle.vectors.specs.Table.{script, columns, table, two, request_at, Filled, Every}

-- The rows of a request, with ticket 0 live.

abbrev first : Table
first = fresh two (ticket 0)

abbrev live : Table
live = (planned first (R (core_no 0) (unit_no 0))).table

first_fine : Fine first
first_fine = fine_fresh two (ticket 0) refl

live_fine : Fine live
live_fine = planned_fine first (R (core_no 0) (unit_no 0)) first_fine

abbrev second : Step
second = R (core_no 1) (unit_no 0)

requested :
    (counter : ℕ) →
    recent (with_counter_lem live (ticket counter)) (core_of live 0) ≡ true →
    request_at counter ≡ number_of (planned (with_counter_lem live (ticket counter)) second).answer
unfolding request_at behind compare after up_to plan_step
requested counter ahead =
    let ok = counter_sound live (ticket counter) live_fine.1 each in
    let shaped = live_fine.0 in
    ap (λ (x : Stepped). number_of (step (with_counter_lem x.table (ticket counter)) second).answer)
    (step_planned_lem first (R (core_no 0) (unit_no 0)) first_fine.0 first_fine.1) ∙
    ap (λ (x : Stepped). number_of x.answer)
    (step_planned_lem (with_counter_lem live (ticket counter)) second
    (record { cores_long = shaped.cores_long; units_long = shaped.units_long; registers_long = shaped.registers_long })
    ok)
  where
    each : (k : ℕ) → k < live.counts.cores → recent (with_counter_lem live (ticket counter)) (core_of live k) ≡ true
    each zero h = ahead
    each (suc zero) h = refl
    each (suc (suc k)) h = absurd (omega (arith, h))

-- The run.

filled : Filled script columns
unfolding behind compare after up_to plan_step lines ending scan digits
filled =
    let is =
    call_planned_lem beginning script (replicate (length columns) 0) (fine_fresh least (ticket 0) refl)
    in
    (ap (λ (e : _). e.why) is, ap (λ (e : _). e.desk.first.wrote) is, ap output is)

pub every_row : Every table
unfolding behind compare after up_to plan_step
every_row =
    let done = requested 32767 refl in
    let stretched = requested 32768 refl in
    (refl, (refl, (refl, (refl, (refl, (refl, (refl, (refl, (refl, (refl, (refl, (refl, (done, (stretched, (filled, tt)))))))))))))))
