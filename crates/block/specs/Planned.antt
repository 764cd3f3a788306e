-- Detail: a step planned, before it is put back: on the table without those whom the unit would drop when it settles. That it shows what the step
-- shows, and that putting it back is the step, are the laws `planned_shows` and `planned_lands`.
use Rattle.std.specs.Prelude.{Option, None, Some, cond}
use Rattle.ticket.specs.declared.kinds.CoreNo.{CoreNo}
use Rattle.ticket.specs.declared.kinds.UnitNo.{UnitNo}
use Rattle.parts.specs.Parts.{showing}
use Rattle.parts.specs.declared.answer.Step.{Step}
use Rattle.places.specs.Places.{core_place, unit_place, other_place}
use Rattle.refusals.specs.Tickets.{asked}
use Rattle.settling.specs.Best.{Best}
use Rattle.settling.specs.InFront.{present, dropped_before}
use Rattle.settling.specs.Line.{next}
use Rattle.settling.specs.Shown.{shown_as}
use Rattle.plan.specs.Plan.{part, part_of, plan_step}
use Rattle.plan.specs.declared.planning.Part.{Part}
use Rattle.block.specs.Table.{core_of, unit_of, register_of}
use Rattle.block.specs.Settle.{with_dropping}
use Rattle.block.specs.Skipping.{first_of, skips, skipped}
use Rattle.block.specs.Steps.{late}
use Rattle.block.specs.declared.table.Table.{Table}
use Rattle.block.specs.declared.planned.Planned.{Planned}

-- who is in front once those who are away are dropped, if they are before the step
abbrev pub front_of : Table → Step → Option Best
front_of t s = let n = t.counts.cores in cond (skips t s) (Some (next n (present n (unit_of t (first_of t s)) t.cores))) None

-- what a step of core k reads of unit u
abbrev pub read_of : Table → UnitNo → CoreNo → Option Best → Part
read_of t u k None = part_of k.0 (unit_of t u.0)
read_of t u k (Some b) = part (register_of t u.0 k.0) (shown_as b (unit_of t u.0).next.held)

-- the table with those before it dropped there
abbrev pub without : Table → UnitNo → Option Best → Table
without t u None = t
without t u (Some b) = let x = unit_of t u.0 in with_dropping t u.0 (dropped_before t.counts.cores b (showing x (shown_as b x.next.held)) t.cores)

unfoldable pub planned : Table → Step → Planned
planned t s =
    let w = skipped t s in
    let k = core_place s in
    let c = core_of w k.0 in
    let i = unit_place s c in
    let j = other_place s c in
    record {
      step = s;
      plan = plan_step s t.counts t.counter (asked s c (late w)) c (part_of k.0 (unit_of w i.0)) (part_of k.0 (unit_of w j.0));
      core = k;
      first = i;
      second = j;
      front = front_of t s;
    }
