-- A step by the calls that work it: its places lie in the arrays, and the plan of what is read there, put back, is the step.
use Prim.Native.Nat.{◌≤◌, ◌<◌}
use mathlib.Core.Bool.{Bool, true, false}
use mathlib.Core.Path.{◌≡◌, sym, ◌∙◌, ap, subst}
use Rattle.ticket.specs.declared.kinds.CoreNo.{CoreNo}
use Rattle.ticket.specs.declared.kinds.Ticket.{Ticket}
use Rattle.ticket.specs.declared.kinds.UnitNo.{UnitNo}
use Rattle.parts.specs.Parts.{cores, units}
use Rattle.parts.specs.declared.kinds.Core.{Core}
use Rattle.parts.specs.declared.kinds.Counts.{Counts}
use Rattle.parts.specs.declared.answer.Step.{Step}
use Rattle.places.specs.Places.{core_place, unit_place, other_place}
use Rattle.refusals.specs.Tickets.{asked}
use Rattle.settling.specs.Line.{Within}
use Rattle.plan.specs.Plan.{part_of, plan_step}
use Rattle.plan.specs.declared.planning.Part.{Part}
use Rattle.plan.specs.declared.planning.Plan.{Plan}
use Rattle.plan.proofs.Deciding.{winners_within, plan_asked}
use Rattle.block.specs.Table.{core_of, unit_of, Shaped}
use Rattle.block.specs.Sound.{sound}
use Rattle.block.specs.Steps.{late, on_sound}
use Rattle.block.specs.PutBack.{put_back}
use Rattle.block.specs.Skipping.{skips}
use Rattle.block.specs.declared.table.Table.{Table}
use Rattle.block.specs.declared.stepped.Stepped.{Stepped}
use Rattle.parts.proofs.Ranging.{cores_few}
use Rattle.places.proofs.Placing.{core_place_within, unit_place_within, other_place_within}
use Rattle.block.proofs.Parts.{parts}
use Rattle.block.proofs.ByParts.{by_parts}
use Rattle.block.proofs.Presence.{moves_present}

pub core_in : (s : Step) (k : CoreNo) → k ≡ core_place s → k.0 < cores
core_in s k e = rw e (core_place_within s)

pub unit_in_lem : (s : Step) (c : Core) (u : UnitNo) → u ≡ unit_place s c → u.0 < units
unit_in_lem s c u e = rw e (unit_place_within s c)

pub other_in : (s : Step) (c : Core) (u : UnitNo) → u ≡ other_place s c → u.0 < units
other_in s c u e = rw e (other_place_within s c)

pub counted : (t : Table) → sound t ≡ true → t.counts.cores ≤ cores
counted t ok = cores_few t.counts (parts t ok).counts

-- what a plan grants goes to cores of the table
pub granted_in :
    (s : Step) (n : Counts) (m : Ticket) (late : Bool) (c : Core) (x y : Part) (p : Plan) →
    p ≡ plan_step s n m late c x y →
    Within p.first.winner × Within p.second.winner
granted_in s n m late c x y p e =
    subst (λ (q : Plan). Within q.first.winner × Within q.second.winner) (sym e) (winners_within s n m late c x y)

pub in_place :
    (t : Table) (s : Step) (k : CoreNo) (i j : UnitNo) (x y : Part) (b : Bool) (p : Plan) (r : Stepped) →
    Shaped t →
    (sound t ≡ true) × (skips t s ≡ false) →
    k ≡ core_place s →
    i ≡ unit_place s (core_of t k.0) →
    j ≡ other_place s (core_of t k.0) →
    x ≡ part_of k.0 (unit_of t i.0) →
    y ≡ part_of k.0 (unit_of t j.0) →
    b ≡ asked s (core_of t k.0) (late t) →
    p ≡ plan_step s t.counts t.counter b (core_of t k.0) x y →
    r ≡ put_back t k i j p →
    r ≡ on_sound t s
in_place t s k i j x y b p r shaped ok ek ei ej ex ey eb ep er =
    let so = ep ∙ ap (λ (b : Bool). plan_step s t.counts t.counter b (core_of t k.0) x y) eb ∙ plan_asked s t.counts t.counter (late t) (core_of t k.0) x y in
    er ∙ rw (so, ey, ex, ej, ei, ek) (by_parts t s shaped ok.0 (λ may. moves_present t s shaped ok.0 may ok.1))
