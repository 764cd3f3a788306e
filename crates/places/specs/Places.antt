-- Detail: the places that a step reads and writes, its core and the one or two units that it touches.
use Rattle.std.specs.Prelude.{cond, ltb}
use Rattle.ticket.specs.declared.kinds.CoreNo.{CoreNo}
use Rattle.ticket.specs.declared.kinds.UnitNo.{UnitNo}
use Rattle.parts.specs.State.{two_stage_lem}
use Rattle.parts.specs.Answer.{whose}
use Rattle.parts.specs.Parts.{cores, units, core_no, unit_no}
use Rattle.parts.specs.declared.kinds.Core.{Core}
use Rattle.parts.specs.declared.answer.Step.{Step}
use Rattle.parts.specs.declared.answer.Step.TheVariants.{R, N, P, I, C, L}

-- places in the arrays; a number past them reads at 0, and is refused
abbrev pub in_cores : CoreNo → CoreNo
in_cores k = cond (ltb k.0 cores) k (core_no 0)

abbrev pub in_units : UnitNo → UnitNo
in_units u = cond (ltb u.0 units) u (unit_no 0)

abbrev pub core_place : Step → CoreNo
core_place s = in_cores (whose s)

-- the unit that a step names, or else the first unit of its core, which is c
abbrev pub unit_place : Step → Core → UnitNo
unit_place (R k u) c = in_units u
unit_place (N k u) c = in_units u
unit_place (P k) c = in_units c.first
unit_place (I k) c = in_units c.first
unit_place (C k) c = in_units c.first
unit_place (L k) c = in_units c.first

-- the second unit of the core, if it has one; else the same
abbrev pub other_place : Step → Core → UnitNo
other_place s c = cond (two_stage_lem c.state) (in_units c.second) (unit_place s c)
