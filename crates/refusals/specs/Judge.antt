-- "Order for a step: 16, 10, 11, then 12 or 14, then 13, 15. Each is given exactly when its condition holds and no earlier one does."
-- A verdict depends on the counts, on the state of the core that the step names, for N on the unit that it holds, and for R and C of a dropped core
-- on whether a live ticket is stretched, which the counter and the cores up to the count tell. Past the count a sound table has idle cores alone,
-- whose tickets are not live.
use Rattle.std.specs.Prelude.{ℕ, ◌+◌, Bool, true, false, cond, ◌&&◌, ◌||◌, not, List, leb, ltb, get_or}
use Rattle.ticket.specs.Order.{compare}
use Rattle.ticket.specs.declared.kinds.CoreNo.{CoreNo}
use Rattle.ticket.specs.declared.kinds.Ticket.{Ticket}
use Rattle.ticket.specs.declared.kinds.UnitNo.{UnitNo}
use Rattle.ticket.specs.declared.order.Comparison.{Comparison}
use Rattle.ticket.specs.declared.order.Comparison.TheVariants.{Older, Younger, Same, Opposite}
use Rattle.parts.specs.Fold.{some}
use Rattle.parts.specs.State.{is_idle_lem, is_live_lem, waits, holds, holds_one, is_away, is_dropped}
use Rattle.parts.specs.Parts.{idle}
use Rattle.parts.specs.declared.kinds.Core.{Core}
use Rattle.parts.specs.declared.kinds.Counts.{Counts}
use Rattle.parts.specs.declared.kinds.State.{State}
use Rattle.parts.specs.declared.answer.Answer.{Answer}
use Rattle.parts.specs.declared.answer.Answer.TheVariants.{NoCore, NoUnit, WrongState, WrongClass, Masked, Stretched}
use Rattle.parts.specs.declared.answer.Step.{Step}
use Rattle.parts.specs.declared.answer.Step.TheVariants.{R, N, P, I, C, L}
use Rattle.refusals.specs.Verdict.{Verdict, Allowed, Refused}

-- refused with an answer if the condition holds, and else judged further
abbrev pub unless : Bool → Answer → Verdict → Verdict
unless due a further = cond due (Refused a) further

-- 10
abbrev pub no_core : Counts → CoreNo → Bool
no_core n k = leb n.cores k.0

-- 11
abbrev pub no_unit : Counts → UnitNo → Bool
no_unit n u = leb (n.first + n.second) u.0

-- 13: "unit is first-class, or the held one is second-class"
abbrev pub wrong_class : Counts → UnitNo → UnitNo → Bool
wrong_class n held u = ltb u.0 n.first || leb n.first held.0

-- a ticket that compares so with the counter lies 32,768 or more behind it: Older is 1 to 32,767 behind, Same 0
abbrev pub far : Comparison → Bool
far x = elim x [ Older ↦ false | Younger ↦ true | Same ↦ false | Opposite ↦ true ]

-- 15: "some live ticket lies 32,768 or more behind the counter"
abbrev pub live : Core → Bool
live c = is_live_lem c.state

abbrev pub old : Ticket → Core → Bool
old m c = live c && far (compare c.own.0 m.0)

abbrev pub stretched : Ticket → List Core → ℕ → Bool
stretched m cs n = some (λ (k : ℕ). old m (get_or cs k idle)) n

-- R and N: the core before the unit
abbrev pub known : Counts → CoreNo → UnitNo → Verdict → Verdict
known n k u further = unless (no_core n k) NoCore (unless (no_unit n u) NoUnit further)

abbrev pub may_request : Counts → Bool → CoreNo → State → UnitNo → Verdict
may_request n late k s u = known n k u (unless (not (is_idle_lem s)) WrongState (unless late Stretched Allowed))

abbrev pub may_nest : Counts → CoreNo → State → UnitNo → UnitNo → Verdict
may_nest n k s held u = known n k u (unless (not (holds_one s)) WrongState (unless (wrong_class n held u) WrongClass Allowed))

-- P and L, with whether the state is the right one
abbrev pub in_state : Counts → CoreNo → Bool → Verdict
in_state n k right = unless (no_core n k) NoCore (unless (not right) WrongState Allowed)

abbrev pub may_interrupt : Counts → CoreNo → State → Verdict
may_interrupt n k s = unless (no_core n k) NoCore (unless (holds s) Masked (unless (not (waits s)) WrongState Allowed))

-- "C of a dropped core can give 15, after 12": it takes a new ticket, on R's condition
abbrev pub may_come_back : Counts → Bool → CoreNo → State → Verdict
may_come_back n late k s =
    unless (no_core n k) NoCore (unless (not (is_away s)) WrongState (unless (is_dropped s && late) Stretched Allowed))

-- the step: n are the counts, late whether a live ticket is stretched, c the core that it names
abbrev pub judge : Step → Counts → Bool → Core → Verdict
judge (R k u) n late c = may_request n late k c.state u
judge (N k u) n late c = may_nest n k c.state c.first u
judge (P k) n late c = in_state n k (waits c.state)
judge (I k) n late c = may_interrupt n k c.state
judge (C k) n late c = may_come_back n late k c.state
judge (L k) n late c = in_state n k (holds c.state)
