-- Detail: the step by its parts. What becomes of the core that it names and of the one or two units that it touches, by what it reads of
-- them. Put back, this is the step on a sound table: the law `by_parts`.
use Rattle.std.specs.Prelude.{ℕ, Bool, true, false, cond, ◌++◌}
use Rattle.ticket.specs.Kinds.{ticket}
use Rattle.ticket.specs.declared.kinds.CoreNo.{CoreNo}
use Rattle.ticket.specs.declared.kinds.Ticket.{Ticket}
use Rattle.ticket.specs.declared.kinds.UnitNo.{UnitNo}
use Rattle.parts.specs.State.{two_stage_lem}
use Rattle.parts.specs.Parts.{register_in}
use Rattle.parts.specs.Answer.{packed}
use Rattle.parts.specs.declared.kinds.Register.{Register}
use Rattle.parts.specs.declared.kinds.Next.{Next}
use Rattle.parts.specs.declared.kinds.LockUnit.{LockUnit}
use Rattle.parts.specs.declared.kinds.Core.{Core}
use Rattle.parts.specs.declared.kinds.Counts.{Counts}
use Rattle.parts.specs.declared.answer.Answer.{Answer}
use Rattle.parts.specs.declared.answer.Grants.{Grants}
use Rattle.parts.specs.declared.answer.Grants.TheVariants.{None}
use Rattle.parts.specs.declared.answer.Step.{Step}
use Rattle.places.specs.Places.{core_place}
use Rattle.refusals.specs.Judge.{judge}
use Rattle.refusals.specs.Verdict.{Verdict, Allowed, Refused}
use Rattle.settling.specs.Line.{stored, won}
use Rattle.settling.specs.Settle.{stay, enter, leave, carry}
use Rattle.settling.specs.declared.settle.Change.{Change}
use Rattle.effects.specs.Effect.{step_effect}
use Rattle.effects.specs.declared.kinds.Move.{Move}
use Rattle.effects.specs.declared.kinds.Move.TheVariants.{Stay, Enter, Carry, GiveUp}
use Rattle.effects.specs.declared.kinds.Effect.{Effect}
use Rattle.plan.specs.declared.planning.Part.{Part}
use Rattle.plan.specs.declared.planning.Plan.{Plan}

-- what a step of core k reads of a unit: that core's register, and what the unit shows
abbrev pub part : Register → Next → Part
part r v = record { register = r; next = v }

abbrev pub part_of : ℕ → LockUnit → Part
part_of k x = part (register_in x k) x.next

-- a unit that stays as it was read
abbrev pub staying : Part → Change
staying x = stay x.register x.next

-- a refused step hands back what it read
abbrev pub refuse : Answer → Ticket → Core → Part → Part → Plan
refuse a m c x y =
    record {
      first = staying x;
      second = staying y;
      core = c;
      counter = m;
      ticket = ticket 0;
      grants = None;
      answer = a;
      moves = false;
    }

-- the effect with what became of the units, if anything did
abbrev pub with_changes : Effect → Change → Change → Grants → Bool → Plan
with_changes e a b g z =
    record {
      first = a;
      second = b;
      core = e.core;
      counter = e.counter;
      ticket = e.ticket;
      grants = g;
      answer = e.answer;
      moves = z;
    }

-- core k enters unit u, of which x is read, with the ticket t
abbrev pub entered : Effect → CoreNo → UnitNo → Ticket → Part → Part → Plan
entered e k u t x y = let a = enter x.next k t in with_changes e a (staying y) (packed (won u.0 a.winner)) true

-- core k, which is c, gives up its registers at its units
abbrev pub leaves : Part → CoreNo → Change
leaves x k = leave x.register x.next k

abbrev pub given_up : Effect → CoreNo → Core → Part → Part → Plan
given_up e k c x y =
    let a = leaves x k in
    let b = leaves y k in
    cond (two_stage_lem c.state)
    (with_changes e a b (packed (won c.first.0 a.winner ++ won c.second.0 b.winner)) true)
    (with_changes e a (staying y) (packed (won c.first.0 a.winner)) true)

-- what core k, which is c, does
abbrev pub carried : Move → Effect → CoreNo → Core → Part → Part → Plan
carried Stay e k c x y = with_changes e (staying x) (staying y) None false
carried (Enter u t) e k c x y = entered e k u t x y
carried (Carry t) e k c x y = with_changes e (staying x) (carry y.next k t) None true
carried GiveUp e k c x y = given_up e k c x y

abbrev pub carry_out : Effect → CoreNo → Core → Part → Part → Plan
carry_out e k c x y = carried e.does e k c x y

-- an allowed step has its effect
abbrev pub decided : Verdict → Ticket → Core → Part → Part → Plan → Plan
decided Allowed m c x y p = p
decided (Refused a) m c x y p = refuse a m c x y

-- the effect of an allowed step: the flag that its core waits for is that of y, the next in line at its first unit that of x
abbrev pub effect_of : Step → Counts → Ticket → Core → Part → Part → Effect
effect_of s n m c x y = step_effect n.profile s m c y.register.flag (stored x.next)

-- the step: n are the counts, with the profile, m the counter, late whether a live ticket is stretched, c the core that it names
unfoldable pub plan_step : Step → Counts → Ticket → Bool → Core → Part → Part → Plan
plan_step s n m late c x y =
    decided (judge s n late c) m c x y (carry_out (effect_of s n m c x y) (core_place s) c x y)
