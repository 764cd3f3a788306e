-- Facts of plans: whoever wins a unit is one of the table's, and what the judge does not ask for changes nothing.
use Prim.Native.Nat.{◌<◌}
use mathlib.Core.Bool.{Bool, true, false, cond}
use mathlib.Core.List.{◌++◌}
use mathlib.Core.Path.{◌≡◌, ap}
use Rattle.ticket.specs.Order.{compare}
use Rattle.ticket.specs.declared.kinds.CoreNo.{CoreNo}
use Rattle.ticket.specs.declared.kinds.Ticket.{Ticket}
use Rattle.parts.specs.State.{two_stage_lem}
use Rattle.parts.specs.Parts.{cores, blank, standing, flagged}
use Rattle.parts.specs.Answer.{packed}
use Rattle.parts.specs.declared.kinds.Next.{Next}
use Rattle.parts.specs.declared.kinds.Core.{Core}
use Rattle.parts.specs.declared.kinds.Counts.{Counts}
use Rattle.parts.specs.declared.answer.Step.{Step}
use Rattle.places.specs.Places.{core_place}
use Rattle.places.proofs.Placing.{core_place_within}
use Rattle.refusals.specs.Judge.{judge}
use Rattle.refusals.specs.Tickets.{asked}
use Rattle.refusals.proofs.Apart.{judge_asked}
use Rattle.refusals.specs.Verdict.{Verdict, Allowed, Refused}
use Rattle.settling.specs.Line.{stored, won, Within}
use Rattle.settling.specs.Pairs.{is_younger}
use Rattle.settling.specs.Shown.{shown_as}
use Rattle.settling.specs.Settle.{becomes, compared, is_next, enter, passed, carry}
use Rattle.settling.specs.Best.{Best, Nobody, Won}
use Rattle.settling.proofs.NextInLine.{stored_within}
use Rattle.effects.specs.declared.kinds.Move.{Move}
use Rattle.effects.specs.declared.kinds.Move.TheVariants.{Stay, Enter, Carry, GiveUp}
use Rattle.effects.specs.declared.kinds.Effect.{Effect}
use Rattle.plan.specs.Plan.{staying, with_changes, leaves, carried, carry_out, decided, effect_of, plan_step}
use Rattle.plan.specs.declared.planning.Part.{Part}
use Rattle.plan.specs.declared.planning.Plan.{Plan}

-- Whoever wins a unit is one of the table's

module _ (k : CoreNo) (h : k.0 < cores) where
  enter_within : (v : Next) (t : Ticket) → Within (enter v k t).winner
  enter_within v t = go v.held
    where
      go :
          (b : Bool) →
          Within
          (cond b (becomes (standing t) (shown_as (compared (stored v) k t) true) Nobody false)
          (becomes (flagged (standing t)) (shown_as Nobody true) (Won k t) false)).winner
      go true = tt
      go false = h

  leaves_within : (x : Part) → Within (leaves x k).winner
  leaves_within x = go x.register.flag (stored x.next) (stored_within x.next)
    where
      go : (f : Bool) (b : Best) → Within b → Within (cond f (passed b) (becomes blank x.next Nobody (is_next x.next k))).winner
      go true Nobody w = tt
      go true (Won j t) w = w
      go false b w = tt

  carry_within : (v : Next) (t : Ticket) → Within (carry v k t).winner
  carry_within v t = go (is_next v k) (is_younger (compare t.0 v.ticket.0))
    where
      go :
          (b y : Bool) →
          Within
          (cond b (cond y (becomes (standing t) v Nobody true) (becomes (standing t) (shown_as (Won k t) true) Nobody false))
          (becomes (standing t) (shown_as (compared (stored v) k t) true) Nobody false)).winner
      go true true = tt
      go true false = tt
      go false y = tt

  abbrev BothWithin : Plan → Type 0
  BothWithin p = Within p.first.winner × Within p.second.winner

  carried_within : (d : Move) (e : Effect) (c : Core) (x y : Part) → BothWithin (carried d e k c x y)
  carried_within Stay e c x y = (tt, tt)
  carried_within (Enter u t) e c x y = (enter_within x.next t, tt)
  carried_within (Carry t) e c x y = (tt, carry_within y.next t)
  carried_within GiveUp e c x y = go (two_stage_lem c.state)
    where
      go :
          (b : Bool) →
          BothWithin
          (cond b
          (with_changes e (leaves x k) (leaves y k) (packed (won c.first.0 (leaves x k).winner ++ won c.second.0 (leaves y k).winner)) true)
          (with_changes e (leaves x k) (staying y) (packed (won c.first.0 (leaves x k).winner)) true))
      go true = (leaves_within x, leaves_within y)
      go false = (leaves_within x, tt)

pub winners_within :
    (s : Step) (n : Counts) (m : Ticket) (late : Bool) (c : Core) (x y : Part) →
    let p = plan_step s n m late c x y in Within p.first.winner × Within p.second.winner
unfolding plan_step
winners_within s n m late c x y = go (judge s n late c)
  where
    go :
        (v : Verdict) →
        let p = decided v m c x y (carry_out (effect_of s n m c x y) (core_place s) c x y) in Within p.first.winner × Within p.second.winner
    go Allowed =
        let e = effect_of s n m c x y in carried_within (core_place s) (core_place_within s) e.does e c x y
    go (Refused a) = (tt, tt)

-- a plan that does not ask whether a live ticket is stretched is the same either way
pub plan_asked :
    (s : Step) (n : Counts) (m : Ticket) (late : Bool) (c : Core) (x y : Part) → plan_step s n m (asked s c late) c x y ≡ plan_step s n m late c x y
unfolding plan_step
plan_asked s n m late c x y =
    let e = effect_of s n m c x y in
    ap (λ (v : Verdict). decided v m c x y (carry_out e (core_place s) c x y)) (judge_asked s n late c)
