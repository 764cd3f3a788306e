-- Demands 1 and 2, of a step. What is known of a step on a sound table holds of every step: on any other it is refused with 16.
use Prim.Native.Nat.{◌<◌}
use mathlib.Core.Bool.{Bool, true, false, cond}
use mathlib.Core.Path.{◌≡◌, refl, sym, ◌∙◌, ap}
use native.Mathlib.Omega.{arith}
use Rattle.ticket.specs.declared.kinds.Ticket.{Ticket}
use Rattle.parts.specs.State.{is_marked, is_dropped}
use Rattle.parts.specs.Answer.{number_of}
use Rattle.parts.specs.declared.kinds.Core.{Core}
use Rattle.parts.specs.declared.kinds.Profile.{Profile}
use Rattle.parts.specs.declared.kinds.Profile.TheVariants.{T, D}
use Rattle.parts.specs.declared.answer.Answer.{Answer}
use Rattle.parts.specs.declared.answer.Answer.TheVariants.{Done, Unsound}
use Rattle.parts.specs.declared.answer.Step.{Step}
use Rattle.parts.specs.declared.answer.Step.TheVariants.{R, N, P, I, C, L}
use Rattle.refusals.specs.Verdict.{Verdict, Allowed, Refused}
use Rattle.effects.specs.Effect.{request, interrupt, enter_again, go_on, come_back}
use Rattle.effects.specs.declared.kinds.Effect.{Effect}
use Rattle.block.specs.Table.{core_of}
use Rattle.block.specs.Sound.{sound}
use Rattle.block.specs.Steps.{verdict, effect_on, refusal, on_sound, step}
use Rattle.block.specs.declared.table.Table.{Table}
use Rattle.block.specs.declared.stepped.Stepped.{Stepped}
use Rattle.laws.specs.Claims.{KeepsSound, RefusedSame, StepGrants}
use Rattle.block.proofs.Stepping.{poll_cases}
use Rattle.laws.proofs.Keeping.{step_sound, step_shaped}
use Rattle.laws.proofs.Granting.{accepted, refused, grants_listed, grants_rising, two_classes, granted_waiting}

module _ (t : Table) (s : Step) where
  pub on_sound_lem : sound t ≡ true → step t s ≡ on_sound t s
  unfolding step
  on_sound_lem ok = simp ok

  on_unsound : sound t ≡ false → step t s ≡ refusal t Unsound
  unfolding step
  on_unsound not = simp not

  -- a refusal says of itself what it answers
  itself : (a : Answer) → step t s ≡ refusal t a → step t s ≡ refusal t (step t s).answer
  itself a is = is ∙ ap (λ (x : Stepped). refusal t x.answer) (sym is)

-- interrupting and coming back are done, whatever the profile
interrupt_done : (p : Profile) (m : Ticket) (c : Core) (flag : Bool) → (interrupt p m c flag).answer ≡ Done
interrupt_done T m c flag = refl
interrupt_done D m c true = refl
interrupt_done D m c false = refl

come_done : (m : Ticket) (c : Core) → (come_back m c).answer ≡ Done
come_done m c = go (is_dropped c.state) (is_marked c.state)
  where
    go : (a b : Bool) → (cond a (request c.first m) (cond b (go_on m c) (enter_again m c))).answer ≡ Done
    go true b = refl
    go false true = refl
    go false false = refl

-- an allowed step answers 0, 1 or 2
allowed_few : (t : Table) (s : Step) → number_of (effect_on t s).answer < 10
allowed_few t (R k u) = omega arith
allowed_few t (N k u) = omega arith
allowed_few t (P k) = poll_cases t k (λ (e : Effect). number_of e.answer < 10) (λ f. omega arith) (λ f g. omega arith) (λ f g. omega arith)
allowed_few t (I k) = rw (interrupt_done t.counts.profile t.counter (core_of t k.0) _) (omega arith)
allowed_few t (C k) = rw (come_done t.counter (core_of t k.0)) (omega arith)
allowed_few t (L k) = omega arith

pub keeps_sound : KeepsSound
keeps_sound t s shaped ok = rw (on_sound_lem t s ok) (step_sound t s shaped ok, step_shaped t s shaped ok)

pub refused_same : RefusedSame
refused_same t s high = fit (sound t) refl
  where
    judged : sound t ≡ true → (v : Verdict) → verdict t s ≡ v → step t s ≡ refusal t (step t s).answer
    judged ok Allowed e =
        let is = ap (λ (x : Stepped). number_of x.answer) (on_sound_lem t s ok ∙ accepted t s e) in
        absurd (omega (arith, high, is, allowed_few t s))
    judged ok (Refused a) e = itself t s a (on_sound_lem t s ok ∙ refused t s a e)

    fit : (b : Bool) → sound t ≡ b → step t s ≡ refusal t (step t s).answer
    fit true ok = judged ok (verdict t s) refl
    fit false not = itself t s Unsound (on_unsound t s not)

pub step_grants : StepGrants
step_grants t s shaped ok =
    let on = on_sound_lem t s ok in
    record {
      whole = λ may. rw on (grants_listed t shaped ok s may);
      rise = rw on (grants_rising t shaped ok s);
      classes = λ g h two. let c = two_classes t shaped ok s g h (rw on at two) in (c.first, c.low, c.high);
      awaited = λ g m. rw on (granted_waiting t shaped ok s g (rw on at m));
    }
