-- A run computed, in which an inherited ticket ends with its giver: the first twelve steps of examples/given_back.script. Core 1 holds unit 0 and
-- waits at unit 3 with its own ticket 103; core 0 waits at unit 0 with 100, and core 3 at unit 3 with 102. Core 1 inherits 100, core 0 is
-- interrupted, and core 1's next poll gives 100 back: unit 3 then goes to core 3. 100 is older than 103, so a poll that keeps an older carried ticket
-- would have left it, and the unit would have gone to core 1, as it does where core 1 does not poll in between.
use Prim.Native.Nat.{ℕ}
use mathlib.Core.Bool.{true}
use mathlib.Core.List.{List, [], ◌∷◌, ◌++◌}
use mathlib.Core.Path.{◌≡◌, refl, sym, ◌∙◌, ap, subst}
use Rattle.ticket.specs.Kinds.{ticket}
use Rattle.ticket.specs.Order.{behind, compare, after}
use Rattle.ticket.specs.declared.order.Comparison.TheVariants.{Older}
use Rattle.parts.specs.Fold.{up_to}
use Rattle.parts.specs.Parts.{core_no, unit_no}
use Rattle.parts.specs.Answer.{number_of}
use Rattle.block.specs.Table.{core_of, register_of}
use Rattle.plan.specs.Plan.{plan_step}
use Rattle.block.specs.Steps.{step}
use Rattle.block.specs.Over.{over}
use Rattle.parts.specs.declared.kinds.Counts.{Counts}
use Rattle.parts.specs.declared.kinds.Fill.TheVariants.{Blank}
use Rattle.parts.specs.declared.kinds.Profile.TheVariants.{T}
use Rattle.parts.specs.declared.answer.Step.{Step}
use Rattle.parts.specs.declared.answer.Step.TheVariants.{R, N, P, I, C, L}
use Rattle.fairness.specs.Run.{Place, onward, after_all, start}
use Rattle.block.specs.declared.stepped.Stepped.{Stepped}
use Rattle.laws.specs.Granting.{listed}
use Rattle.laws.proofs.Planned.{planned, fine_fresh}
use Rattle.fairness.specs.Stretch.{grants, gives}
use Rattle.runs.proofs.Planned.{Good, plan_all, plans, all_planned, all_good}

abbrev few : Counts
few = record { cores = 4; first = 2; second = 2; profile = T; fill = Blank }

abbrev fresh : Place
fresh = start few (ticket 100)

-- core 0 asks for unit 0 and is interrupted, core 2 holds unit 3, core 3 waits there, core 1 holds unit 0; core 0 comes back, and core 1 asks for
-- unit 3
abbrev before : List Step
before =
    R (core_no 0) (unit_no 0) ∷
    I (core_no 0) ∷
    R (core_no 2) (unit_no 3) ∷
    P (core_no 2) ∷
    R (core_no 3) (unit_no 3) ∷
    R (core_no 1) (unit_no 0) ∷
    P (core_no 1) ∷
    C (core_no 0) ∷
    N (core_no 1) (unit_no 3) ∷
    []

-- core 1 polls and inherits; the giver is interrupted; core 1 polls again
abbrev lent : Place
lent = onward (after_all fresh before) (P (core_no 1))

abbrev gone : Place
gone = onward lent (I (core_no 0))

abbrev back : Place
back = onward gone (P (core_no 1))

-- the places by the plans
fresh_good : Good fresh
fresh_good = fine_fresh few (ticket 100) refl

-- after the steps that lead to a place
abbrev by : List Step → Place
by steps = plan_all fresh steps

by_is : (steps : List Step) → after_all fresh steps ≡ by steps
by_is steps = all_planned fresh steps fresh_good

by_good : (steps : List Step) → Good (by steps)
by_good steps = all_good fresh steps fresh_good

-- what a step gives there
by_gives : (steps : List Step) (s : Step) → step (after_all fresh steps).table s ≡ planned (by steps).table s
by_gives steps s = ap (λ (x : Place). step x.table s) (by_is steps) ∙ plans (by steps) s (by_good steps)

abbrev to_lent : List Step
to_lent = before ++ (P (core_no 1) ∷ [])

abbrev to_gone : List Step
to_gone = to_lent ++ (I (core_no 0) ∷ [])

abbrev to_back : List Step
to_back = to_gone ++ (P (core_no 1) ∷ [])

-- the ticket that core 1 carries, and what its register at unit 3 shows
abbrev Carries : Place → ℕ → Type 0
Carries p n = ((core_of p.table 1).carried.0 ≡ n) × ((register_of p.table 3 1).ticket.0 ≡ n)

carries_by : (steps : List Step) (n : ℕ) → Carries (by steps) n → Carries (after_all fresh steps) n
carries_by steps n h = subst (λ (x : Place). Carries x n) (sym (by_is steps)) h

pub inherited : Carries lent 100
unfolding behind compare after up_to plan_step over
inherited = carries_by to_lent 100 (refl, refl)

-- between polls the old carried ticket stands
pub stands_meanwhile : Carries gone 100
unfolding behind compare after up_to plan_step over
stands_meanwhile = carries_by to_gone 100 (refl, refl)

-- the poll is answered 2 and reports 103, which it carries from then on, though what it carried is older
pub given_back :
    (number_of (step gone.table (P (core_no 1))).answer ≡ 2) ×
    ((step gone.table (P (core_no 1))).ticket.0 ≡ 103) ×
    Carries back 103 ×
    (compare 100 103 ≡ Older)
unfolding behind compare after up_to plan_step over
given_back =
    let is = by_gives to_gone (P (core_no 1)) in (
      ap (λ (x : Stepped). number_of x.answer) is,
      ap (λ (x : Stepped). x.ticket.0) is,
      carries_by to_back 103 (refl, refl),
      refl,
    )

-- so the unit goes to core 3, with ticket 102; with 100 still carried it goes to core 1
pub better_claim : (gives 3 3 (grants back (L (core_no 2))) ≡ true) × (gives 3 1 (grants gone (L (core_no 2))) ≡ true)
unfolding behind compare after up_to plan_step over gives
better_claim = (
  ap (λ (x : Stepped). gives 3 3 (listed x.grants)) (by_gives to_back (L (core_no 2))),
  ap (λ (x : Stepped). gives 3 1 (listed x.grants)) (by_gives to_gone (L (core_no 2))),
)
