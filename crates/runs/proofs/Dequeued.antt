-- Runs of D computed. Core 0 has the unit; cores 1 and 2 asked after it and were interrupted, so that they stand in line marked away; core 3 enters
-- behind them, as the counter wraps. In the first run they come back, and the unit goes to core 1, to core 2 as core 1 is interrupted, and then to core
-- 3. In the second core 0 releases while they are away: both are dropped, and core 3 is granted. In the third a dropped core cannot come back.
use Prim.Native.Nat.{ℕ, zero, suc, ◌+◌, ◌≤◌, ◌<◌}
use mathlib.Core.Bool.{true, ◌&&◌, not}
use mathlib.Core.List.{List, [], ◌∷◌}
use mathlib.Core.Path.{◌≡◌, refl, ◌∙◌, ap}
use native.Mathlib.Omega.{arith}
use Rattle.ticket.specs.Kinds.{ticket}
use Rattle.ticket.specs.Order.{behind, compare, after}
use Rattle.ticket.specs.declared.order.Comparison.TheVariants.{Same}
use Rattle.parts.specs.Answer.{number_of}
use Rattle.parts.specs.Fold.{up_to, count}
use Rattle.parts.specs.Parts.{cores, core_no, unit_no}
use Rattle.parts.specs.State.{is_away}
use Rattle.parts.specs.declared.answer.Step.{Step}
use Rattle.parts.specs.declared.answer.Step.TheVariants.{R, P, I, C, L}
use Rattle.parts.specs.declared.kinds.Counts.{Counts}
use Rattle.parts.specs.declared.kinds.Fill.TheVariants.{Blank}
use Rattle.parts.specs.declared.kinds.Profile.TheVariants.{D}
use Rattle.parts.specs.declared.kinds.State.TheVariants.{Marked, Dropped}
use Rattle.plan.specs.Plan.{plan_step}
use Rattle.block.specs.Over.{over}
use Rattle.block.specs.Sound.{recent}
use Rattle.block.specs.Steps.{step}
use Rattle.block.specs.Table.{core_of, with_counter_lem}
use Rattle.block.specs.declared.stepped.Stepped.{Stepped}
use Rattle.block.specs.declared.table.Table.{Table}
use Rattle.laws.proofs.Keeping.{counter_sound}
use Rattle.laws.proofs.Planned.{planned, step_planned_lem, fine_fresh}
use Rattle.fairness.specs.Run.{Place, Reached, onward, after_all, start}
use Rattle.fairness.specs.Stretch.{grants, gives, grants_of, enters, stretch, is_earlier, earlier, passed, interruptions}
use Rattle.runs.proofs.Planned.{plan_on, plan_all, enters_planned, stretch_planned, passed_planned, interruptions_planned, Entry, entry, reaching}

abbrev r : ℕ → Step
r k = R (core_no k) (unit_no 0)

abbrev few : Counts
few = record { cores = 4; first = 1; second = 0; profile = D; fill = Blank }

abbrev fresh : Place
fresh = start few (ticket 65533)

reaches : (steps : List Step) → Reached (after_all fresh steps)
reaches = reaching few (ticket 65533) refl (omega arith)

abbrev before : List Step
before = r 0 ∷ P (core_no 0) ∷ r 1 ∷ r 2 ∷ I (core_no 1) ∷ I (core_no 2) ∷ []

abbrev p : Place
p = after_all fresh before

-- core 3 enters
abbrev e : Place
e = onward p (r 3)

-- the same places by the plans
abbrev p' : Place
p' = plan_all fresh before

abbrev e' : Place
e' = plan_on p' (r 3)

run : Entry fresh before (r 3)
run = entry fresh before (r 3) (fine_fresh few (ticket 65533) refl)

-- after steps that follow e
abbrev later : List Step → Place
later steps = plan_all e' steps

profile : p.table.counts.profile ≡ D
unfolding behind compare after up_to plan_step over
profile = ap (λ (x : Place). x.table.counts.profile) run.p_is

pub entered : enters p (r 3) 3 0 ≡ true
unfolding behind compare after up_to plan_step over gives
entered = ap (λ (x : Place). enters x (r 3) 3 0) run.p_is ∙ enters_planned p' (r 3) 3 0 run.p_good

-- The first run: cores 1 and 2 come back; core 0 releases; core 1 is interrupted with its flag set, and joins again with a new ticket

abbrev meanwhile : List Step
meanwhile = C (core_no 1) ∷ C (core_no 2) ∷ L (core_no 0) ∷ I (core_no 1) ∷ C (core_no 1) ∷ r 0 ∷ P (core_no 2) ∷ []

abbrev q : Place
q = after_all e meanwhile

pub stays : stretch 3 0 e meanwhile ≡ true
unfolding behind compare after up_to plan_step over gives
stays = ap (λ (x : Place). stretch 3 0 x meanwhile) run.e_is ∙ stretch_planned 3 0 e' meanwhile run.e_good

-- the counter wraps at the entry, and the comparison says the order of the numbers
pub wraps :
    (p.table.counter.0 ≡ 0) ×
    ((core_of e.table 2).own.0 ≡ 65535) ×
    ((core_of e.table 3).own.0 ≡ 0) ×
    (q.issue 2 ≡ 2) ×
    (q.issue 3 ≡ 3) ×
    (q.issue 1 ≡ 4)
unfolding behind compare after up_to plan_step over
wraps =
    let is = run.later_is meanwhile in (
      ap (λ (x : Place). x.table.counter.0) run.p_is,
      ap (λ (x : Place). (core_of x.table 2).own.0) run.e_is,
      ap (λ (x : Place). (core_of x.table 3).own.0) run.e_is,
      ap (λ (x : Place). x.issue 2) is,
      ap (λ (x : Place). x.issue 3) is,
      ap (λ (x : Place). x.issue 1) is,
    )

-- passed once less than there were earlier tickets, though an interrupt of one of their cores was accepted
pub exactly : (passed 0 e meanwhile ≡ 2) × (earlier e 3 ≡ 3) × (interruptions e 3 e meanwhile ≡ 1)
unfolding behind compare after up_to plan_step over gives grants_of
exactly = (
  ap (λ (x : Place). passed 0 x meanwhile) run.e_is ∙ passed_planned 0 e' meanwhile run.e_good,
  ap (λ (x : Place). earlier x 3) run.e_is,
  ap (λ (x : Place). interruptions x 3 x meanwhile) run.e_is ∙ interruptions_planned e' 3 e' meanwhile run.e_good,
)

-- and then granted
pub at_last : gives 0 3 (grants q (L (core_no 2))) ≡ true
unfolding behind compare after up_to plan_step over gives
at_last = run.later_gives meanwhile (L (core_no 2)) 0 3

-- what is never reached less one is false
pub not_less :
    ((p : Place) (s : Step) (k u : ℕ) (more : List Step) →
    p.table.counts.profile ≡ D →
    Reached p →
    enters p s k u ≡ true →
    stretch k u (onward p s) more ≡ true →
    passed u (onward p s) more + 1 < earlier (onward p s) k) →
    ⊥
not_less claim =
    let x = claim p (r 3) 3 0 meanwhile profile (reaches before) entered stays in
    omega (arith, exactly)

-- so is the bound by those earlier tickets whose core is not away: two of the three were
abbrev here : Place → ℕ → ℕ
here e k = count (λ (j : ℕ). is_earlier e k j && not (is_away (core_of e.table j).state)) cores

pub away_too : ((core_of e.table 1).state ≡ Marked) × ((core_of e.table 2).state ≡ Marked) × (here e 3 ≡ 1)
unfolding behind compare after up_to plan_step over
away_too = (
  ap (λ (x : Place). (core_of x.table 1).state) run.e_is,
  ap (λ (x : Place). (core_of x.table 2).state) run.e_is,
  ap (λ (x : Place). here x 3) run.e_is,
)

pub not_here_only :
    ((p : Place) (s : Step) (k u : ℕ) (more : List Step) →
    p.table.counts.profile ≡ D →
    Reached p →
    enters p s k u ≡ true →
    stretch k u (onward p s) more ≡ true →
    passed u (onward p s) more ≤ here (onward p s) k) →
    ⊥
not_here_only claim =
    let x = claim p (r 3) 3 0 meanwhile profile (reaches before) entered stays in
    omega (arith, exactly.0, away_too.2)

-- The second run: core 0 releases at once. Two are dropped in one release, and the third is granted; a dropped core comes back with the next ticket.

abbrev released : List Step
released = L (core_no 0) ∷ []

abbrev back : List Step
back = L (core_no 0) ∷ C (core_no 1) ∷ []

pub dropped_both :
    (gives 0 3 (grants e (L (core_no 0))) ≡ true) ×
    ((core_of (after_all e released).table 1).state ≡ Dropped) ×
    ((core_of (after_all e released).table 2).state ≡ Dropped) ×
    ((after_all e back).issue 1 ≡ 4) ×
    ((core_of (after_all e back).table 1).own.0 ≡ 1)
unfolding behind compare after up_to plan_step over gives
dropped_both = (
  run.later_gives [] (L (core_no 0)) 0 3,
  ap (λ (x : Place). (core_of x.table 1).state) (run.later_is released),
  ap (λ (x : Place). (core_of x.table 2).state) (run.later_is released),
  ap (λ (x : Place). x.issue 1) (run.later_is back),
  ap (λ (x : Place). (core_of x.table 1).own.0) (run.later_is back),
)

-- their tickets ended: the comparison orders them no more, though core 1 took its own before core 2
pub ended :
    (compare (core_of (after_all e released).table 1).own.0 (core_of (after_all e released).table 2).own.0 ≡ Same) ×
    ((after_all e released).issue 1 < (after_all e released).issue 2)
unfolding behind compare after up_to plan_step over
ended =
    let is = run.later_is released in
    let one = ap (λ (x : Place). x.issue 1) is in
    let two = ap (λ (x : Place). x.issue 2) is in
    (ap (λ (x : Place). compare (core_of x.table 1).own.0 (core_of x.table 2).own.0) is, omega (arith, one, two))

-- The third: the same table, with the counter further on. Core 3's ticket is 0: up to 32,767 ahead of it core 1 comes back, and at 32,768 it gives 15.

abbrev t : Table
t = (later released).table

comes_back :
    (n : ℕ) →
    recent (with_counter_lem t (ticket n)) (core_of t 3) ≡ true →
    number_of (step (with_counter_lem (after_all e released).table (ticket n)) (C (core_no 1))).answer ≡
    number_of (planned (with_counter_lem t (ticket n)) (C (core_no 1))).answer
unfolding behind compare after up_to plan_step over
comes_back n ahead =
    let good = run.later_good released in
    let ok = counter_sound t (ticket n) good.1 each in
    ap (λ (x : Place). number_of (step (with_counter_lem x.table (ticket n)) (C (core_no 1))).answer) (run.later_is released) ∙
    ap (λ (x : Stepped). number_of x.answer)
    (step_planned_lem (with_counter_lem t (ticket n)) (C (core_no 1))
    (record { cores_long = good.0.cores_long; units_long = good.0.units_long; registers_long = good.0.registers_long })
    ok)
  where
    each : (k : ℕ) → k < t.counts.cores → recent (with_counter_lem t (ticket n)) (core_of t k) ≡ true
    each zero h = refl
    each (suc zero) h = refl
    each (suc (suc zero)) h = refl
    each (suc (suc (suc zero))) h = ahead
    each (suc (suc (suc (suc k)))) h = absurd (omega (arith, h))

pub stretched_back :
    (number_of (step (with_counter_lem (after_all e released).table (ticket 32767)) (C (core_no 1))).answer ≡ 0) ×
    (number_of (step (with_counter_lem (after_all e released).table (ticket 32768)) (C (core_no 1))).answer ≡ 15)
unfolding behind compare after up_to plan_step over
stretched_back = (comes_back 32767 refl, comes_back 32768 refl)
