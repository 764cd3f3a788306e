-- Runs of T computed, so that no claim is empty, and none could say more. In the first, core 2 comes back to unit 0 with ticket 65,533 while
-- core 3, with a later one, has it; cores 0 and 1 have earlier ones. The counter wraps. The unit goes to core 0, to core 1 as core 0 is
-- interrupted, to core 0 again, and then to core 2. In the second, core 2 is interrupted, and a later ticket gets the unit.
use Prim.Native.Nat.{ℕ, ◌+◌, ◌≤◌, ◌<◌}
use mathlib.Core.Bool.{Bool, true, false, ◌&&◌, not}
use mathlib.Core.List.{List, [], ◌∷◌, ◌++◌}
use mathlib.Core.Logic.{⊎_elim}
use mathlib.Core.Path.{◌≡◌, refl, ◌∙◌, ap}
use native.Mathlib.Omega.{arith}
use lib.Dec.{ltb}
use borrow.Author.Tests.{ltb-true}
use Rattle.ticket.specs.Kinds.{ticket}
use Rattle.ticket.specs.Order.{behind, compare, after}
use Rattle.ticket.specs.declared.order.Comparison.TheVariants.{Older}
use Rattle.parts.specs.Fold.{up_to, every}
use Rattle.parts.specs.State.{is_idle_lem, is_live_lem, stands, holds}
use Rattle.parts.specs.Parts.{core_no, unit_no}
use Rattle.block.specs.Table.{core_of}
use Rattle.parts.specs.Answer.{number_of}
use Rattle.block.specs.Steps.{step}
use Rattle.block.specs.Over.{over}
use Rattle.parts.specs.declared.kinds.Counts.{Counts}
use Rattle.parts.specs.declared.kinds.State.{State}
use Rattle.parts.specs.declared.kinds.State.TheVariants.{Idle, Waiting, Holding, WaitingSecond, HoldingBoth, Away, Marked, Dropped}
use Rattle.parts.specs.declared.kinds.Profile.TheVariants.{T}
use Rattle.parts.specs.declared.kinds.Fill.TheVariants.{Blank}
use Rattle.parts.specs.declared.answer.Step.{Step}
use Rattle.parts.specs.declared.answer.Step.TheVariants.{R, P, I, C, L}
use Rattle.parts.proofs.Bools.{or_cases, clash, not_true_false}
use Rattle.parts.proofs.Folds.{every_at}
use Rattle.block.proofs.Suited.{live_busy}
use Rattle.fairness.specs.Run.{Place, Reached, onward, after_all, start}
use Rattle.fairness.specs.Stretch.{grants, gives, grants_of, enters, leaves, stretch, earlier, passed, interruptions}
use Rattle.fairness.proofs.Invariant.{live_small, numbered}
use Rattle.ticket.specs.declared.kinds.Grant.{Grant}
use Rattle.plan.specs.Plan.{plan_step}
use Rattle.block.specs.declared.stepped.Stepped.{Stepped}
use Rattle.laws.proofs.Planned.{fine_fresh}
use Rattle.runs.proofs.Planned.{
  Good,
  plan_on,
  plan_all,
  plan_grants,
  plan_leaves,
  plan_stretch,
  plans,
  grants_planned,
  enters_planned,
  leaves_planned,
  onward_planned,
  gathered,
  all_planned,
  all_good,
  stretch_planned,
  passed_planned,
  interruptions_planned,
  Entry,
  entry,
  reaching,
}

abbrev r : ℕ → Step
r k = R (core_no k) (unit_no 0)

abbrev few : Counts
few = record { cores = 4; first = 1; second = 0; profile = T; fill = Blank }

abbrev fresh : Place
fresh = start few (ticket 65531)

reaches : (steps : List Step) → Reached (after_all fresh steps)
reaches = reaching few (ticket 65531) refl (omega arith)

-- all four ask for the unit; the first three are interrupted, so that core 3 gets it; cores 0 and 1 come back
abbrev before : List Step
before =
    r 0 ∷
    r 1 ∷
    r 2 ∷
    r 3 ∷
    I (core_no 0) ∷
    I (core_no 1) ∷
    I (core_no 2) ∷
    P (core_no 3) ∷
    C (core_no 0) ∷
    C (core_no 1) ∷
    []

abbrev p : Place
p = after_all fresh before

-- core 2 comes back
abbrev back : Step
back = C (core_no 2)

abbrev e : Place
e = onward p back

-- the same places by the plans
abbrev p' : Place
p' = plan_all fresh before

abbrev e' : Place
e' = plan_on p' back

fresh_good : Good fresh
fresh_good = fine_fresh few (ticket 65531) refl

run : Entry fresh before back
run = entry fresh before back fresh_good

abbrev meanwhile : List Step
meanwhile =
    L (core_no 3) ∷
    r 3 ∷
    I (core_no 0) ∷
    C (core_no 0) ∷
    P (core_no 1) ∷
    L (core_no 1) ∷
    r 1 ∷
    P (core_no 0) ∷
    []

abbrev q : Place
q = after_all e meanwhile

-- after steps that follow e
abbrev later : List Step → Place
later steps = plan_all e' steps

-- whether core 2 leaves then, and the place after the step
later_leaves : (steps : List Step) (s : Step) → leaves 2 0 (after_all e steps) s ≡ plan_leaves 2 0 (later steps) s
later_leaves steps s =
    ap (λ (x : Place). leaves 2 0 x s) (run.later_is steps) ∙ leaves_planned 2 0 (later steps) s (run.later_good steps)

later_on : (steps : List Step) (s : Step) → onward (after_all e steps) s ≡ plan_on (later steps) s
later_on steps s = ap (λ (x : Place). onward x s) (run.later_is steps) ∙ (onward_planned (later steps) s (run.later_good steps)).0

stays_planned : (steps : List Step) → stretch 2 0 e steps ≡ plan_stretch 2 0 e' steps
stays_planned steps = ap (λ (x : Place). stretch 2 0 x steps) run.e_is ∙ stretch_planned 2 0 e' steps run.e_good

pub entered : enters p back 2 0 ≡ true
unfolding behind compare after up_to plan_step over gives
entered = ap (λ (x : Place). enters x back 2 0) run.p_is ∙ enters_planned p' back 2 0 run.p_good

pub stays : stretch 2 0 e meanwhile ≡ true
unfolding behind compare after up_to plan_step over gives
stays = stays_planned meanwhile

-- the counter wraps meanwhile
pub wraps : (e.table.counter.0 ≡ 65535) × (q.table.counter.0 ≡ 1)
unfolding behind compare after up_to plan_step over
wraps = (ap (λ (x : Place). x.table.counter.0) run.e_is, ap (λ (x : Place). x.table.counter.0) (run.later_is meanwhile))

-- passed as often as the bound allows: two tickets and one interrupt
pub exactly : (passed 0 e meanwhile ≡ 3) × (earlier e 2 ≡ 2) × (interruptions e 2 e meanwhile ≡ 1)
unfolding behind compare after up_to plan_step over gives grants_of
exactly = (
  ap (λ (x : Place). passed 0 x meanwhile) run.e_is ∙ passed_planned 0 e' meanwhile run.e_good,
  ap (λ (x : Place). earlier x 2) run.e_is,
  ap (λ (x : Place). interruptions x 2 x meanwhile) run.e_is ∙ interruptions_planned e' 2 e' meanwhile run.e_good,
)

-- and then granted
pub at_last : gives 0 2 (grants q (L (core_no 0))) ≡ true
unfolding behind compare after up_to plan_step over gives
at_last = run.later_gives meanwhile (L (core_no 0)) 0 2

-- core 1's new ticket is 0, and that of core 2 reads older
pub across :
    ((core_of q.table 1).own.0 ≡ 0) ×
    (compare (core_of q.table 2).own.0 (core_of q.table 1).own.0 ≡ Older) ×
    (q.issue 2 ≡ 2) ×
    (q.issue 1 ≡ 5)
unfolding behind compare after up_to plan_step over
across =
    let is = run.later_is meanwhile in (
      ap (λ (x : Place). (core_of x.table 1).own.0) is,
      ap (λ (x : Place). compare (core_of x.table 2).own.0 (core_of x.table 1).own.0) is,
      ap (λ (x : Place). x.issue 2) is,
      ap (λ (x : Place). x.issue 1) is,
    )

-- The bound less one, and the bound without the interrupts, are false.

profile : p.table.counts.profile ≡ T
unfolding behind compare after up_to plan_step over
profile = ap (λ (x : Place). x.table.counts.profile) run.p_is

pub not_less :
    ((p : Place) (s : Step) (k u : ℕ) (more : List Step) →
    p.table.counts.profile ≡ T →
    Reached p →
    enters p s k u ≡ true →
    stretch k u (onward p s) more ≡ true →
    passed u (onward p s) more < earlier (onward p s) k + interruptions (onward p s) k (onward p s) more) →
    ⊥
not_less claim =
    let x = claim p back 2 0 meanwhile profile (reaches before) entered stays in
    omega (arith, exactly)

pub not_uncounted :
    ((p : Place) (s : Step) (k u : ℕ) (more : List Step) →
    p.table.counts.profile ≡ T →
    Reached p →
    enters p s k u ≡ true →
    stretch k u (onward p s) more ≡ true →
    passed u (onward p s) more ≤ earlier (onward p s) k) →
    ⊥
not_uncounted claim =
    let x = claim p back 2 0 meanwhile profile (reaches before) entered stays in
    omega (arith, exactly)

-- "Earlier by two or more" is false: core 1 has the number just before that of core 2.

abbrev some : List Step
some = L (core_no 3) ∷ r 3 ∷ []

pub next_before :
    (stretch 2 0 e some ≡ true) ×
    (leaves 2 0 (after_all e some) (I (core_no 0)) ≡ false) ×
    (gives 0 1 (grants (after_all e some) (I (core_no 0))) ≡ true) ×
    ((onward (after_all e some) (I (core_no 0))).issue 1 ≡ 1) ×
    (e.issue 2 ≡ 2)
unfolding behind compare after up_to plan_step over gives
next_before = (
  stays_planned some,
  later_leaves some (I (core_no 0)),
  run.later_gives some (I (core_no 0)) 0 1,
  ap (λ (x : Place). x.issue 1) (later_on some (I (core_no 0))),
  ap (λ (x : Place). x.issue 2) run.e_is,
)

pub not_by_two :
    ((p : Place) (s : Step) (k u : ℕ) (more : List Step) (z : Step) (j : ℕ) →
    Reached p →
    enters p s k u ≡ true →
    stretch k u (onward p s) more ≡ true →
    leaves k u (after_all (onward p s) more) z ≡ false →
    gives u j (grants (after_all (onward p s) more) z) ≡ true →
    (onward (after_all (onward p s) more) z).issue j + 1 < (onward p s).issue k) →
    ⊥
not_by_two claim =
    let f = next_before in
    let x = claim p back 2 0 some (I (core_no 0)) 1 (reaches before) entered f.0 f.1 f.2 in
    omega (arith, f.3, f.4)

-- "Never stuck" without the second half is false: a core that was granted and has not polled.

abbrev asked : Place
asked = after_all fresh (r 0 ∷ [])

pub unpolled :
    (stands (core_of asked.table 0).state ≡ true) ×
    (asked.table.counts.cores ≡ few.cores) ×
    (every (λ (j : ℕ). not (holds (core_of asked.table j).state)) few.cores ≡ true) ×
    (number_of (step asked.table (P (core_no 0))).answer ≡ 1)
unfolding behind compare after up_to plan_step over
unpolled =
    let steps = r 0 ∷ [] in
    let is = all_planned fresh steps fresh_good in (
      ap (λ (x : Place). stands (core_of x.table 0).state) is,
      ap (λ (x : Place). x.table.counts.cores) is,
      ap (λ (x : Place). every (λ (j : ℕ). not (holds (core_of x.table j).state)) few.cores) is,
      ap (λ (x : Place). number_of (step x.table (P (core_no 0))).answer) is ∙
          ap (λ (x : Stepped). number_of x.answer) (plans (plan_all fresh steps) (P (core_no 0)) (all_good fresh steps fresh_good)),
    )

holds_live : (z : State) → holds z ≡ true → is_live_lem z ≡ true
holds_live Idle h = absurd (clash h refl)
holds_live Waiting h = refl
holds_live Holding h = refl
holds_live WaitingSecond h = refl
holds_live HoldingBoth h = refl
holds_live Away h = refl
holds_live Marked h = refl
holds_live Dropped h = absurd (clash h refl)

pub not_holding_only :
    ((p : Place) (k : ℕ) →
    Reached p →
    stands (core_of p.table k).state ≡ true →
    (j : ℕ) × (holds (core_of p.table j).state ≡ true)) →
    ⊥
not_holding_only claim =
    let a = reaches (r 0 ∷ []) in
    let x = claim asked 0 a unpolled.0 in
    let j = x.0 in
    let z = (core_of asked.table j).state in
    let live = holds_live z x.1 in
    let good = (numbered asked a).1.good in
    ⊎_elim
    (λ small.
    let low = ltb-true j asked.table.counts.cores small in
    let free = every_at (λ (j : ℕ). not (holds (core_of asked.table j).state)) few.cores unpolled.2 j (omega (arith, unpolled.1)) in
    clash x.1 (not_true_false (holds z) free))
    (λ idle. clash idle (live_busy z live))
    (or_cases (ltb j asked.table.counts.cores) (is_idle_lem z) (good.sound.core j (live_small asked.table good.shaped j live)).within)

-- The second run: core 2 is interrupted, which ends the stretch. It must: the next grant is of a later ticket.

abbrev called : Step
called = I (core_no 2)

abbrev broken : List Step
broken = meanwhile ++ (called ∷ [])

pub interrupted :
    (leaves 2 0 q called ≡ true) ×
    (stretch 2 0 e broken ≡ false) ×
    (gives 0 3 (grants (onward q called) (L (core_no 0))) ≡ true) ×
    ((onward (onward q called) (L (core_no 0))).issue 3 ≡ 4)
unfolding behind compare after up_to plan_step over gives
interrupted = (
  later_leaves meanwhile called,
  stays_planned broken,
  run.later_gives broken (L (core_no 0)) 0 3,
  ap (λ (x : Place). x.issue 3) (later_on broken (L (core_no 0))),
)

-- a stretch that goes on over an interrupt
abbrev pub ungranted : ℕ → ℕ → Place → List Step → Bool
ungranted k u p steps = over onward (λ q. true) (λ q s more. not (gives u k (grants q s)) && more) p steps

ungranted_planned :
    (k u : ℕ) (p : Place) (steps : List Step) →
    Good p →
    ungranted k u p steps ≡ over plan_on (λ q. true) (λ q s more. not (gives u k (plan_grants q s)) && more) p steps
ungranted_planned k u p steps good =
    gathered (λ q. true) (λ q s more. not (gives u k (grants q s)) && more) (λ q s more. not (gives u k (plan_grants q s)) && more)
    (λ q s more g. ap (λ (gs : List Grant). not (gives u k gs) && more) (grants_planned q s g)) p steps good

still_ungranted :
    (ungranted 2 0 e broken ≡ true) ×
    (gives 0 2 (grants (after_all e broken) (L (core_no 0))) ≡ false) ×
    (gives 0 3 (grants (after_all e broken) (L (core_no 0))) ≡ true) ×
    ((onward (after_all e broken) (L (core_no 0))).issue 3 ≡ 4)
unfolding behind compare after up_to plan_step over gives
still_ungranted = (
  ap (λ (x : Place). ungranted 2 0 x broken) run.e_is ∙ ungranted_planned 2 0 e' broken run.e_good,
  run.later_gives broken (L (core_no 0)) 0 2,
  run.later_gives broken (L (core_no 0)) 0 3,
  ap (λ (x : Place). x.issue 3) (later_on broken (L (core_no 0))),
)

pub not_kept_open :
    ((p : Place) (s : Step) (k u : ℕ) (more : List Step) (z : Step) (j : ℕ) →
    Reached p →
    enters p s k u ≡ true →
    ungranted k u (onward p s) more ≡ true →
    gives u k (grants (after_all (onward p s) more) z) ≡ false →
    gives u j (grants (after_all (onward p s) more) z) ≡ true →
    (onward (after_all (onward p s) more) z).issue j < (onward p s).issue k) →
    ⊥
not_kept_open claim =
    let f = still_ungranted in
    let x = claim p back 2 0 broken (L (core_no 0)) 3 (reaches before) entered f.0 f.1 f.2 in
    omega (arith, f.3, next_before.4)
