-- A run of a sound table, computed by the plans of its steps. A plan looks at the core and the units that its step touches, and at as many
-- cores as the table has, so that what is computed does not grow with the greatest number of cores; so does skipping, which in D comes first. Each
-- step is its plan, by the parts, and leaves a table that is sound again.
use Prim.Native.Nat.{ℕ}
use mathlib.Core.Bool.{true}
use mathlib.Core.List.{List, [], ◌∷◌}
use mathlib.Core.Path.{◌≡◌, refl, sym, ◌∙◌, ap, subst}
use Rattle.ticket.specs.declared.kinds.Ticket.{Ticket}
use Rattle.parts.specs.Range.{in_range}
use Rattle.parts.specs.declared.kinds.Counts.{Counts}
use Rattle.parts.specs.declared.answer.Step.{Step}
use Rattle.places.specs.Places.{core_place, unit_place, other_place}
use Rattle.plan.specs.Plan.{part_of, plan_step}
use Rattle.block.specs.Over.{over, last_place}
use Rattle.block.specs.PutBack.{put_back}
use Rattle.block.specs.Sound.{sound}
use Rattle.block.specs.Steps.{late, step}
use Rattle.block.specs.Skipping.{skipped}
use Rattle.block.specs.Table.{core_of, unit_of, Shaped}
use Rattle.block.specs.declared.stepped.Stepped.{Stepped}
use Rattle.block.specs.declared.table.Table.{Table}
use Rattle.block.proofs.ByParts.{by_parts}
use Rattle.block.proofs.DroppedFirst.{skip_first, skipped_sound, skipped_shaped, skipped_present}
use Rattle.building.specs.Build.{fresh}
use Rattle.laws.specs.Shown.{fields, shown}
use Rattle.laws.proofs.Keeping.{fresh_shaped, fresh_sound}
use Rattle.laws.proofs.Claims.{on_sound_lem, keeps_sound}

-- the plan of a step, put back
abbrev plan_on : Table → Step → Stepped
plan_on t s =
    let k = core_place s in
    let c = core_of t k.0 in
    let i = unit_place s c in
    let j = other_place s c in
    put_back t k i j
    (plan_step s t.counts t.counter (late t) c (part_of k.0 (unit_of t i.0)) (part_of k.0 (unit_of t j.0)))

-- on the table from which those away in front are dropped
abbrev pub planned : Table → Step → Stepped
planned t s = plan_on (skipped t s) s

pub step_planned_lem : (t : Table) (s : Step) → Shaped t → sound t ≡ true → step t s ≡ planned t s
step_planned_lem t s shaped ok =
    on_sound_lem t s ok ∙
    skip_first t s shaped ok ∙
    sym (by_parts (skipped t s) s (skipped_shaped t s shaped ok) (skipped_sound t s shaped ok) (skipped_present t s shaped ok))

-- what a run keeps: the arrays' lengths, and that the table is sound
abbrev pub Fine : Table → Type 0
Fine t = Shaped t × (sound t ≡ true)

pub fine_fresh : (c : Counts) (n : Ticket) → in_range c ≡ true → Fine (fresh c n)
fine_fresh c n good = (fresh_shaped c n, fresh_sound c n good)

pub planned_fine : (t : Table) (s : Step) → Fine t → Fine (planned t s).table
planned_fine t s fine =
    let kept = keeps_sound t s fine.0 fine.1 in
    subst (λ (x : Stepped). Fine x.table) (step_planned_lem t s fine.0 fine.1) (kept.1, kept.0)

-- what is gathered over a run is gathered over its plans, where each turn gives the same from places of which G holds
pub over_planned :
    {A B : Type 0} (G : A → Type 0) (on by : A → Step → A) (end : A → B) (each plans : A → Step → B → B) →
    ((p : A) (s : Step) → G p → (on p s ≡ by p s) × G (by p s)) →
    ((p : A) (s : Step) (later : B) → G p → each p s later ≡ plans p s later) →
    (p : A) (steps : List Step) →
    G p →
    over on end each p steps ≡ over by end plans p steps
unfolding over
over_planned G on by end each plans moves gives p [] good = refl
over_planned G on by end each plans moves gives p (s ∷ more) good =
    let next = moves p s good in
    gives p s (over on end each (on p s) more) good ∙
    ap (plans p s)
    (ap (λ (q : _). over on end each q more) next.0 ∙ over_planned G on by end each plans moves gives (by p s) more next.1)

-- a run's table
pub table_planned_lem : (t : Table) (s : Step) → Fine t → ((step t s).table ≡ (planned t s).table) × Fine (planned t s).table
table_planned_lem t s fine = (ap (λ (x : Stepped). x.table) (step_planned_lem t s fine.0 fine.1), planned_fine t s fine)

abbrev pub table_planned : Table → List Step → Table
table_planned t steps = last_place (λ q s. (planned q s).table) t steps

pub last_planned : (t : Table) (steps : List Step) → Fine t → last_place (λ q s. (step q s).table) t steps ≡ table_planned t steps
last_planned =
    over_planned Fine (λ q s. (step q s).table) (λ q s. (planned q s).table) (λ q. q) (λ q s later. later) (λ q s later. later) table_planned_lem
    (λ q s later fine. refl)

pub last_fine : (t : Table) (steps : List Step) → Fine t → Fine (table_planned t steps)
unfolding over
last_fine t [] fine = fine
last_fine t (s ∷ more) fine = last_fine (planned t s).table more (planned_fine t s fine)

-- what the tester sees of it
abbrev pub shown_planned : Table → List Step → List (List ℕ)
shown_planned t steps = over (λ q s. (planned q s).table) (λ q. []) (λ q s later. fields (planned q s) ∷ later) t steps

pub shown_planned_lem : (t : Table) (steps : List Step) → Fine t → shown t steps ≡ shown_planned t steps
shown_planned_lem =
    over_planned Fine (λ q s. (step q s).table) (λ q s. (planned q s).table) (λ q. []) (λ q s later. fields (step q s) ∷ later)
    (λ q s later. fields (planned q s) ∷ later)
    table_planned_lem
    (λ q s later fine. ap (λ (x : Stepped). fields x ∷ later) (step_planned_lem q s fine.0 fine.1))
