-- Fairness' runs, computed by the plans of their steps (laws: Planned): what fairness says of a run with what its steps give as an argument. From a
-- place with a sound table the plans give the same.
use Prim.Native.Nat.{ℕ, ◌+◌, ◌<◌}
use mathlib.Core.Bool.{Bool, true, false, cond, ◌&&◌, ◌||◌, not}
use mathlib.Core.List.{List, [], ◌∷◌}
use mathlib.Core.Path.{◌≡◌, refl, ◌∙◌, ap}
use lib.Dec.{eqb, ltb}
use Rattle.ticket.specs.Order.{circle}
use Rattle.ticket.specs.declared.kinds.Grant.{Grant}
use Rattle.ticket.specs.declared.kinds.Ticket.{Ticket}
use Rattle.parts.specs.Fold.{one}
use Rattle.parts.specs.Answer.{whose, number_of}
use Rattle.parts.specs.State.{is_dropped}
use Rattle.parts.specs.Range.{in_range}
use Rattle.parts.specs.declared.answer.Step.{Step}
use Rattle.parts.specs.declared.answer.Step.TheVariants.{R, N, P, I, C, L}
use Rattle.parts.specs.declared.kinds.Counts.{Counts}
use Rattle.block.specs.Over.{over, last_place}
use Rattle.block.specs.Steps.{step}
use Rattle.block.specs.Table.{core_of}
use Rattle.block.specs.declared.table.Table.{Table}
use Rattle.block.specs.declared.stepped.Stepped.{Stepped}
use Rattle.laws.specs.Granting.{listed}
use Rattle.laws.proofs.Planned.{Fine, planned, step_planned_lem, planned_fine, over_planned}
use Rattle.fairness.specs.Run.{Place, Reached, interrupts, onward, after_all, start}
use Rattle.fairness.specs.Stretch.{grants, gives, grants_of, enters_at, enters, leaves, stretch, among, passed, interruptions}

-- The step s gave x.

abbrev accepts : Stepped → Bool
accepts x = eqb (number_of x.answer) 0

abbrev asks : Table → Step → Stepped → ℕ → Bool
asks t s x j =
    elim s [ R k u ↦ eqb k.0 j && accepts x | N k u ↦ false | P k ↦ false | I k ↦ false | C k ↦ eqb k.0 j && is_dropped (core_of t k.0).state && accepts x | L k ↦ false ]

abbrev breaks : Step → Stepped → ℕ → Bool
breaks s x j = elim s [ R k u ↦ false | N k u ↦ false | P k ↦ false | I k ↦ eqb k.0 j && accepts x | C k ↦ false | L k ↦ false ]

abbrev gone : Place → Step → Stepped → Place
gone p s x =
    record {
      table = x.table;
      issued = p.issued + one (asks p.table s x (whose s).0);
      issue = λ (j : ℕ). cond (asks p.table s x j) p.issued (p.issue j);
    }

abbrev entering : Place → Step → ℕ → ℕ → Stepped → Bool
entering p s k u x =
    accepts x && eqb (whose s).0 k && enters_at p.table s u && ltb u p.table.counts.first && not (gives u k (listed x.grants))

gone_onward : (p : Place) (s : Step) → onward p s ≡ gone p s (step p.table s)
gone_onward p (R k u) = refl
gone_onward p (N k u) = refl
gone_onward p (P k) = refl
gone_onward p (I k) = refl
gone_onward p (C k) = refl
gone_onward p (L k) = refl

breaks_interrupts : (p : Place) (s : Step) (j : ℕ) → interrupts p.table s j ≡ breaks s (step p.table s) j
breaks_interrupts p (R k u) j = refl
breaks_interrupts p (N k u) j = refl
breaks_interrupts p (P k) j = refl
breaks_interrupts p (I k) j = refl
breaks_interrupts p (C k) j = refl
breaks_interrupts p (L k) j = refl

-- The same by the plans.

abbrev pub Good : Place → Type 0
Good p = Fine p.table

abbrev plan : Place → Step → Stepped
plan p s = planned p.table s

abbrev pub plan_on : Place → Step → Place
plan_on p s = gone p s (plan p s)

abbrev pub plan_all : Place → List Step → Place
plan_all p steps = last_place plan_on p steps

abbrev pub plan_grants : Place → Step → List Grant
plan_grants p s = listed (plan p s).grants

abbrev pub plan_enters : Place → Step → ℕ → ℕ → Bool
plan_enters p s k u = entering p s k u (plan p s)

abbrev plan_interrupts : Place → Step → ℕ → Bool
plan_interrupts p s j = breaks s (plan p s) j

abbrev pub plan_leaves : ℕ → ℕ → Place → Step → Bool
plan_leaves k u p s = gives u k (plan_grants p s) || plan_interrupts p s k

abbrev pub plan_stretch : ℕ → ℕ → Place → List Step → Bool
plan_stretch k u p steps = over plan_on (λ q. true) (λ q s later. not (plan_leaves k u q s) && later) p steps

abbrev pub plan_passed : ℕ → Place → List Step → ℕ
plan_passed u p steps = over plan_on (λ q. 0) (λ q s later. grants_of u (plan_grants q s) + later) p steps

abbrev plan_counted : Place → ℕ → Place → Step → ℕ
plan_counted e k q s = one (plan_interrupts q s (whose s).0 && among e k (q.issue (whose s).0))

abbrev pub plan_interruptions : Place → ℕ → Place → List Step → ℕ
plan_interruptions e k p steps = over plan_on (λ q. 0) (λ q s later. plan_counted e k q s + later) p steps

-- what a step gives is its plan
pub plans : (p : Place) (s : Step) → Good p → step p.table s ≡ plan p s
plans p s good = step_planned_lem p.table s good.0 good.1

pub grants_planned : (p : Place) (s : Step) → Good p → grants p s ≡ plan_grants p s
grants_planned p s good = ap (λ (x : Stepped). listed x.grants) (plans p s good)

pub enters_planned : (p : Place) (s : Step) (k u : ℕ) → Good p → enters p s k u ≡ plan_enters p s k u
enters_planned p s k u good = ap (entering p s k u) (plans p s good)

interrupts_planned : (p : Place) (s : Step) (j : ℕ) → Good p → interrupts p.table s j ≡ plan_interrupts p s j
interrupts_planned p s j good = breaks_interrupts p s j ∙ ap (λ (x : Stepped). breaks s x j) (plans p s good)

pub leaves_planned : (k u : ℕ) (p : Place) (s : Step) → Good p → leaves k u p s ≡ plan_leaves k u p s
leaves_planned k u p s good = rw (grants_planned p s good, interrupts_planned p s k good)

pub onward_planned : (p : Place) (s : Step) → Good p → (onward p s ≡ plan_on p s) × Good (plan_on p s)
onward_planned p s good = (gone_onward p s ∙ ap (gone p s) (plans p s good), planned_fine p.table s good)

-- what is gathered over a run
pub gathered :
    {B : Type 0} (end : Place → B) (each by : Place → Step → B → B) →
    ((p : Place) (s : Step) (later : B) → Good p → each p s later ≡ by p s later) →
    (p : Place) (steps : List Step) →
    Good p →
    over onward end each p steps ≡ over plan_on end by p steps
gathered end each by same p steps good = over_planned Good onward plan_on end each by onward_planned same p steps good

pub all_planned : (p : Place) (steps : List Step) → Good p → after_all p steps ≡ plan_all p steps
all_planned p steps good = gathered (λ q. q) (λ q s later. later) (λ q s later. later) (λ q s later g. refl) p steps good

pub all_good : (p : Place) (steps : List Step) → Good p → Good (plan_all p steps)
unfolding over
all_good p [] good = good
all_good p (s ∷ more) good = all_good (plan_on p s) more (onward_planned p s good).1

pub stretch_planned : (k u : ℕ) (p : Place) (steps : List Step) → Good p → stretch k u p steps ≡ plan_stretch k u p steps
stretch_planned k u p steps good =
    gathered (λ q. true) (λ q s later. not (leaves k u q s) && later) (λ q s later. not (plan_leaves k u q s) && later)
    (λ q s later g. ap (λ (b : Bool). not b && later) (leaves_planned k u q s g)) p steps good

pub passed_planned : (u : ℕ) (p : Place) (steps : List Step) → Good p → passed u p steps ≡ plan_passed u p steps
passed_planned u p steps good =
    gathered (λ q. 0) (λ q s later. grants_of u (grants q s) + later) (λ q s later. grants_of u (plan_grants q s) + later)
    (λ q s later g. ap (λ (gs : List Grant). grants_of u gs + later) (grants_planned q s g)) p steps good

pub interruptions_planned :
    (e : Place) (k : ℕ) (p : Place) (steps : List Step) →
    Good p →
    interruptions e k p steps ≡ plan_interruptions e k p steps
interruptions_planned e k p steps good =
    gathered (λ q. 0)
    (λ q s later. one (interrupts q.table s (whose s).0 && among e k (q.issue (whose s).0)) + later)
    (λ q s later. plan_counted e k q s + later)
    (λ q s later g. ap (λ (b : Bool). one (b && among e k (q.issue (whose s).0)) + later) (interrupts_planned q s (whose s).0 g)) p steps
    good

-- A run from a fresh table that is in range is one that fairness speaks of.

pub reaching : (c : Counts) (n : Ticket) → in_range c ≡ true → n.0 < circle → (steps : List Step) → Reached (after_all (start c n) steps)
reaching c n good fits steps = record { counts = c; counter = n; steps = steps; good = good; counter_fits = fits; run = refl }

-- In it a core enters by the step s, after the steps before, and others follow: the places by the plans, and whom a step gives unit u there.

module _ (f : Place) (before : List Step) (s : Step) where
  abbrev e : Place
  e = onward (after_all f before) s

  abbrev p' : Place
  p' = plan_all f before

  abbrev e' : Place
  e' = plan_on p' s

  pub record Entry : Type 0 where
    pub p_good : Good p'
    pub p_is : after_all f before ≡ p'
    pub e_good : Good e'
    pub e_is : e ≡ e'
    pub later_good : (steps : List Step) → Good (plan_all e' steps)
    pub later_is : (steps : List Step) → after_all e steps ≡ plan_all e' steps
    pub later_gives : (steps : List Step) (z : Step) (u k : ℕ) → gives u k (grants (after_all e steps) z) ≡ gives u k (plan_grants (plan_all e' steps) z)

  pub entry : Good f → Entry
  entry good =
      record {
        p_good = p_good;
        p_is = p_is;
        e_good = e_good;
        e_is = e_is;
        later_good = later_good;
        later_is = later_is;
        later_gives = λ steps z u k.
            ap (λ (x : Place). gives u k (grants x z)) (later_is steps) ∙ ap (gives u k) (grants_planned (plan_all e' steps) z (later_good steps));
      }
    where
      p_good : Good p'
      p_good = all_good f before good

      p_is : after_all f before ≡ p'
      p_is = all_planned f before good

      e_good : Good e'
      e_good = (onward_planned p' s p_good).1

      e_is : e ≡ e'
      e_is = ap (λ (x : Place). onward x s) p_is ∙ (onward_planned p' s p_good).0

      later_good : (steps : List Step) → Good (plan_all e' steps)
      later_good steps = all_good e' steps e_good

      later_is : (steps : List Step) → after_all e steps ≡ plan_all e' steps
      later_is steps = ap (λ (x : Place). after_all x steps) e_is ∙ all_planned e' steps e_good
