-- The idle versions that document 01 shuts out, each by a step that they would answer wrongly: one that refuses every step, one with
-- a single answer, one that returns the table untouched, and one that works the first step and invents the rest. And, in D, one that drops nobody.
use Prim.Native.Nat.{ℕ, ◌+◌}
use mathlib.Core.Bool.{true, false}
use mathlib.Core.List.{List, [], ◌∷◌}
use mathlib.Core.Path.{◌≡◌, refl, ◌∙◌, ap}
use native.Mathlib.Omega.{arith}
use borrow.Author.Tests.{lt-leb}
use Rattle.ticket.specs.Kinds.{ticket}
use Rattle.ticket.specs.Order.{behind, compare, after}
use Rattle.ticket.specs.declared.kinds.Ticket.{Ticket}
use Rattle.parts.specs.Parts.{core_no, unit_no}
use Rattle.parts.specs.Range.{in_range}
use Rattle.parts.specs.declared.kinds.Fill.TheVariants.{Blank}
use Rattle.parts.specs.declared.kinds.Profile.TheVariants.{T, D}
use Rattle.building.specs.Build.{fresh}
use Rattle.parts.specs.Answer.{number_of}
use Rattle.parts.specs.Fold.{up_to}
use Rattle.plan.specs.Plan.{plan_step}
use Rattle.block.specs.Table.{core_of}
use Rattle.refusals.specs.Judge.{no_core, no_unit, old, stretched}
use Rattle.block.specs.Steps.{on_sound, step, moves, performed, verdict}
use Rattle.block.specs.Over.{over}
use Rattle.laws.specs.Shown.{shown}
use Rattle.parts.specs.declared.kinds.Counts.{Counts}
use Rattle.block.specs.declared.table.Table.{Table}
use Rattle.parts.specs.declared.answer.Step.{Step}
use Rattle.parts.specs.declared.answer.Step.TheVariants.{R, N, P, I, C, L}
use Rattle.block.specs.declared.stepped.Stepped.{Stepped}
use Rattle.refusals.specs.Verdict.{Allowed}
use Rattle.parts.proofs.Folds.{none_some}
use Rattle.parts.proofs.Ranging.{cores_some, cores_few, first_some}
use Rattle.laws.proofs.Settling.{settle_rest}
use Rattle.laws.proofs.Granting.{accepted}
use Rattle.laws.proofs.Keeping.{core_fresh, fresh_sound}
use Rattle.laws.proofs.Planned.{fine_fresh, shown_planned_lem}

module _ (c : Counts) (n : Ticket) (good : in_range c ≡ true) where
  abbrev t : Table
  t = fresh c n

  abbrev R00 : Step
  R00 = R (core_no 0) (unit_no 0)

  abbrev P0 : Step
  P0 = P (core_no 0)

  on_fresh : (s : Step) → step t s ≡ on_sound t s
  unfolding step
  on_fresh s = simp (fresh_sound c n good)

  first_core : no_core c (core_no 0) ≡ false
  first_core = lt-leb c.cores 0 (cores_some c good)

  first_unit : no_unit c (unit_no 0) ≡ false
  first_unit = lt-leb (c.first + c.second) 0 (omega (arith, first_some c good))

  nobody_old : stretched t.counter t.cores t.counts.cores ≡ false
  nobody_old = none_some (λ (k : ℕ). old n (core_of t k)) c.cores (λ k h. simp (core_fresh c n k (omega (arith, cores_few c good))))

  allowed : verdict t R00 ≡ Allowed
  allowed = simp (first_core, first_unit, nobody_old)

  -- the request is done, with the counter for its ticket
  request : step t R00 ≡ performed t R00
  request = on_fresh R00 ∙ accepted t R00 allowed

  pub not_refusing : number_of (step t R00).answer ≡ 0
  not_refusing = ap (λ (x : Stepped). number_of x.answer) request

  pub request_ticket : (step t R00).ticket ≡ n
  request_ticket = ap (λ (x : Stepped). x.ticket) request

  -- and a poll of the same core, which waits nowhere, is refused with 12
  pub not_single : number_of (step t P0).answer ≡ 12
  unfolding on_sound
  not_single = ap (λ (x : Stepped). number_of x.answer) (on_fresh P0) ∙ simp (first_core)

  -- the request moves the counter
  pub not_untouched : (step t R00).table.counter ≡ ticket (after n.0)
  not_untouched = ap (λ (x : Stepped). x.table.counter) request ∙ (settle_rest (moves t R00)).1

-- the run of document 01, every step of it
abbrev few : Counts
few = record { cores = 3; first = 1; second = 1; profile = T; fill = Blank }

abbrev run : List Step
run =
    R (core_no 0) (unit_no 1) ∷
    P (core_no 0) ∷
    R (core_no 2) (unit_no 0) ∷
    R (core_no 1) (unit_no 0) ∷
    I (core_no 2) ∷
    P (core_no 1) ∷
    N (core_no 1) (unit_no 1) ∷
    C (core_no 2) ∷
    P (core_no 1) ∷
    I (core_no 0) ∷
    L (core_no 0) ∷
    P (core_no 1) ∷
    L (core_no 1) ∷
    []

pub not_inventing :
    shown (fresh few (ticket 65535)) run ≡
    (0 ∷ 65535 ∷ 1 ∷ 0 ∷ []) ∷
    (1 ∷ 65535 ∷ []) ∷
    (0 ∷ 0 ∷ 0 ∷ 2 ∷ []) ∷
    (0 ∷ 1 ∷ []) ∷
    (0 ∷ 0 ∷ 0 ∷ 1 ∷ []) ∷
    (1 ∷ 1 ∷ []) ∷
    (0 ∷ 1 ∷ []) ∷
    (0 ∷ 0 ∷ []) ∷
    (2 ∷ 0 ∷ []) ∷
    (14 ∷ 0 ∷ []) ∷
    (0 ∷ 65535 ∷ 1 ∷ 1 ∷ []) ∷
    (1 ∷ 0 ∷ []) ∷
    (0 ∷ 1 ∷ 0 ∷ 2 ∷ []) ∷
    []
unfolding behind compare after up_to plan_step over
not_inventing = shown_planned_lem (fresh few (ticket 65535)) run (fine_fresh few (ticket 65535) refl) ∙ refl

-- a run of D: core 1 is away, and dropped when core 0 gives the unit up; coming back it takes a new ticket
abbrev few_d : Counts
few_d = record { cores = 3; first = 1; second = 0; profile = D; fill = Blank }

abbrev run_d : List Step
run_d =
    R (core_no 0) (unit_no 0) ∷
    P (core_no 0) ∷
    R (core_no 1) (unit_no 0) ∷
    R (core_no 2) (unit_no 0) ∷
    I (core_no 1) ∷
    L (core_no 0) ∷
    P (core_no 1) ∷
    C (core_no 1) ∷
    P (core_no 2) ∷
    []

pub drops_away :
    shown (fresh few_d (ticket 65535)) run_d ≡
    (0 ∷ 65535 ∷ 0 ∷ 0 ∷ []) ∷
    (1 ∷ 65535 ∷ []) ∷
    (0 ∷ 0 ∷ []) ∷
    (0 ∷ 1 ∷ []) ∷
    (0 ∷ 0 ∷ []) ∷
    (0 ∷ 65535 ∷ 0 ∷ 2 ∷ []) ∷
    (12 ∷ 0 ∷ []) ∷
    (0 ∷ 2 ∷ []) ∷
    (1 ∷ 1 ∷ []) ∷
    []
unfolding behind compare after up_to plan_step over
drops_away = shown_planned_lem (fresh few_d (ticket 65535)) run_d (fine_fresh few_d (ticket 65535) refl) ∙ refl
