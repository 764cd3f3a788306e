-- What a step that is allowed says of its core, its unit and the counter.
use Prim.Native.Nat.{◌≤◌, ◌<◌}
use mathlib.Core.Bool.{Bool, true, false, ◌&&◌, ◌||◌, not}
use mathlib.Core.Logic.{◌⊎◌, inl, inr}
use mathlib.Core.Path.{◌≡◌, refl, sym, ◌∙◌, ap}
use borrow.Author.Tests.{leb-false, ltb-false, not-false}
use Rattle.parts.specs.declared.answer.Step.TheVariants.{R, N, P, I, C, L}
use Rattle.ticket.specs.declared.kinds.CoreNo.{CoreNo}
use Rattle.ticket.specs.declared.kinds.UnitNo.{UnitNo}
use Rattle.parts.specs.State.{is_idle_lem, waits, holds, holds_one, is_away, is_dropped}
use Rattle.block.specs.Table.{core_of, unit_count}
use Rattle.block.specs.Steps.{verdict}
use Rattle.refusals.specs.Judge.{no_core, no_unit, stretched, wrong_class}
use Rattle.parts.specs.declared.kinds.State.{State}
use Rattle.parts.specs.declared.kinds.State.TheVariants.{Idle, Waiting, Holding, WaitingSecond, HoldingBoth, Away, Marked, Dropped}
use Rattle.block.specs.declared.table.Table.{Table}
use Rattle.refusals.specs.Verdict.{Allowed}
use Rattle.parts.proofs.Bools.{clash}
use Rattle.refusals.proofs.Refusals.{unless_not}

or_not : (a b : Bool) → (a || b) ≡ false → (a ≡ false) × (b ≡ false)
or_not true b e = absurd (clash refl e)
or_not false b e = (refl, e)

-- the state from its test
pub is_idle_lem_lem : (z : State) → is_idle_lem z ≡ true → z ≡ Idle
is_idle_lem_lem Idle e = refl
is_idle_lem_lem Waiting e = absurd (clash e refl)
is_idle_lem_lem Holding e = absurd (clash e refl)
is_idle_lem_lem WaitingSecond e = absurd (clash e refl)
is_idle_lem_lem HoldingBoth e = absurd (clash e refl)
is_idle_lem_lem Away e = absurd (clash e refl)
is_idle_lem_lem Marked e = absurd (clash e refl)
is_idle_lem_lem Dropped e = absurd (clash e refl)

which_away : (z : State) → is_away z ≡ true → (z ≡ Away) ⊎ (z ≡ Marked) ⊎ (z ≡ Dropped)
which_away Idle e = absurd (clash e refl)
which_away Waiting e = absurd (clash e refl)
which_away Holding e = absurd (clash e refl)
which_away WaitingSecond e = absurd (clash e refl)
which_away HoldingBoth e = absurd (clash e refl)
which_away Away e = inl refl
which_away Marked e = inr (inl refl)
which_away Dropped e = inr (inr refl)

is_holding : (z : State) → holds_one z ≡ true → z ≡ Holding
is_holding Idle e = absurd (clash e refl)
is_holding Waiting e = absurd (clash e refl)
is_holding Holding e = refl
is_holding WaitingSecond e = absurd (clash e refl)
is_holding HoldingBoth e = absurd (clash e refl)
is_holding Away e = absurd (clash e refl)
is_holding Marked e = absurd (clash e refl)
is_holding Dropped e = absurd (clash e refl)

which_waits : (z : State) → waits z ≡ true → (z ≡ Waiting) ⊎ (z ≡ WaitingSecond)
which_waits Idle e = absurd (clash e refl)
which_waits Waiting e = inl refl
which_waits Holding e = absurd (clash e refl)
which_waits WaitingSecond e = inr refl
which_waits HoldingBoth e = absurd (clash e refl)
which_waits Away e = absurd (clash e refl)
which_waits Marked e = absurd (clash e refl)
which_waits Dropped e = absurd (clash e refl)

which_holds : (z : State) → holds z ≡ true → (z ≡ Holding) ⊎ (z ≡ HoldingBoth)
which_holds Idle e = absurd (clash e refl)
which_holds Waiting e = absurd (clash e refl)
which_holds Holding e = inl refl
which_holds WaitingSecond e = absurd (clash e refl)
which_holds HoldingBoth e = inr refl
which_holds Away e = absurd (clash e refl)
which_holds Marked e = absurd (clash e refl)
which_holds Dropped e = absurd (clash e refl)

module _ (t : Table) (k : CoreNo) where
  pub record Requesting (u : UnitNo) : Type 0 where
    pub within : k.0 < t.counts.cores
    pub unit : u.0 < unit_count t
    pub state : (core_of t k.0).state ≡ Idle
    pub close : stretched t.counter t.cores t.counts.cores ≡ false

  pub record Nesting (u : UnitNo) : Type 0 where
    pub within : k.0 < t.counts.cores
    pub unit : u.0 < unit_count t
    pub state : (core_of t k.0).state ≡ Holding
    pub second : t.counts.first ≤ u.0
    pub first : (core_of t k.0).first.0 < t.counts.first

  core_there : no_core t.counts k ≡ false → k.0 < t.counts.cores
  core_there e = leb-false t.counts.cores k.0 e

  unit_there : (u : UnitNo) → no_unit t.counts u ≡ false → u.0 < unit_count t
  unit_there u e = leb-false (unit_count t) u.0 e

  pub may_request : (u : UnitNo) → verdict t (R k u) ≡ Allowed → Requesting u
  may_request u e =
      let a = unless_not (no_core t.counts k) _ _ e in
      let b = unless_not (no_unit t.counts u) _ _ a.1 in
      let c = unless_not (not (is_idle_lem (core_of t k.0).state)) _ _ b.1 in
      record {
        within = core_there a.0;
        unit = unit_there u b.0;
        state = is_idle_lem_lem (core_of t k.0).state (not-false (is_idle_lem (core_of t k.0).state) c.0);
        close = (unless_not (stretched t.counter t.cores t.counts.cores) _ _ c.1).0;
      }

  pub may_nest : (u : UnitNo) → verdict t (N k u) ≡ Allowed → Nesting u
  may_nest u e =
      let a = unless_not (no_core t.counts k) _ _ e in
      let b = unless_not (no_unit t.counts u) _ _ a.1 in
      let c = unless_not (not (holds_one (core_of t k.0).state)) _ _ b.1 in
      let d = or_not _ _ (unless_not (wrong_class t.counts (core_of t k.0).first u) _ _ c.1).0 in
      record {
        within = core_there a.0;
        unit = unit_there u b.0;
        state = is_holding (core_of t k.0).state (not-false (holds_one (core_of t k.0).state) c.0);
        second = ltb-false u.0 t.counts.first d.0;
        first = leb-false t.counts.first (core_of t k.0).first.0 d.1;
      }

  pub may_poll : verdict t (P k) ≡ Allowed → (k.0 < t.counts.cores) × (((core_of t k.0).state ≡ Waiting) ⊎ ((core_of t k.0).state ≡ WaitingSecond))
  may_poll e =
      let a = unless_not (no_core t.counts k) _ _ e in
      let b = unless_not (not (waits (core_of t k.0).state)) _ _ a.1 in
      (core_there a.0, which_waits (core_of t k.0).state (not-false (waits (core_of t k.0).state) b.0))

  pub may_interrupt :
      verdict t (I k) ≡ Allowed → (k.0 < t.counts.cores) × (((core_of t k.0).state ≡ Waiting) ⊎ ((core_of t k.0).state ≡ WaitingSecond))
  may_interrupt e =
      let a = unless_not (no_core t.counts k) _ _ e in
      let b = unless_not (holds (core_of t k.0).state) _ _ a.1 in
      let c = unless_not (not (waits (core_of t k.0).state)) _ _ b.1 in
      (core_there a.0, which_waits (core_of t k.0).state (not-false (waits (core_of t k.0).state) c.0))

  pub record ComingBack : Type 0 where
    pub within : k.0 < t.counts.cores
    pub state : ((core_of t k.0).state ≡ Away) ⊎ ((core_of t k.0).state ≡ Marked) ⊎ ((core_of t k.0).state ≡ Dropped)
    pub close : (core_of t k.0).state ≡ Dropped → stretched t.counter t.cores t.counts.cores ≡ false

  pub may_come_back : verdict t (C k) ≡ Allowed → ComingBack
  may_come_back e =
      let z = (core_of t k.0).state in
      let late = stretched t.counter t.cores t.counts.cores in
      let a = unless_not (no_core t.counts k) _ _ e in
      let b = unless_not (not (is_away z)) _ _ a.1 in
      let d = unless_not (is_dropped z && late) _ _ b.1 in
      record {
        within = core_there a.0;
        state = which_away z (not-false (is_away z) b.0);
        close = λ q. sym (ap (λ (y : State). is_dropped y && late) q) ∙ d.0;
      }

  pub may_release : verdict t (L k) ≡ Allowed → (k.0 < t.counts.cores) × (((core_of t k.0).state ≡ Holding) ⊎ ((core_of t k.0).state ≡ HoldingBoth))
  may_release e =
      let a = unless_not (no_core t.counts k) _ _ e in
      let b = unless_not (not (holds (core_of t k.0).state)) _ _ a.1 in
      (core_there a.0, which_holds (core_of t k.0).state (not-false (holds (core_of t k.0).state) b.0))
