-- Whom settling would drop. After a step of a sound table nobody who is away is next at a unit without a flag, but where the step gave up the unit's flag
-- in D, and one who was away was next: who is in line and away is marked so, and there a flag was set before. Where those in front are dropped first,
-- settling drops nobody.
use Prim.Native.Nat.{ℕ, ◌<◌, ◌≤◌}
use mathlib.Core.Bool.{Bool, true, false, cond, ◌&&◌, ◌||◌, not}
use mathlib.Core.List.{List}
use mathlib.Core.Logic.{⊎_elim, ◌≢◌}
use mathlib.Core.Path.{◌≡◌, refl, sym, ◌∙◌, ap}
use native.Mathlib.Omega.{arith}
use lib.ListN.{get_or}
use borrow.Author.Tests.{eqb-true, lt-ltb}
use Rattle.ticket.specs.declared.kinds.CoreNo.{CoreNo}
use Rattle.ticket.specs.declared.kinds.Ticket.{Ticket}
use Rattle.parts.specs.Answer.{whose}
use Rattle.parts.specs.Fold.{one}
use Rattle.parts.specs.Profile.{dequeues}
use Rattle.parts.specs.State.{is_away, is_marked, is_dropped, stands, two_stage_lem, waits, holds}
use Rattle.parts.specs.Parts.{cores, units, absent_unit, register_in}
use Rattle.parts.specs.declared.answer.Step.{Step}
use Rattle.parts.specs.declared.answer.Step.TheVariants.{R, N, P, I, C, L}
use Rattle.parts.specs.declared.kinds.Core.{Core}
use Rattle.parts.specs.declared.kinds.Counts.{Counts}
use Rattle.parts.specs.declared.kinds.LockUnit.{LockUnit}
use Rattle.parts.specs.declared.kinds.Profile.{Profile}
use Rattle.parts.specs.declared.kinds.Profile.TheVariants.{T, D}
use Rattle.parts.specs.declared.kinds.Register.{Register}
use Rattle.parts.specs.declared.kinds.State.{State}
use Rattle.parts.specs.declared.kinds.State.TheVariants.{Idle, Waiting, Holding, WaitingSecond, HoldingBoth, Away, Marked, Dropped}
use Rattle.settling.specs.Line.{flags, in_line, next, stored}
use Rattle.settling.specs.Dropping.{away_as}
use Rattle.settling.specs.Best.{Best, Nobody, Won}
use Rattle.refusals.specs.Verdict.{Allowed}
use Rattle.effects.specs.Effect.{request, interrupt, enter_again, go_on, come_back}
use Rattle.effects.specs.declared.kinds.Effect.{Effect}
use Rattle.block.specs.Table.{core_of, unit_of, register_of, Shaped}
use Rattle.block.specs.Parts.{Sound}
use Rattle.block.specs.Sound as S
use Rattle.block.specs.Sound.{sound}
use Rattle.block.specs.Steps.{verdict, awaited, effect_on, affected, moves}
use Rattle.block.specs.Skipping.{gives_up, skips}
use Rattle.block.specs.declared.table.Table.{Table}
use Rattle.parts.proofs.Bools.{and_both, not_true_false, clash}
use Rattle.parts.proofs.Folds.{at_some, count_change, count_none}
use Rattle.settling.proofs.Picking.{next_won}
use Rattle.settling.proofs.NextInLine.{won_left, stored_next}
use Rattle.block.proofs.Parts.{parts}
use Rattle.block.proofs.Almost.{Almost}
use Rattle.block.proofs.Suited.{single_in_D, marked_in_D, none_second}
use Rattle.block.proofs.Touched.{AllPresent}
use Rattle.block.proofs.Standing.{sound_quiet}
use Rattle.block.proofs.Allows.{may_request, may_nest, may_interrupt, may_come_back, may_release}
use Rattle.block.proofs.Agreeing.{AtFirst, AtSecond, flag_at, in_line_lem, line_marked}
use Rattle.block.proofs.Moving.{Moved}
use Rattle.block.proofs.Stepping.{poll_cases}
use Rattle.block.proofs.Kept.{allowed_core, moves_almost, moves_core, moves_moved}

-- a unit of a sound table with a valid register has one flag
pub one_there : (t : Table) → Sound t → (u j : ℕ) → u < units → j < cores → (register_of t u j).valid ≡ true → flags cores (unit_of t u) ≡ 1
one_there t s u j h l v =
    eqb-true (flags cores (unit_of t u)) (one (S.any_valid (unit_of t u))) (s.unit u h).one_flag ∙
    ap one (at_some (λ (i : ℕ). (register_in (unit_of t u) i).valid) cores j l v)

-- in D a flag is set where the core first asked, of one that stands and is not away
pub record Flagged (t : Table) (u k : ℕ) : Type 0 where
  pub first : u ≡ (core_of t k).first.0
  pub stands : stands (core_of t k).state ≡ true
  pub here : is_away (core_of t k).state ≡ false

stands_here : (z : State) → stands z ≡ true → is_marked z ≡ false → is_away z ≡ false
stands_here Idle s m = refl
stands_here Waiting s m = refl
stands_here Holding s m = refl
stands_here WaitingSecond s m = refl
stands_here HoldingBoth s m = refl
stands_here Away s m = absurd (clash s refl)
stands_here Marked s m = absurd (clash refl m)
stands_here Dropped s m = absurd (clash s refl)

pub flag_first : (t : Table) → Sound t → t.counts.profile ≡ D → (u k : ℕ) → u < units → k < cores → (register_of t u k).flag ≡ true → Flagged t u k
flag_first t s d u k h l f = ⊎_elim first second (flag_at (core_of t k) u (register_of t u k) ((s.unit u h).agrees k l) f)
  where
    z : State
    z = (core_of t k).state

    unmarked : (m b : Bool) → b ≡ true → (not m || not b) ≡ true → m ≡ false
    unmarked true b e q = absurd (clash e (not_true_false b q))
    unmarked false b e q = refl

    first : AtFirst (core_of t k) u (register_of t u k) → Flagged t u k
    first a =
        record {
          first = a.unit;
          stands = a.stands;
          here = stands_here z a.stands (unmarked (is_marked z) (register_of t u k).flag f a.flagless);
        }

    second : AtSecond (core_of t k) u (register_of t u k) → Flagged t u k
    second a = absurd (clash a.two (single_in_D t.counts.profile z d (s.core k l).suited))

-- a step that marks its core leaves all registers
marks_stay : (t : Table) (s : Step) → (effect_on t s).core.state ≡ Marked → (moves t s).units ≡ t.units
marks_stay t (R k u) e = absurd (clash (ap is_marked e) refl)
marks_stay t (N k u) e = absurd (clash (ap is_marked e) refl)
marks_stay t (P k) e =
    poll_cases t k (λ (e : Effect). e.core.state ≡ Marked → (affected t k.0 e).units ≡ t.units) (λ f q. refl)
    (λ f two q. absurd (clash two (ap two_stage_lem q))) (λ f one q. refl) e
marks_stay t (I k) e = go t.counts.profile (register_of t (awaited c) k.0).flag e
  where
    c : Core
    c = core_of t k.0

    go : (p : Profile) (f : Bool) → let e = interrupt p t.counter c f in e.core.state ≡ Marked → (affected t k.0 e).units ≡ t.units
    go T f q = absurd (clash (ap is_marked q) refl)
    go D true q = absurd (clash (ap is_marked q) refl)
    go D false q = refl
marks_stay t (C k) e = absurd (waits_on e)
  where
    c : Core
    c = core_of t k.0

    waits_on : (come_back t.counter c).core.state ≡ Marked → ⊥
    waits_on q = go (is_dropped c.state) (is_marked c.state) q
      where
        go : (a b : Bool) → (cond a (request c.first t.counter) (cond b (go_on t.counter c) (enter_again t.counter c))).core.state ≡ Marked → ⊥
        go true b q = clash (ap is_marked q) refl
        go false true q = clash (ap is_marked q) refl
        go false false q = clash (ap is_marked q) refl
marks_stay t (L k) e = absurd (clash (ap is_marked e) refl)

-- a step of D that takes a flag away gives up what its core has
gave_up :
    (t : Table) (s : Step) → Shaped t → sound t ≡ true → t.counts.profile ≡ D → verdict t s ≡ Allowed →
    (u : ℕ) → u < units →
    (register_of t u (whose s).0).flag ≡ true →
    (register_of (moves t s) u (whose s).0).flag ≡ false →
    gives_up s (core_of t (whose s).0).state ≡ true
gave_up t (R k v) shaped ok d may u h f g =
    let q = flag_first t (parts t ok) d u k.0 h (moves_core t shaped (parts t ok) (R k v) may) f in
    absurd (clash q.stands (ap stands (may_request t k v may).state))
gave_up t (N k v) shaped ok d may u h f g =
    let r = may_nest t k v may in
    absurd (let z = none_second t.counts (parts t ok).counts d in omega (arith, r))
gave_up t (P k) shaped ok d may u h f g =
    absurd
    (poll_cases t k (λ (e : Effect). (register_of (affected t k.0 e) u k.0).flag ≡ false → ⊥) (λ b q. clash f q)
    (λ b two q.
    clash two
    (single_in_D t.counts.profile (core_of t k.0).state d ((parts t ok).core k.0 (moves_core t shaped (parts t ok) (P k) may)).suited))
    (λ b one q. clash f q) g)
gave_up t (I k) shaped ok d may u h f g = ⊎_elim (λ e. ap waits e) (λ e. ap waits e) (may_interrupt t k may).1
gave_up t (C k) shaped ok d may u h f g =
    let q = flag_first t (parts t ok) d u k.0 h (moves_core t shaped (parts t ok) (C k) may) f in
    absurd
    (⊎_elim (λ e. clash (ap is_away e) q.here) (λ y. ⊎_elim (λ e. clash (ap is_away e) q.here) (λ e. clash (ap is_away e) q.here) y)
    (may_come_back t k may).state)
gave_up t (L k) shaped ok d may u h f g = ⊎_elim (λ e. ap holds e) (λ e. ap holds e) (may_release t k may).1

-- Core j is next, and away, at a unit without a flag, after an allowed step of a sound table: the step skips

module _ (t : Table) (s : Step) (shaped : Shaped t) (ok : sound t ≡ true) (may : verdict t s ≡ Allowed) where
  abbrev t' : Table
  t' = moves t s

  abbrev k : ℕ
  k = (whose s).0

  was : Sound t
  was = parts t ok

  almost : Almost t'
  almost = moves_almost t shaped was s may

  m : Moved t t' k (effect_on t s).core
  m = moves_moved t shaped was s may

  small : k < cores
  small = moves_core t shaped was s may

  module _ (u : ℕ) (h : u < units) (none : flags cores (unit_of t' u) ≡ 0) (j : CoreNo) (n : Ticket) (won : next cores (unit_of t' u) ≡ Won j n) where
    lined : (in_line (register_of t' u j.0) ≡ true) × ((register_of t' u j.0).ticket ≡ n) × (j.0 < cores)
    lined = next_won cores (unit_of t' u) j n won

    module _ (away : is_away (core_of t' j.0).state ≡ true) where
      marked : (core_of t' j.0).state ≡ Marked
      marked = (line_marked (core_of t' j.0) u (register_of t' u j.0) (almost.agrees u h j.0 lined.2) lined.0 away).0

      dequeueing : t.counts.profile ≡ D
      dequeueing =
          ap (λ (c : Counts). c.profile) (sym m.counts) ∙
          marked_in_D t'.counts.profile (core_of t' j.0).state marked (almost.core j.0 lined.2).suited

      -- it is not the core of the step: that is marked only where no register changes
      another : j.0 ≢ k
      another own = clash refl (ap won_by (sym won ∙ ap (next cores) same ∙ calm))
        where
          won_by : Best → Bool
          won_by b = elim b [ Nobody ↦ false | Won i p ↦ true ]

          same : unit_of t' u ≡ unit_of t u
          same =
              ap (λ (l : List LockUnit). get_or l u absent_unit)
              (marks_stay t s (sym (ap (λ (c : Core). c.state) m.becomes) ∙ ap (λ (i : ℕ). (core_of t' i).state) (sym own) ∙ marked))

          calm : next cores (unit_of t u) ≡ Nobody
          calm = (sound_quiet t was u h).0 (ap (flags cores) (sym same) ∙ none)

      -- so it stood there before, and the step's core had the flag
      lost : ((register_of t u k).flag ≡ true) × ((register_of t' u k).flag ≡ false)
      lost =
          let there = m.registers u h j.0 another in
          let valid = sym (ap (λ (r : Register). r.valid) there) ∙ (in_line_lem (register_of t' u j.0) lined.0).0 in
          let before = one_there t was u j.0 h lined.2 valid in
          let change =
          count_change (λ (i : ℕ). (register_of t' u i).flag) (λ (i : ℕ). (register_of t u i).flag) cores k small
          (λ i d. ap (λ (r : Register). r.flag) (m.registers u h i d)) in
          (counted (register_of t u k).flag (omega arith), count_none (λ (i : ℕ). (register_of t' u i).flag) cores none k small)
        where
          counted : (b : Bool) → 1 ≤ one b → b ≡ true
          counted true e = refl
          counted false e = absurd (let z : 1 ≤ 0 = e in omega arith)

      flagged : Flagged t u k
      flagged = flag_first t was dequeueing u k h small lost.0

      -- and it was next
      next_before : next cores (unit_of t u) ≡ Won j n
      next_before =
          won_left cores (unit_of t' u) (unit_of t u) k (λ i d. sym (m.registers u h i d)) j n won another
          (ap (λ (b : Bool). (register_of t u k).valid && not b) lost.0 ∙ and_false (register_of t u k).valid)
        where
          and_false : (b : Bool) → (b && false) ≡ false
          and_false true = refl
          and_false false = refl

      skips_so : skips t s ≡ true
      skips_so =
          and_both
          (and_both
          (and_both (and_both (ap dequeues dequeueing) (lt-ltb k t.counts.cores (allowed_core t shaped was s may)))
          (gave_up t s shaped ok dequeueing may u h lost.0 lost.1))
          (ap (λ (v : ℕ). (register_of t v k).flag) (sym flagged.first) ∙ lost.0))
          (ap (λ (v : ℕ). away_as t.cores (stored (unit_of t v).next)) (sym flagged.first) ∙
          ap (away_as t.cores) (stored_next cores (unit_of t u) (was.unit u h).next (omega arith) ∙ next_before) ∙
          ap (λ (c : Core). is_away c.state) (sym (m.others j.0 another)) ∙
          away)

  pub moves_present : skips t s ≡ false → AllPresent t'
  moves_present stays u h none = go (next cores (unit_of t' u)) refl
    where
      go : (b : Best) → next cores (unit_of t' u) ≡ b → away_as t'.cores b ≡ false
      go Nobody e = refl
      go (Won j n) e = by (is_away (core_of t' j.0).state) refl
        where
          by : (a : Bool) → is_away (core_of t' j.0).state ≡ a → a ≡ false
          by true q = absurd (clash (skips_so u h none j n e q) stays)
          by false q = refl
