-- The parts that steps are made of, on a sound table: where a core stands, what giving up clears, what a poll leaves, and that nothing
-- else waits to be settled or shown.
use Prim.Native.Nat.{ℕ, zero, suc, ◌<◌}
use mathlib.Core.Bool.{Bool, true, false, cond, ◌&&◌, ◌||◌, not}
use mathlib.Core.List.{List, [], ◌∷◌}
use mathlib.Core.Logic.{◌⊎◌, inl, inr, ⊎_elim, ◌≢◌}
use mathlib.Core.Path.{◌≡◌, refl, sym, ◌∙◌, ap, ap₂, subst}
use native.Mathlib.Omega.{arith}
use lib.Dec.{eqb}
use lib.ListN.{get_or, set}
use lib.Seq.{get_or-set_other, set-get_or}
use borrow.Author.Tests.{eqb-true, eq-eqb, ne_eqb}
use Rattle.ticket.specs.declared.kinds.CoreNo.{CoreNo}
use Rattle.ticket.specs.declared.kinds.Ticket.{Ticket}
use Rattle.parts.specs.Fold.{one}
use Rattle.parts.specs.State.{is_idle_lem, is_marked, is_dropped, stands, holds_both, two_stage_lem, waits}
use Rattle.parts.specs.Parts.{cores, units, blank, standing, idle, absent_unit, register_in, registered}
use Rattle.parts.specs.declared.kinds.Register.{Register}
use Rattle.parts.specs.declared.kinds.LockUnit.{LockUnit}
use Rattle.parts.specs.declared.kinds.Core.{Core}
use Rattle.parts.specs.declared.kinds.State.{State}
use Rattle.parts.specs.declared.kinds.State.TheVariants.{Idle, Waiting, Holding, WaitingSecond, HoldingBoth, Away, Marked, Dropped}
use Rattle.parts.specs.declared.answer.Step.TheVariants.{P}
use Rattle.settling.specs.Line.{flags, next}
use Rattle.effects.specs.Effect.{request, enter_again, go_on, come_back, heir, hold, inherit, wait}
use Rattle.effects.specs.declared.kinds.Effect.{Effect}
use Rattle.block.specs.Table.{core_of, unit_of, register_of, with_register, with_core}
use Rattle.block.specs.Sound as S
use Rattle.block.specs.Sound.{sound}
use Rattle.block.specs.Steps.{give_up, awaited, effect_on, affected, moves}
use Rattle.block.specs.declared.table.Table.{Table}
use Rattle.parts.proofs.Along.{same_or_not}
use Rattle.parts.proofs.Bools.{and_left, clash}
use Rattle.parts.proofs.Folds.{count_cong, at_some}
use Rattle.block.proofs.Access.{unit_other}
use Rattle.block.proofs.Parts.{parts}
use Rattle.block.proofs.Suited.{live_busy, stands_live}
use Rattle.block.proofs.Touched.{Calm, Quiet, QuietTable}
use Rattle.block.proofs.Standing.{first_in, second_after, bare_one, bare_two, sound_quiet}
use Rattle.block.proofs.Touching.{give_up_one, give_up_two}

-- a core that waits stands
pub waiting_stands : (z : State) → waits z ≡ true → stands z ≡ true
waiting_stands Idle e = e
waiting_stands Waiting e = refl
waiting_stands Holding e = refl
waiting_stands WaitingSecond e = refl
waiting_stands HoldingBoth e = refl
waiting_stands Away e = e
waiting_stands Marked e = refl
waiting_stands Dropped e = e

-- a changed register leaves the other units quiet
pub quiet_elsewhere :
    (t : Table) (u k : ℕ) (r : Register) → QuietTable t → (v : ℕ) → v < units → v ≢ u → Quiet (unit_of (with_register t u k r) v)
quiet_elsewhere t u k r quiet v l d = subst Quiet (sym (unit_other t u v _ d)) (quiet v l)

-- a core's register at its first unit cleared, and those at both
abbrev pub one_cleared : Table → ℕ → Table
one_cleared t k = with_register t (core_of t k).first.0 k blank

abbrev pub two_cleared : Table → ℕ → Table
two_cleared t k = with_register (one_cleared t k) (core_of t k).second.0 k blank

-- giving up touches the units where the core stood
module _ (t : Table) (k : ℕ) (h : k < cores) (s : sound t ≡ true) (at : stands (core_of t k).state ≡ true) where
  abbrev was : Core
  was = core_of t k

  live : is_idle_lem was.state ≡ false
  live = live_busy was.state (stands_live was.state at)

  pub first_unit : was.first.0 < units
  first_unit = first_in t (parts t s) k h live

  pub second_unit : two_stage_lem was.state ≡ true → (was.first.0 < was.second.0) × (was.second.0 < units)
  second_unit two = second_after t (parts t s) k h live two

  pub clears_one : two_stage_lem was.state ≡ false → give_up t k ≡ one_cleared t k
  clears_one one = give_up_one t k was.first.0 first_unit (bare_one t (parts t s) k h one)

  pub clears_two : two_stage_lem was.state ≡ true → give_up t k ≡ two_cleared t k
  clears_two two =
      let b = second_unit two in
      give_up_two t k was.first.0 was.second.0 b.0 b.1 (bare_two t (parts t s) k h)

  pub one_quiet : (v : ℕ) → v < units → v ≢ was.first.0 → Quiet (unit_of (one_cleared t k) v)
  one_quiet = quiet_elsewhere t was.first.0 k blank (sound_quiet t (parts t s))

  pub two_quiet : (v : ℕ) → v < units → v ≢ was.first.0 → v ≢ was.second.0 → Quiet (unit_of (two_cleared t k) v)
  two_quiet v l d d' = subst Quiet (sym (unit_other (one_cleared t k) was.second.0 v _ d')) (one_quiet v l d)

-- Polling: what the step leaves when it finds its flag set, and when it carries the ticket n; and the ticket that it carries: the oldest
-- of its own and those in line at its first unit

abbrev pub holding : Table → ℕ → Table
holding t k = affected t k (hold t.counter (core_of t k))

abbrev pub carrying : Table → ℕ → Ticket → Table
carrying t k n = affected t k (inherit t.counter (core_of t k) n)

abbrev pub inherited : Table → Core → Ticket
inherited t c = heir c.own (next cores (unit_of t c.first.0))

-- the effect of a poll, by the flag and then by the stage
pub poll_cases :
    (t : Table) (k : CoreNo) (Q : Effect → Type 0) →
    let c = core_of t k.0 in
    let flag = (register_of t (awaited c) k.0).flag in
    (flag ≡ true → Q (hold t.counter c)) →
    (flag ≡ false → two_stage_lem c.state ≡ true → Q (inherit t.counter c (inherited t c))) →
    (flag ≡ false → two_stage_lem c.state ≡ false → Q (wait t.counter c)) →
    Q (effect_on t (P k))
poll_cases t k Q set heirs stands = go (register_of t (awaited c) k.0).flag refl (two_stage_lem c.state) refl
  where
    c : Core
    c = core_of t k.0

    go :
        (flag : Bool) →
        (register_of t (awaited c) k.0).flag ≡ flag →
        (two : Bool) →
        two_stage_lem c.state ≡ two →
        Q (cond flag (hold t.counter c) (cond two (inherit t.counter c (inherited t c)) (wait t.counter c)))
    go true e two f = set e
    go false e true f = heirs e f
    go false e false f = stands e f

-- the effect of coming back, by what the core is: away in T; in D still registered, or dropped
pub come_cases :
    (m : Ticket) (c : Core) (Q : Effect → Type 0) →
    (c.state ≡ Away → Q (enter_again m c)) →
    (c.state ≡ Marked → Q (go_on m c)) →
    (c.state ≡ Dropped → Q (request c.first m)) →
    (c.state ≡ Away) ⊎ (c.state ≡ Marked) ⊎ (c.state ≡ Dropped) →
    Q (come_back m c)
come_cases m c Q away marked gone =
    ⊎_elim (λ e. is Away e (away e)) (λ y. ⊎_elim (λ e. is Marked e (marked e)) (λ e. is Dropped e (gone e)) y)
  where
    by : State → Effect
    by z = cond (is_dropped z) (request c.first m) (cond (is_marked z) (go_on m c) (enter_again m c))

    is : (z : State) → c.state ≡ z → Q (by z) → Q (come_back m c)
    is z e = subst (λ (y : State). Q (by y)) (sym e)

-- a core written as it was
pub same_core : (t : Table) (k : ℕ) → with_core t k (core_of t k) ≡ t
same_core t k = ap (λ (l : List Core). record { units = t.units; cores = l; counts = t.counts; counter = t.counter }) (set-get_or t.cores k idle)

-- and so of the table that a poll leaves before settling: a core that waits leaves it as it was
pub poll_moves :
    (t : Table) (k : CoreNo) (Q : Table → Type 0) →
    let c = core_of t k.0 in
    let flag = (register_of t (awaited c) k.0).flag in
    (flag ≡ true → Q (holding t k.0)) →
    (flag ≡ false → two_stage_lem c.state ≡ true → Q (carrying t k.0 (inherited t c))) →
    Q t →
    Q (moves t (P k))
poll_moves t k Q set heirs stands =
    poll_cases t k (λ (e : Effect). Q (affected t k.0 e)) set heirs (λ e f. subst Q (sym (same_core t k.0)) stands)

-- what stands at a changed place: the new one, or, past the end, what stood there
set_cases : {A : Type 0} (l : List A) (i : ℕ) (a d : A) → (get_or (set l i a) i d ≡ a) ⊎ (set l i a ≡ l)
set_cases [] i a d = inr refl
set_cases (x ∷ xs) zero a d = inl refl
set_cases (x ∷ xs) (suc i) a d =
    ⊎_elim (λ e. inl e) (λ e. inr (ap (λ (l : List _). x ∷ l) e)) (set_cases xs i a d)

-- a register changed without touching its flag leaves the unit's flags
pub flags_kept : (x : LockUnit) (k : ℕ) (r : Register) → (register_in x k).flag ≡ r.flag → flags cores (registered x k r) ≡ flags cores x
flags_kept x k r e = count_cong (λ (j : ℕ). (register_in (registered x k r) j).flag) (λ (j : ℕ). (register_in x j).flag) cores (λ j h. go j (same_or_not j k))
  where
    go : (j : ℕ) → (j ≡ k) ⊎ (j ≢ k) → (get_or (set x.registers k r) j blank).flag ≡ (get_or x.registers j blank).flag
    go j (inl q) =
        subst (λ (m : ℕ). (get_or (set x.registers k r) m blank).flag ≡ (get_or x.registers m blank).flag) (sym q)
        (⊎_elim
        (λ new. ap (λ (z : Register). z.flag) new ∙ sym e)
        (λ same. ap (λ (l : List Register). (get_or l k blank).flag) same)
        (set_cases x.registers k r blank))
    go j (inr d) = ap (λ (z : Register). z.flag) (get_or-set_other x.registers k j r blank d)

second_of : (a b p q e : Bool) → a ≡ false → b ≡ true → cond a p (cond b q e) ≡ true → q ≡ true
second_of true b p q e x y z = absurd (clash refl x)
second_of false true p q e x y z = z
second_of false false p q e x y z = absurd (clash y refl)

module _ (t : Table) (k : ℕ) (h : k < cores) (s : sound t ≡ true) (w : waits (core_of t k).state ≡ true) where
  abbrev c : Core
  c = core_of t k

  at : stands c.state ≡ true
  at = waiting_stands c.state w

  -- at the second stage the changed register keeps its flag clear, and the unit has its one flag elsewhere
  module _ (two : two_stage_lem c.state ≡ true) (clear : (register_of t c.second.0 k).flag ≡ false) where
    stands_there : (register_of t c.second.0 k).valid ≡ true
    stands_there =
        let b = second_unit t k h s at two in
        let r = register_of t c.second.0 k in
        let apart : (stands c.state && eqb c.second.0 c.first.0) ≡ false =
        ap₂ ◌&&◌ at (ne_eqb c.second.0 c.first.0 (λ e. omega arith)) in
        let here : (two_stage_lem c.state && eqb c.second.0 c.second.0) ≡ true =
        ap₂ ◌&&◌ two (eq-eqb c.second.0 c.second.0 refl) in
        let there = second_of _ _ _ (S.shows r c.carried (holds_both c.state)) _ apart here (((parts t s).unit c.second.0 b.1).agrees k h) in
        and_left r.valid (eqb r.ticket.0 c.carried.0) (and_left (r.valid && eqb r.ticket.0 c.carried.0) (r.flag || not (holds_both c.state)) there)

    flagged_there : flags cores (unit_of t c.second.0) ≡ 1
    flagged_there =
        let x = unit_of t c.second.0 in
        let b = second_unit t k h s at two in
        eqb-true (flags cores x) (one (S.any_valid x)) ((parts t s).unit c.second.0 b.1).one_flag ∙
        ap one (at_some (λ (j : ℕ). (register_in x j).valid) cores k h stands_there)

    pub carrying_calm : (n : Ticket) (v : ℕ) → v < units → Calm (unit_of (carrying t k n) v)
    carrying_calm n v l = go (same_or_not v c.second.0)
      where
        go : (v ≡ c.second.0) ⊎ (v ≢ c.second.0) → Calm (unit_of (carrying t k n) v)
        go (inl q) =
            subst (λ (m : ℕ). Calm (unit_of (carrying t k n) m)) (sym q)
            (⊎_elim
            (λ new. subst Calm (sym new) (λ none. absurd (let e = flags_kept (unit_of t c.second.0) k (standing n) clear in omega (arith, e, none, flagged_there))))
            (λ same. subst Calm (ap (λ (l : List LockUnit). get_or l c.second.0 absent_unit) (sym same)) (sound_quiet t (parts t s) c.second.0 (second_unit t k h s at two).1).0)
            (set_cases t.units c.second.0 _ absent_unit))
        go (inr d) = subst Calm (sym (unit_other t c.second.0 v _ d)) (sound_quiet t (parts t s) v l).0

-- at the second stage the awaited unit is the second
pub awaited_second :
    (t : Table) (k : ℕ) → two_stage_lem (core_of t k).state ≡ true → (register_of t (awaited (core_of t k)) k).flag ≡ false → (register_of t (core_of t k).second.0 k).flag ≡ false
awaited_second t k two flag =
    ap (λ (b : Bool). (register_of t (cond b (core_of t k).second.0 (core_of t k).first.0) k).flag) (sym two) ∙ flag
