-- The grants of settling, and so those of every step. Where nobody next is away, settling lists exactly the grants that are due, by rising unit, since a
-- unit is settled as it was before the others, and whoever is granted waits there. An accepted step leaves at most one unit of each class to
-- settle.
use Prim.Native.Nat.{ℕ, suc, ◌≤◌, ◌<◌}
use mathlib.Core.Bool.{Bool, true, false, cond, ◌&&◌, ◌||◌, not}
use mathlib.Core.List.Memᴰ
use mathlib.Core.List.{List, [], ◌∷◌, ◌++◌, Memᴰ}
use mathlib.Core.Logic.{◌⊎◌, inl, inr, ⊎_elim, ◌≢◌}
use mathlib.Core.Path.{◌≡◌, refl, sym, ◌∙◌, ap, subst}
use native.Mathlib.Nat.{not-suc-le-zero}
use native.Mathlib.Omega.{arith}
use lib.Dec.{eqb, ltb}
use lib.ListN.{get_or}
use borrow.Author.Tests.{eqb-true, eq-eqb}
use Rattle.ticket.specs.Kinds.{grant}
use Rattle.ticket.specs.declared.kinds.CoreNo.{CoreNo}
use Rattle.ticket.specs.declared.kinds.Grant.{Grant}
use Rattle.ticket.specs.declared.kinds.Ticket.{Ticket}
use Rattle.parts.specs.State.{is_away, stands, two_stage_lem, waits}
use Rattle.parts.specs.Profile.{dequeues}
use Rattle.parts.specs.Parts.{cores, units, unit_no, standing, idle, register_in}
use Rattle.block.specs.Table.{core_of, unit_of, register_of, unit_count, with_register, with_core, with_counter_lem, Shaped}
use Rattle.parts.specs.Answer.{whose, packed}
use Rattle.block.specs.Settle.{winner, Settling, drop_at, grant_next, settle}
use Rattle.settling.specs.Line.{flags, in_line, next, stored, won}
use Rattle.settling.specs.Dropping.{away_as}
use Rattle.block.specs.Sound as S
use Rattle.block.specs.Sound.{sound}
use Rattle.laws.specs.Granting.{listed, Rising, Due, DueIn, any_in_line}
use Rattle.block.specs.Steps.{give_up, awaited, on_sound, answered, refusal, verdict, affected, moves, performed}
use Rattle.block.specs.Skipping.{gives_up, first_of}
use Rattle.effects.specs.Effect.{interrupt}
use Rattle.effects.specs.declared.kinds.Effect.{Effect}
use Rattle.parts.specs.declared.kinds.Profile.{Profile}
use Rattle.parts.specs.declared.kinds.Profile.TheVariants.{T, D}
use Rattle.parts.specs.declared.kinds.Core.{Core}
use Rattle.parts.specs.declared.kinds.LockUnit.{LockUnit}
use Rattle.parts.specs.declared.kinds.Register.{Register}
use Rattle.block.specs.declared.table.Table.{Table}
use Rattle.settling.specs.Best.{Best, Nobody, Won}
use Rattle.parts.specs.declared.answer.Answer.{Answer}
use Rattle.parts.specs.declared.answer.Grants.TheVariants.{Two}
use Rattle.parts.specs.declared.answer.Step.{Step}
use Rattle.parts.specs.declared.answer.Step.TheVariants.{R, N, P, I, C, L}
use Rattle.block.specs.declared.stepped.Stepped.{Stepped}
use Rattle.refusals.specs.Verdict.{Verdict, Allowed, Refused}
use Rattle.parts.proofs.Along.{same_or_not, up_to_cong}
use Rattle.block.proofs.Almost.{Almost}
use Rattle.block.proofs.Agreeing.{line_waits}
use Rattle.block.proofs.Allows.{may_come_back}
use Rattle.block.proofs.Answering.{request_in, nest_in, poll_in, interrupt_in, come_back_in, release_in}
use Rattle.parts.proofs.Bools.{clash}
use Rattle.parts.proofs.Folds.{at_some, none_some, count_none}
use Rattle.block.proofs.Kept.{Two as Both, names_two, two_stage_lem_lem, moves_almost, moves_core}
use Rattle.block.proofs.Parts.{parts}
use Rattle.settling.proofs.Picking.{next_won}
use Rattle.block.proofs.Oldest.{oldest_nobody}
use Rattle.block.proofs.Suited.{two_in_T}
use Rattle.block.proofs.Standing.{sound_quiet}
use Rattle.block.proofs.Stepping.{waiting_stands, quiet_elsewhere, first_unit, second_unit, clears_one, clears_two, one_quiet, two_quiet, inherited, carrying, poll_moves, come_cases, carrying_calm, awaited_second}
use Rattle.block.proofs.Touched.{Quiet, QuietTable, AllPresent}
use Rattle.block.proofs.Touching.{calm_winner, drop_present, settle_none, settle_only, settle_two, settle_at_unit}
use Rattle.block.proofs.Presence.{moves_present}
use Rattle.laws.proofs.Settling.{Ahead, settle_along, settle_cores}
use Rattle.laws.proofs.Keeping.{worked}

-- Who wins a unit

module _ (x : LockUnit) (n : ℕ) (g : Grant) where
  won_due : Memᴰ g (won n (winner x)) → (g.unit.0 ≡ n) × Due x g.core
  won_due = go (eqb (flags cores x) 0) refl (next cores x) refl
    where
      go :
          (b : Bool) → eqb (flags cores x) 0 ≡ b →
          (w : Best) → next cores x ≡ w →
          Memᴰ g (won n (cond b w Nobody)) → (g.unit.0 ≡ n) × Due x g.core
      go true e Nobody q m = absurd (Memᴰ.not-nil m)
      go true e (Won k t) q m =
          let same = Memᴰ.eq_of_singleton m in (
            ap (λ (h : Grant). h.unit.0) same,
            record {
              free = eqb-true (flags cores x) 0 e;
              ticket = t;
              oldest = q ∙ ap (λ (h : Grant). Won h.core t) (sym same);
            },
          )
      go false e w q m = absurd (Memᴰ.not-nil m)

  due_won : g.unit.0 ≡ n → Due x g.core → Memᴰ g (won n (winner x))
  due_won e d =
      let w : winner x ≡ Won g.core d.ticket = simp (eq-eqb (flags cores x) 0 d.free, d.oldest) in
      subst (λ (b : Best). Memᴰ g (won n b)) (sym w) (Memᴰ.head (ap (λ (u : ℕ). grant (unit_no u) g.core) e))

-- Settling all units

won_rising : (n : ℕ) (b : Best) → Rising (won n b)
unfolding Rising
won_rising n Nobody = tt
won_rising n (Won k m) = (λ h e. absurd (Memᴰ.not-nil e), tt)

-- rising lists of which the first ends before the second
rising_join :
    (l m : List Grant) →
    Rising l →
    Rising m →
    ((g h : Grant) → Memᴰ g l → Memᴰ h m → g.unit.0 < h.unit.0) →
    Rising (l ++ m)
unfolding Rising
rising_join [] m a b apart = b
rising_join (g ∷ l) m a b apart = (
  λ h e. ⊎_elim (a.0 h) (apart g h (Memᴰ.head refl)) (Memᴰ.append_cases l e),
  rising_join l m a.1 b (λ g' h e. apart g' h (Memᴰ.tail e)),
)

-- after the units below n
record SettledTo (t : Table) (n : ℕ) (z : Settling) : Type 0 where
  due : (g : Grant) → Memᴰ g z.grants → (g.unit.0 < n) × Due (unit_of t g.unit.0) g.core
  all : (g : Grant) → g.unit.0 < n → Due (unit_of t g.unit.0) g.core → Memᴰ g z.grants
  rising : Rising z.grants

module _ (t : Table) (present : AllPresent t) where
  settled_turn : (n : ℕ) (z : Settling) → Ahead t n z.table → SettledTo t n z → SettledTo t (suc n) (grant_next n z)
  settled_turn n z ahead s =
      record {
        due = λ g m. ⊎_elim (before g) (last g) (Memᴰ.append_cases z.grants m);
        all = λ g h d. all g h d (same_or_not g.unit.0 n);
        rising =
            rising_join z.grants (won n (winner (unit_of z.table n))) s.rising (won_rising n (winner (unit_of z.table n)))
            (λ g h a b. omega (arith, (s.due g a).0, (at_n h b).0));
      }
    where
      here : winner (unit_of z.table n) ≡ winner (unit_of t n)
      here = ap winner (ahead.unit n (omega arith))

      before : (g : Grant) → Memᴰ g z.grants → (g.unit.0 < suc n) × Due (unit_of t g.unit.0) g.core
      before g m = let d = s.due g m in (omega arith, d.1)

      at_n : (g : Grant) → Memᴰ g (won n (winner (unit_of z.table n))) → (g.unit.0 ≡ n) × Due (unit_of t n) g.core
      at_n g m = won_due (unit_of t n) n g (subst (λ (b : Best). Memᴰ g (won n b)) here m)

      last :
          (g : Grant) →
          Memᴰ g (won n (winner (unit_of z.table n))) →
          (g.unit.0 < suc n) × Due (unit_of t g.unit.0) g.core
      last g m =
          let d = at_n g m in
          let e = d.0 in
          (omega arith, subst (λ (u : ℕ). Due (unit_of t u) g.core) (sym e) d.1)

      all :
          (g : Grant) →
          g.unit.0 < suc n →
          Due (unit_of t g.unit.0) g.core →
          (g.unit.0 ≡ n) ⊎ (g.unit.0 ≢ n) →
          Memᴰ g (grant_next n z).grants
      all g h d (inl e) =
          Memᴰ.append_right z.grants
          (subst (λ (b : Best). Memᴰ g (won n b)) (sym here)
          (due_won (unit_of t n) n g e (subst (λ (u : ℕ). Due (unit_of t u) g.core) e d)))
      all g h d (inr q) = Memᴰ.append_left (won n (winner (unit_of z.table n))) (s.all g (omega arith) d)

  settled_to : SettledTo t units (settle t)
  unfolding Rising
  settled_to =
      settle_along t present (SettledTo t)
      (record { due = λ g m. absurd (Memᴰ.not-nil m); all = λ g h d. absurd (not-suc-le-zero h); rising = tt })
      (λ n h z ahead here. settled_turn n z ahead)

  -- the grants are those due, by rising unit
  pub settled_exactly :
      (g : Grant) → (Memᴰ g (settle t).grants → DueIn t g) × (DueIn t g → Memᴰ g (settle t).grants)
  settled_exactly g = (
    λ m. let d = settled_to.due g m in record { place = d.0; due = d.1 },
    λ d. settled_to.all g d.place d.due,
  )

  pub settled_rising : Rising (settle t).grants
  settled_rising = settled_to.rising

-- a unit without a flag has its valid registers in line
free_line : (x : LockUnit) → flags cores x ≡ 0 → any_in_line x ≡ S.any_valid x
free_line x none =
    up_to_cong (λ (k : ℕ) (b : Bool). b || in_line (register_in x k)) (λ (k : ℕ) (b : Bool). b || (register_in x k).valid) cores false
    (λ k h b. ap (λ (v : Bool). b || v) (clear (register_in x k) (count_none (λ (j : ℕ). (register_in x j).flag) cores none k h)))
  where
    clear : (r : Register) → r.flag ≡ false → in_line r ≡ r.valid
    clear r e = ap (λ (f : Bool). r.valid && not f) e ∙ and_one r.valid
      where
        and_one : (b : Bool) → (b && true) ≡ b
        and_one true = refl
        and_one false = refl

-- somebody is due exactly where a unit has no flag and some register in line
due_line : (x : LockUnit) (k : CoreNo) → Due x k → any_in_line x ≡ true
due_line x k d =
    let w = next_won cores x k d.ticket d.oldest in
    at_some (λ (j : ℕ). in_line (register_in x j)) cores k.0 w.2 w.0

line_due : (t : Table) → Almost t → (u : ℕ) → u < units → let x = unit_of t u in flags cores x ≡ 0 → any_in_line x ≡ true → (k : CoreNo) × Due x k
line_due t a u h none line = go (next cores (unit_of t u)) refl
  where
    go : (b : Best) → next cores (unit_of t u) ≡ b → (k : CoreNo) × Due (unit_of t u) k
    go Nobody q = absurd (clash line (none_some (λ (j : ℕ). in_line (register_in (unit_of t u) j)) cores ((oldest_nobody t a u h).0 q)))
    go (Won k n) q = (k, record { free = none; ticket = n; oldest = q })

-- the units that are granted, of a table that is sound but perhaps for flags to be set: by registers in line, and by valid registers
module _ (t : Table) (present : AllPresent t) (a : Almost t) (u : ℕ) (h : u < units) where
  abbrev Given : Type 0
  Given = (k : CoreNo) × Memᴰ (grant (unit_no u) k) (settle t).grants

  pub settled_in_line :
      (Given → (flags cores (unit_of t u) ≡ 0) × (any_in_line (unit_of t u) ≡ true)) ×
      ((flags cores (unit_of t u) ≡ 0) × (any_in_line (unit_of t u) ≡ true) → Given)
  settled_in_line = (
    λ g. let d = ((settled_exactly t present (grant (unit_no u) g.0)).0 g.1).due in (d.free, due_line (unit_of t u) g.0 d),
    λ e.
        let d = line_due t a u h e.0 e.1 in
        (d.0, (settled_exactly t present (grant (unit_no u) d.0)).1 (record { place = h; due = d.1 })),
  )

  pub settled_valid :
      (Given → (flags cores (unit_of t u) ≡ 0) × (S.any_valid (unit_of t u) ≡ true)) ×
      ((flags cores (unit_of t u) ≡ 0) × (S.any_valid (unit_of t u) ≡ true) → Given)
  settled_valid = (
    λ g. let e = settled_in_line.0 g in (e.0, sym (free_line (unit_of t u) e.0) ∙ e.1),
    λ e. settled_in_line.1 (e.0, free_line (unit_of t u) e.0 ∙ e.1),
  )

-- Whoever is in line and not away waits there

pub in_line_awaits :
    (t : Table) (u k : ℕ) →
    Almost t →
    u < units →
    k < cores →
    in_line (register_of t u k) ≡ true →
    is_away (core_of t k).state ≡ false →
    (waits (core_of t k).state ≡ true) × (awaited (core_of t k) ≡ u)
in_line_awaits t u k a h l = line_waits (core_of t k) u (register_of t u k) (a.agrees u h k l)

-- so the core of a grant waits for its unit, before settling and after
pub settled_waiting :
    (t : Table) →
    AllPresent t →
    Almost t →
    (g : Grant) →
    Memᴰ g (settle t).grants →
    (waits (core_of (settle t).table g.core.0).state ≡ true) × (awaited (core_of (settle t).table g.core.0) ≡ g.unit.0)
settled_waiting t present a g m =
    let d = (settled_exactly t present g).0 m in
    let w = next_won cores (unit_of t g.unit.0) g.core d.due.ticket d.due.oldest in
    let here = ap (away_as t.cores) (sym d.due.oldest) ∙ present g.unit.0 d.place d.due.free in
    subst (λ (l : List Core). (waits (get_or l g.core.0 idle).state ≡ true) × (awaited (get_or l g.core.0 idle) ≡ g.unit.0))
    (sym (settle_cores t present))
    (in_line_awaits t g.unit.0 g.core.0 a d.place w.2 w.0 here)

-- Settling where all but one or two units are quiet

module _ (t : Table) (u : ℕ) (h : u < units) where
  -- the one unit, with those away in front dropped
  pub settle_at_one :
      ((v : ℕ) → v < units → v ≢ u → Quiet (unit_of t v)) → (settle t).grants ≡ won u (winner (unit_of (drop_at t u) u))
  settle_at_one quiet = ap (λ (z : Settling). z.grants) (settle_only t u h quiet)

  pub settle_at_two :
      AllPresent t →
      (w : ℕ) →
      u < w →
      w < units →
      ((v : ℕ) → v < units → v ≢ u → v ≢ w → Quiet (unit_of t v)) →
      (settle t).grants ≡ won u (winner (unit_of t u)) ++ won w (winner (unit_of t w))
  settle_at_two present w l m quiet =
      ap (λ (z : Settling). z.grants) (settle_two t u h (present u h) w l m (present w m) quiet) ∙
      ap (λ (x : LockUnit). won u (winner (unit_of t u)) ++ won w (winner x)) (settle_at_unit t u w (λ e. omega arith))

-- the first of two grants is of a first-class unit, the second of a second-class one
pub record Classes (t : Table) (g h : Grant) : Type 0 where
  pub first : g.unit.0 < t.counts.first
  pub low : t.counts.first ≤ h.unit.0
  pub high : h.unit.0 < unit_count t

-- at most two grants, and two only of a unit of each class
record Brief (t : Table) (l : List Grant) : Type 0 where
  whole : listed (packed l) ≡ l
  classes : (g h : Grant) → packed l ≡ Two g h → Classes t g h

module _ (t : Table) where
  brief_none : Brief t []
  brief_none = record { whole = refl; classes = λ g h e. absurd (let z : ◌≡◌ {A = ℕ} 0 1 = cc in omega arith) }

  brief_one : (u : ℕ) (b : Best) → Brief t (won u b)
  brief_one u Nobody = brief_none
  brief_one u (Won k n) = record { whole = refl; classes = λ g h e. absurd (let z : ◌≡◌ {A = ℕ} 0 1 = cc in omega arith) }

  brief_two : (c : Core) → Both t c → (a b : Best) → Brief t (won c.first.0 a ++ won c.second.0 b)
  brief_two c w Nobody b = brief_one c.second.0 b
  brief_two c w (Won k n) Nobody = brief_one c.first.0 (Won k n)
  brief_two c w (Won k n) (Won j m) =
      record {
        whole = refl;
        classes = λ g h e.
            let p : grant (unit_no c.first.0) k ≡ g = cc in
            let q : grant (unit_no c.second.0) j ≡ h = cc in
            record {
              first = subst (λ (x : Grant). x.unit.0 < t.counts.first) p w.first;
              low = subst (λ (x : Grant). t.counts.first ≤ x.unit.0) q w.low;
              high = subst (λ (x : Grant). x.unit.0 < unit_count t) q w.high;
            };
      }

-- The steps

-- an allowed step does its work, and a refused one grants nothing
module _ (t : Table) (step : Step) where
  pub accepted : verdict t step ≡ Allowed → on_sound t step ≡ performed t step
  unfolding on_sound
  accepted may = ap (λ (v : Verdict). answered t v (performed t step)) may

  pub refused : (a : Answer) → verdict t step ≡ Refused a → on_sound t step ≡ refusal t a
  unfolding on_sound
  refused a e = ap (λ (v : Verdict). answered t v (performed t step)) e

module _ (t : Table) (s : sound t ≡ true) where
  quiet : QuietTable t
  quiet = sound_quiet t (parts t s)

  -- a core that enters a unit touches that unit
  module _ (u k : ℕ) (n m : Ticket) (c : Core) (h : u < units) where
    abbrev entering : Table
    entering = with_counter_lem (with_core (with_register t u k (standing n)) k c) m

    enter_brief : Brief t (settle entering).grants
    enter_brief = subst (Brief t) (sym (settle_at_one entering u h (quiet_elsewhere t u k (standing n) quiet))) (brief_one t u (winner (unit_of (drop_at entering u) u)))

  -- a core that keeps its registers touches none
  none_granted : (z : Table) → QuietTable z → (settle z).grants ≡ []
  none_granted z q = ap (λ (y : Settling). y.grants) (settle_none z q)

  none_brief : (z : Table) → QuietTable z → Brief t (settle z).grants
  none_brief z q = subst (Brief t) (sym (none_granted z q)) (brief_none t)

  -- one that gives up every register touches the one or two units where it stood; where it stood at two, nobody is away
  module _ (k : ℕ) (m : Ticket) (c : Core) (i : (k < cores) × (stands (core_of t k).state ≡ true)) where
    abbrev was : Core
    was = core_of t k

    abbrev freeing : Table
    freeing = with_counter_lem (with_core (give_up t k) k c) m

    free_brief : (two_stage_lem was.state ≡ true → AllPresent freeing) → Brief t (settle freeing).grants
    free_brief present = go (two_stage_lem was.state) refl
      where
        first_place : was.first.0 < units
        first_place = first_unit t k i.0 s i.1

        go : (b : Bool) → two_stage_lem was.state ≡ b → Brief t (settle freeing).grants
        go true two =
            let b = second_unit t k i.0 s i.1 two in
            let named = ((parts t s).core k i.0).named in
            subst (Brief t)
            (sym
            (settle_at_two freeing was.first.0 first_place (present two) was.second.0 b.0 b.1
            (λ v l d d'.
            subst (λ (y : Table). Quiet (unit_of y v)) (sym (clears_two t k i.0 s i.1 two)) (two_quiet t k i.0 s i.1 v l d d'))))
            (brief_two t was (names_two t was (simp ((two_stage_lem_lem was.state two).busy, two) at named))
            (winner (unit_of freeing was.first.0))
            (winner (unit_of freeing was.second.0)))
        go false one =
            subst (Brief t)
            (sym
            (settle_at_one freeing was.first.0 first_place
            (λ v l d. subst (λ (y : Table). Quiet (unit_of y v)) (sym (clears_one t k i.0 s i.1 one)) (one_quiet t k i.0 s i.1 v l d))))
            (brief_one t was.first.0 (winner (unit_of (drop_at freeing was.first.0) was.first.0)))

  -- a poll grants nothing: where it shows another ticket, the unit has its flag elsewhere
  module _ (k : CoreNo) (may : verdict t (P k) ≡ Allowed) where
    carry_grants :
        (register_of t (awaited (core_of t k.0)) k.0).flag ≡ false →
        two_stage_lem (core_of t k.0).state ≡ true →
        (n : Ticket) →
        (settle (carrying t k.0 n)).grants ≡ []
    carry_grants clear two n =
        let i = poll_in t k s may in
        let z = carrying t k.0 n in
        let v = (core_of t k.0).second.0 in
        let place = (second_unit t k.0 i.0 s (waiting_stands (core_of t k.0).state i.1) two).1 in
        let calm = carrying_calm t k.0 i.0 s i.1 two (awaited_second t k.0 two clear) n v place in
        settle_at_one z v place (quiet_elsewhere t v k.0 (standing n) quiet) ∙
        ap (λ (y : Table). won v (winner (unit_of y v))) (drop_present z v (λ none. ap (away_as z.cores) (calm none))) ∙
        ap (won v) (calm_winner (unit_of z v) calm)

    pub poll_grants : (settle (moves t (P k))).grants ≡ []
    poll_grants =
        poll_moves t k (λ z. (settle z).grants ≡ []) (λ f. none_granted _ quiet)
        (λ f two. carry_grants f two (inherited t (core_of t k.0)))
        (none_granted t quiet)

module _ (t : Table) (shaped : Shaped t) (s : sound t ≡ true) where
  -- no step of a core with a second unit drops anybody: the profile is T
  two_present : (step : Step) → verdict t step ≡ Allowed → two_stage_lem (core_of t (whose step).0).state ≡ true → AllPresent (moves t step)
  two_present step may two =
      let k = (whose step).0 in
      let c = core_of t k in
      moves_present t step shaped s may
      (ap
      (λ (p : Profile).
      dequeues p && ltb k t.counts.cores && gives_up step c.state && (register_of t (first_of t step) k).flag &&
      away_as t.cores (stored (unit_of t (first_of t step)).next))
      (two_in_T t.counts.profile c.state ((parts t s).core k (moves_core t shaped (parts t s) step may)).suited two))

  brief : (step : Step) → verdict t step ≡ Allowed → Brief t (settle (moves t step)).grants
  brief (R k u) may = enter_brief t s u.0 k.0 _ _ _ (request_in t k s u may).1
  brief (N k u) may = enter_brief t s u.0 k.0 _ _ _ (nest_in t k s u may).1
  brief (P k) may = subst (Brief t) (sym (poll_grants t s k may)) (brief_none t)
  brief (I k) may = go t.counts.profile (register_of t (awaited c) k.0).flag (two_present (I k) may)
    where
      c : Core
      c = core_of t k.0

      go :
          (p : Profile) (f : Bool) →
          let z = affected t k.0 (interrupt p t.counter c f) in
          (two_stage_lem c.state ≡ true → AllPresent z) →
          Brief t (settle z).grants
      go T f present = free_brief t s k.0 _ _ (interrupt_in t k s may) present
      go D true present = free_brief t s k.0 _ _ (interrupt_in t k s may) present
      go D false present = none_brief t s _ (quiet t s)
  brief (C k) may =
      let c = core_of t k.0 in
      let place = (come_back_in t k s may).1 in
      come_cases t.counter c (λ (e : Effect). Brief t (settle (affected t k.0 e)).grants)
      (λ e. enter_brief t s c.first.0 k.0 _ _ _ place)
      (λ e. none_brief t s _ (quiet t s))
      (λ e. enter_brief t s c.first.0 k.0 _ _ _ place)
      (may_come_back t k may).state
  brief (L k) may = free_brief t s k.0 _ _ (release_in t k s may) (two_present (L k) may)

module _ (t : Table) (shaped : Shaped t) (s : sound t ≡ true) (step : Step) where
  -- an accepted step's grants are all of those that settling gives
  module _ (may : verdict t step ≡ Allowed) where
    pub settle_few : listed (packed (settle (moves t step)).grants) ≡ (settle (moves t step)).grants
    settle_few = (brief t shaped s step may).whole

    pub grants_listed : listed (on_sound t step).grants ≡ (settle (moves t step)).grants
    grants_listed = ap (λ (x : Stepped). listed x.grants) (accepted t step may) ∙ settle_few

    -- so they are those due before settling, where it drops nobody
    pub grants_exactly :
        AllPresent (moves t step) →
        (g : Grant) →
        (Memᴰ g (listed (on_sound t step).grants) → DueIn (moves t step) g) ×
        (DueIn (moves t step) g → Memᴰ g (listed (on_sound t step).grants))
    grants_exactly present g = rw grants_listed (settled_exactly (moves t step) present g)

  -- by what the step is judged
  judged : {A : Type 0} → (verdict t step ≡ Allowed → A) → ((a : Answer) → verdict t step ≡ Refused a → A) → A
  judged {A} allowed turned = go (verdict t step) refl
    where
      go : (v : Verdict) → verdict t step ≡ v → A
      go Allowed e = allowed e
      go (Refused a) e = turned a e

  module _ (g h : Grant) (two : (on_sound t step).grants ≡ Two g h) where
    pub two_classes : Classes t g h
    two_classes =
        judged (λ may. (brief t shaped s step may).classes g h (rw (accepted t step may) at two))
        (λ a e. absurd (let n = ap (λ (x : Stepped). x.grants) (refused t step a e) in let z : ◌≡◌ {A = ℕ} 0 1 = cc in omega arith))

    pub rising : g.unit.0 < h.unit.0
    rising = omega (arith, two_classes)

-- Of every step

module _ (t : Table) (shaped : Shaped t) (s : sound t ≡ true) (step : Step) where
  module _ (g : Grant) where
    -- each grant is of a unit and of a core
    pub granted_placed : Memᴰ g (listed (on_sound t step).grants) → (g.unit.0 < units) × (g.core.0 < cores)
    granted_placed =
        worked step (λ x. Memᴰ g (listed x.grants) → (g.unit.0 < units) × (g.core.0 < cores))
        (λ t shaped s present m.
        judged t shaped s step
        (λ may.
        let d = (grants_exactly t shaped s step may (present may) g).0 m in
        (d.place, (next_won cores (unit_of (moves t step) g.unit.0) g.core d.due.ticket d.due.oldest).2))
        (λ a e. absurd (Memᴰ.not-nil (rw (refused t step a e) at m))))
        t shaped s

    pub granted_waiting :
        Memᴰ g (listed (on_sound t step).grants) →
        (waits (core_of (on_sound t step).table g.core.0).state ≡ true) ×
        (awaited (core_of (on_sound t step).table g.core.0) ≡ g.unit.0)
    granted_waiting =
        worked step
        (λ x.
        Memᴰ g (listed x.grants) →
        (waits (core_of x.table g.core.0).state ≡ true) × (awaited (core_of x.table g.core.0) ≡ g.unit.0))
        (λ t shaped s present m.
        judged t shaped s step
        (λ may.
        rw (accepted t step may)
        (settled_waiting (moves t step) (present may) (moves_almost t shaped (parts t s) step may) g
        (rw (grants_listed t shaped s step may) at m)))
        (λ a e. absurd (Memᴰ.not-nil (rw (refused t step a e) at m))))
        t shaped s

  pub grants_rising : Rising (listed (on_sound t step).grants)
  unfolding Rising
  grants_rising =
      worked step (λ x. Rising (listed x.grants))
      (λ t shaped s present.
      judged t shaped s step
      (λ may. rw (grants_listed t shaped s step may) (settled_rising (moves t step) (present may)))
      (λ a e. rw (refused t step a e) tt))
      t shaped s
