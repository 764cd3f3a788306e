-- A core in its stretch. From its entry on it waits at the unit, with its register there valid and its flag clear, and keeps its issue
-- number: its own steps are refused or leave the table, and the steps of others leave it. Every live ticket with an earlier number was
-- live at its entry, as new numbers come after all others.
use Prim.Native.Nat.{ℕ, ◌<◌}
use mathlib.Core.Bool.{Bool, true, false, cond, ◌&&◌, ◌||◌, not}
use mathlib.Core.List.{List, [], ◌∷◌}
use mathlib.Core.Logic.{◌⊎◌, inl, inr, ⊎_elim, ◌≢◌}
use mathlib.Core.Path.{◌≡◌, refl, sym, ◌∙◌, ap, subst}
use native.Mathlib.Omega.{arith}
use lib.Dec.{eqb, ltb}
use borrow.Author.Tests.{eqb-true, eq-eqb, ltb-true, lt-ltb}
use Rattle.ticket.specs.Kinds.{grant}
use Rattle.ticket.specs.declared.kinds.Ticket.{Ticket}
use Rattle.parts.specs.Answer.{whose}
use Rattle.parts.specs.State.{is_idle_lem, is_live_lem, is_dropped, waits, holds, stands, two_stage_lem}
use Rattle.parts.specs.Parts.{cores, units, core_no, unit_no, standing}
use Rattle.block.specs.Table.{core_of, unit_of, register_of}
use Rattle.effects.specs.declared.kinds.Move.TheVariants.{Enter}
use Rattle.effects.specs.declared.kinds.Effect.{Effect}
use Rattle.block.specs.Skipping.{gives_up, skips}
use Rattle.block.specs.Steps.{effect_on, moves, step}
use Rattle.block.specs.Over.{over}
use Rattle.parts.specs.declared.kinds.Core.{Core}
use Rattle.parts.specs.declared.kinds.Register.{Register}
use Rattle.parts.specs.declared.kinds.State.{State}
use Rattle.parts.specs.declared.kinds.State.TheVariants.{Waiting, Marked}
use Rattle.block.specs.declared.table.Table.{Table}
use Rattle.parts.specs.declared.answer.Step.{Step}
use Rattle.parts.specs.declared.answer.Step.TheVariants.{R, N, P, I, C, L}
use Rattle.parts.proofs.Along.{same_or_not}
use Rattle.block.proofs.Allows.{may_request, may_nest, may_come_back, may_release}
use Rattle.block.proofs.DropsKept.{skipped_same}
use Rattle.parts.proofs.Bools.{and_left, and_right, and_both, not_true_false, clash}
use Rattle.parts.proofs.Folds.{at_some}
use Rattle.block.proofs.Standing.{units_few}
use Rattle.block.proofs.Stepping.{poll_moves, come_cases}
use Rattle.block.proofs.Agreeing.{at_first}
use Rattle.laws.specs.Granting.{listed, Due}
use Rattle.laws.proofs.Granting.{settled_exactly}
use Rattle.laws.proofs.Keeping.{Good}
use Rattle.block.proofs.Moving.{shown, affected_shown}
use Rattle.fairness.specs.Run.{Place, done, takes_ticket, interrupts, onward, after_all}
use Rattle.fairness.specs.Stretch.{grants, gives, enters_at, enters, leaves, stretch, is_earlier, among}
use Rattle.fairness.proofs.Counting.{at_gives}
use Rattle.fairness.proofs.Settled.{settled_new}
use Rattle.fairness.proofs.Effects.{Accepted, Live, stepped, stepped_core, stepped_counts, answers_done, interrupt_done, judged, done_accepted}
use Rattle.fairness.proofs.Skipping.{skip_on, skipped_once, calm_at, live_skipped, waits_skipped, flag_skipped, onward_skipped, leaves_skipped}
use Rattle.fairness.proofs.Invariant.{Numbered, live_small, issue_kept, numbered_skipped, numbered_onward, live_onward}

pub or_none : (a b : Bool) → (a || b) ≡ false → (a ≡ false) × (b ≡ false)
or_none true b e = absurd (clash refl e)
or_none false b e = (refl, e)

-- two states of one core
states : {z x y : State} (f : State → Bool) → z ≡ x → z ≡ y → f x ≡ true → f y ≡ false → ⊥
states f p q a b = clash (ap f p ∙ a) (ap f q ∙ b)

-- what the step does at unit u, as seen by a core that it does not grant
module _ (t : Table) (z : Step) (a : Accepted t z) where
  pub due_gives : (u k : ℕ) → u < units → Due (unit_of (moves t z) u) (core_no k) → gives u k (listed (step t z).grants) ≡ true
  due_gives u k h d =
      at_gives u k (listed (step t z).grants)
      (rw a.grants ((settled_exactly (moves t z) a.present (grant (unit_no u) (core_no k))).1 (record { place = h; due = d })))

  stays_clear :
      (u k : ℕ) →
      u < units →
      (register_of (moves t z) u k).flag ≡ false →
      gives u k (listed (step t z).grants) ≡ false →
      (register_of (step t z).table u k).flag ≡ false
  stays_clear u k h clear ungranted = go (register_of (step t z).table u k).flag refl
    where
      go : (b : Bool) → (register_of (step t z).table u k).flag ≡ b → (register_of (step t z).table u k).flag ≡ false
      go false e = e
      go true e =
          ⊎_elim (λ f. absurd (clash f clear)) (λ d. absurd (clash (due_gives u k h d) ungranted))
          (settled_new (moves t z) a.shaped a.present u h k (rw (stepped t z a) at e))

-- e is the place after the entry
pub record Stands (e : Place) (c k u : ℕ) (p : Place) : Type 0 where
  pub numbered : Numbered c p
  pub state : (core_of p.table k).state ≡ Waiting
  pub first : (core_of p.table k).first.0 ≡ u
  pub clear : (register_of p.table u k).flag ≡ false
  pub class : u < p.table.counts.first
  pub issue : p.issue k ≡ e.issue k
  pub earlier : (j : ℕ) → Live p.table j → p.issue j < e.issue k → among e k (p.issue j) ≡ true

pub first_class : (t : Table) → Good t → (u : ℕ) → u < t.counts.first → u < units
first_class t g u h = omega (arith, units_few t.counts g.sound.counts)

-- The entry

-- core k waits at u without its flag
record Entered (k u : ℕ) (m : Table) : Type 0 where
  state : (core_of m k).state ≡ Waiting
  first : (core_of m k).first.0 ≡ u
  clear : (register_of m u k).flag ≡ false

module _ (c : ℕ) (p : Place) (n : Numbered c p) (s : Step) (k u : ℕ) (entry : enters p s k u ≡ true) where
  abbrev t : Table
  t = p.table

  record Entering : Type 0 where
    accepted : done t s ≡ true
    core : (whose s).0 ≡ k
    at : enters_at t s u ≡ true
    class : u < t.counts.first
    ungranted : gives u k (grants p s) ≡ false

  entering : Entering
  entering =
      let a = done t s in
      let b = a && eqb (whose s).0 k in
      let d = b && enters_at t s u in
      let f = d && ltb u t.counts.first in
      let e3 = and_left f _ entry in
      let e2 = and_left d _ e3 in
      let e1 = and_left b _ e2 in
      record {
        accepted = and_left a _ e1;
        core = eqb-true (whose s).0 k (and_right a _ e1);
        at = and_right b _ e2;
        class = ltb-true u t.counts.first (and_right d _ e3);
        ungranted = not_true_false (gives u k (grants p s)) (and_right f _ entry);
      }

  taken : Accepted t s
  taken = done_accepted t n.good s (calm_at t s (keeps_all s entering.at)) entering.accepted
    where
      -- R and C give nothing up
      keeps_all : (s : Step) → enters_at t s u ≡ true → gives_up s (core_of t (whose s).0).state ≡ false
      keeps_all (R j v) at = refl
      keeps_all (N j v) at = refl
      keeps_all (P j) at = refl
      keeps_all (I j) at = absurd (clash at refl)
      keeps_all (C j) at = refl
      keeps_all (L j) at = absurd (clash at refl)

  entered : Entered k u (moves t s)
  entered = go s entering.core entering.at taken
    where
      -- by the effect: with its register at unit v entered, or as it stood
      at_unit :
          (s : Step) (x : Effect) →
          (whose s).0 ≡ k →
          Accepted t s →
          effect_on t s ≡ x →
          x.core.state ≡ Waiting →
          x.core.first.0 ≡ u →
          (shown t (whose s).0 x.does u).flag ≡ false →
          Entered k u (moves t s)
      at_unit s x same a does state first clear =
          let h = first_class t n.good u entering.class in
          let r = affected_shown t n.good.shaped (whose s).0 a.small u h (effect_on t s) in
          let c' = a.moved.becomes ∙ ap (λ (y : Effect). y.core) does in
          rw (← same)
          (record {
            state = ap (λ (y : Core). y.state) c' ∙ state;
            first = ap (λ (y : Core). y.first.0) c' ∙ first;
            clear = ap (λ (y : Register). y.flag) r ∙ ap (λ (y : Effect). (shown t (whose s).0 y.does u).flag) does ∙ clear;
          })

      -- a register that is entered has its flag clear
      fresh_clear : (j v : ℕ) (m : Ticket) → v ≡ u → (shown t j (Enter (unit_no v) m) u).flag ≡ false
      fresh_clear j v m q = ap (λ (b : Bool). (cond b (standing m) (register_of t u j)).flag) (eq-eqb u v (sym q))

      go : (s : Step) → (whose s).0 ≡ k → enters_at t s u ≡ true → Accepted t s → Entered k u (moves t s)
      go (R j v) same at a =
          let q = eqb-true v.0 u at in
          at_unit (R j v) (effect_on t (R j v)) same a refl refl q (fresh_clear j.0 v.0 t.counter q)
      go (N j v) same at a = absurd (clash at refl)
      go (P j) same at a = absurd (clash at refl)
      go (I j) same at a = absurd (clash at refl)
      go (C j) same at a =
          come_cases t.counter (core_of t j.0) (λ (x : Effect). effect_on t (C j) ≡ x → Entered k u (moves t (C j)))
          (λ z e. at_unit (C j) _ same a e refl q (fresh_clear j.0 (core_of t j.0).first.0 (core_of t j.0).own q))
          (λ z e. at_unit (C j) _ same a e refl q (marked z))
          (λ z e. at_unit (C j) _ same a e refl q (fresh_clear j.0 (core_of t j.0).first.0 t.counter q))
          (may_come_back t j a.may).state
          refl
        where
          q : (core_of t j.0).first.0 ≡ u
          q = eqb-true (core_of t j.0).first.0 u at

          -- whoever is marked away has no flag
          marked : (core_of t j.0).state ≡ Marked → (register_of t u j.0).flag ≡ false
          marked z =
              let c' = core_of t j.0 in
              let h : c'.first.0 < units = rw q (first_class t n.good u entering.class) in
              let r = register_of t c'.first.0 j.0 in
              let x = at_first c' r (ap stands z) ((n.good.sound.unit c'.first.0 h).agrees j.0 a.small) in
              ap (λ (v : ℕ). (register_of t v j.0).flag) (sym q) ∙ not_true_false r.flag (simp z at x.flagless)
      go (L j) same at a = absurd (clash at refl)

  pub stands_entry : Stands (onward p s) c k u (onward p s)
  stands_entry =
      let a = taken in
      let g = n.good in
      record {
        numbered = numbered_onward c p n s;
        state = ap (λ (x : Core). x.state) (stepped_core t s a k) ∙ entered.state;
        first = ap (λ (x : Core). x.first.0) (stepped_core t s a k) ∙ entered.first;
        clear = stays_clear t s a u k (first_class t g u entering.class) entered.clear entering.ungranted;
        class = rw (stepped_counts t s a) entering.class;
        issue = refl;
        earlier = λ j live less.
            at_some (λ (i : ℕ). is_earlier (onward p s) k i && eqb ((onward p s).issue i) ((onward p s).issue j)) cores j
            (live_small (onward p s).table (numbered_onward c p n s).good.shaped j live)
            (and_both
            (and_both live (lt-ltb ((onward p s).issue j) ((onward p s).issue k) less))
            (eq-eqb ((onward p s).issue j) ((onward p s).issue j) refl));
      }

-- A later step

-- core k and its register at u are as they were
pub record Unmoved (t : Table) (k u : ℕ) (m : Table) : Type 0 where
  pub core : core_of m k ≡ core_of t k
  pub register : register_of m u k ≡ register_of t u k

module _ (e : Place) (c k u : ℕ) (p : Place) (w : Stands e c k u p) (z : Step) (on : leaves k u p z ≡ false) where
  abbrev x : Table
  x = p.table

  abbrev g : Good x
  g = w.numbered.good

  pub ungranted : gives u k (grants p z) ≡ false
  ungranted = (or_none (gives u k (grants p z)) _ on).0

  uninterrupted : interrupts x z k ≡ false
  uninterrupted = (or_none (gives u k (grants p z)) _ on).1

  pub place : u < units
  place = first_class x g u w.class

  -- the core takes no other ticket
  unasked : takes_ticket x z k ≡ false
  unasked = pick (takes_ticket x z k) refl
    where
      asked : (z : Step) → takes_ticket x z k ≡ true → ⊥
      asked (R j v) q =
          let same = eqb-true j.0 k (and_left (eqb j.0 k) _ q) in
          let a = done_accepted x g (R j v) (calm_at x (R j v) refl) (and_right (eqb j.0 k) _ q) in
          states is_idle_lem (rw same at (may_request x j v a.may).state) w.state refl refl
      asked (N j v) q = clash q refl
      asked (P j) q = clash q refl
      asked (I j) q = clash q refl
      asked (C j) q =
          let b = eqb j.0 k && is_dropped (core_of x j.0).state in
          let e = and_left b _ q in
          let same = eqb-true j.0 k (and_left (eqb j.0 k) _ e) in
          clash (rw same at (and_right (eqb j.0 k) _ e)) (ap is_dropped w.state)
      asked (L j) q = clash q refl

      pick : (b : Bool) → takes_ticket x z k ≡ b → takes_ticket x z k ≡ false
      pick true q = absurd (asked z q)
      pick false q = q

  pub issue_stays : (onward p z).issue k ≡ e.issue k
  issue_stays = issue_kept p z k unasked ∙ w.issue

  pub unmoved : Accepted x z → Unmoved x k u (moves x z)
  unmoved a = go (same_or_not k (whose z).0)
    where
      own : (z : Step) → k ≡ (whose z).0 → Accepted x z → interrupts x z k ≡ false → Unmoved x k u (moves x z)
      own (R j v) q a i = absurd (states is_idle_lem (rw (← q) at (may_request x j v a.may).state) w.state refl refl)
      own (N j v) q a i = absurd (states holds (rw (← q) at (may_nest x j v a.may).state) w.state refl refl)
      own (P j) q a i =
          poll_moves x j (Unmoved x k u)
          (λ f. absurd (clash (rw (← q) at f) (rw (w.state, w.first) w.clear)))
          (λ f two. absurd (clash (rw (← q) at two) (ap two_stage_lem w.state)))
          (record { core = refl; register = refl })
      own (I j) q a i = absurd (clash (and_both (eq-eqb j.0 k (sym q)) (answers_done x (I j) a (interrupt_done x j))) i)
      own (C j) q a i =
          let here : (core_of x j.0).state ≡ Waiting = rw (← q) w.state in
          absurd
          (⊎_elim (λ h. states waits here h refl refl) (⊎_elim (λ h. states waits here h refl refl) (λ h. states waits here h refl refl))
          (may_come_back x j a.may).state)
      own (L j) q a i =
          ⊎_elim
          (λ h. absurd (states holds (rw (← q) at h) w.state refl refl))
          (λ h. absurd (states holds (rw (← q) at h) w.state refl refl))
          (may_release x j a.may).1

      go : (k ≡ (whose z).0) ⊎ (k ≢ (whose z).0) → Unmoved x k u (moves x z)
      go (inl q) = own z q a uninterrupted
      go (inr d) = record { core = a.moved.others k d; register = a.moved.registers u place k d }

  calm_stands : skips x z ≡ false → Stands e c k u (onward p z)
  calm_stands calm =
      let n = numbered_onward c p w.numbered z in
      ⊎_elim
      (λ a.
      record {
        numbered = n;
        state = ap (λ (y : Core). y.state) (stepped_core x z a k ∙ (unmoved a).core) ∙ w.state;
        first = ap (λ (y : Core). y.first.0) (stepped_core x z a k ∙ (unmoved a).core) ∙ w.first;
        clear = stays_clear x z a u k place (ap (λ (r : Register). r.flag) (unmoved a).register ∙ w.clear) ungranted;
        class = rw (stepped_counts x z a) w.class;
        issue = issue_stays;
        earlier = still;
      })
      (λ r.
      record {
        numbered = n;
        state = rw r.table w.state;
        first = rw r.table w.first;
        clear = rw r.table w.clear;
        class = rw r.table w.class;
        issue = issue_stays;
        earlier = still;
      })
      (judged x g z calm)
    where
      still : (j : ℕ) → Live (onward p z).table j → (onward p z).issue j < e.issue k → among e k ((onward p z).issue j) ≡ true
      still j live less = ⊎_elim was new (live_onward c p w.numbered z j live)
        where
          was : Live x j × ((onward p z).issue j ≡ p.issue j) → among e k ((onward p z).issue j) ≡ true
          was q =
              let same = q.1 in
              ap (among e k) same ∙ w.earlier j q.0 (omega arith)

          new : (onward p z).issue j ≡ p.issued → among e k ((onward p z).issue j) ≡ true
          new q =
              let low = w.numbered.low k (ap is_live_lem w.state) in
              let same = w.issue in
              absurd (omega arith)

-- where the step skips
module _ (e : Place) (c k u : ℕ) (p : Place) (w : Stands e c k u p) (z : Step) where
  pub stands_skipped : Stands e c k u (skip_on p z)
  stands_skipped =
      let t = p.table in
      let g = w.numbered.good in
      let same = waits_skipped t z g k w.state in
      record {
        numbered = numbered_skipped c p w.numbered z;
        state = ap (λ (y : Core). y.state) same ∙ w.state;
        first = ap (λ (y : Core). y.first.0) same ∙ w.first;
        clear = flag_skipped t z g u k ∙ w.clear;
        class = rw (skipped_same t z).0 w.class;
        issue = w.issue;
        earlier = λ j live less. w.earlier j (live_skipped t z g j live).0 less;
      }

  module _ (on : leaves k u p z ≡ false) where
    pub on_skipped : leaves k u (skip_on p z) z ≡ false
    on_skipped = sym (leaves_skipped p w.numbered.good k u z) ∙ on

    pub stands_onward : Stands e c k u (onward p z)
    stands_onward =
        subst (Stands e c k u) (sym (onward_skipped p w.numbered.good z))
        (calm_stands e c k u (skip_on p z) stands_skipped z on_skipped (skipped_once p.table z w.numbered.good))

-- All later steps

pub stands_after :
    (e : Place) (c k u : ℕ) (p : Place) →
    Stands e c k u p →
    (more : List Step) →
    stretch k u p more ≡ true →
    Stands e c k u (after_all p more)
unfolding over
stands_after e c k u p w [] q = w
stands_after e c k u p w (z ∷ more) q =
    let on = not_true_false (leaves k u p z) (and_left (not (leaves k u p z)) _ q) in
    stands_after e c k u (onward p z) (stands_onward e c k u p w z on) more (and_right (not (leaves k u p z)) _ q)
