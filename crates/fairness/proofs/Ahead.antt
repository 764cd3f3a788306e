-- In D whoever has a unit's flag is earlier than all in line there: those that were earlier were granted before it or dropped, and who joins later has a
-- later ticket. So the flag's core is one of the earlier at an entry; its ticket is not granted again, and the bound is not reached.
use Prim.Native.Nat.{ℕ, ◌<◌}
use mathlib.Core.Bool.{Bool, true, false, ◌&&◌, not}
use mathlib.Core.List.{List, [], ◌∷◌}
use mathlib.Core.Logic.{◌⊎◌, inl, inr, ⊎_elim, ◌≢◌}
use mathlib.Core.Path.{◌≡◌, refl, sym, ◌∙◌, ap, subst}
use native.Mathlib.Omega.{arith}
use lib.Dec.{eqb}
use borrow.Author.Tests.{eqb-true, eq-eqb, lt-ltb}
use Rattle.ticket.specs.declared.kinds.Ticket.{Ticket}
use Rattle.parts.specs.Answer.{whose}
use Rattle.parts.specs.Parts.{cores, units, core_no}
use Rattle.parts.specs.Profile.{dequeues}
use Rattle.parts.specs.State.{is_idle_lem, is_live_lem, is_dropped, stands, two_stage_lem}
use Rattle.parts.specs.declared.answer.Step.{Step}
use Rattle.parts.specs.declared.answer.Step.TheVariants.{R, N, P, I, C, L}
use Rattle.parts.specs.declared.kinds.Core.{Core}
use Rattle.parts.specs.declared.kinds.Counts.{Counts}
use Rattle.parts.specs.declared.kinds.Profile.TheVariants.{D}
use Rattle.parts.specs.declared.kinds.Register.{Register}
use Rattle.settling.specs.Line.{in_line}
use Rattle.effects.specs.declared.kinds.Effect.{Effect}
use Rattle.effects.specs.declared.kinds.Move.{Move}
use Rattle.effects.specs.declared.kinds.Move.TheVariants.{Stay, GiveUp}
use Rattle.block.specs.Over.{over}
use Rattle.block.specs.Sound as S
use Rattle.block.specs.Settle.{settle}
use Rattle.block.specs.Skipping.{skips}
use Rattle.block.specs.Steps.{effect_on, moves}
use Rattle.block.specs.Table.{core_of, unit_of, register_of}
use Rattle.block.specs.declared.table.Table.{Table}
use Rattle.building.specs.Build.{fresh}
use Rattle.parts.proofs.Along.{same_or_not}
use Rattle.parts.proofs.Bools.{and_left, and_right, and_both, clash}
use Rattle.block.proofs.Agreeing.{flag_at, at_first, in_line_lem}
use Rattle.block.proofs.Allows.{may_request, may_nest, may_come_back}
use Rattle.block.proofs.DropsKept.{skipped_same}
use Rattle.block.proofs.Kept.{two_stage_lem_lem}
use Rattle.block.proofs.Moving.{shown, affected_shown, shown_flag}
use Rattle.block.proofs.Stepping.{poll_cases, come_cases}
use Rattle.block.proofs.Suited.{stands_live, single_in_D, away_in_T, none_second}
use Rattle.laws.specs.Granting.{Due}
use Rattle.laws.proofs.Keeping.{Good, core_fresh}
use Rattle.fairness.specs.Run.{Place, Reached, takes_ticket, onward, after_all, start}
use Rattle.fairness.specs.Stretch.{is_earlier, earlier}
use Rattle.fairness.specs.Claims.{NeverReached}
use Rattle.fairness.proofs.Counting.{count_drop}
use Rattle.fairness.proofs.Settled.{settled_keeps, settled_new}
use Rattle.fairness.proofs.Effects.{Accepted, Refusal, Live, stepped, answers_done, come_done, judged, interrupt_cases}
use Rattle.fairness.proofs.Skipping.{skip_on, skipped_once, flag_skipped, line_skipped, onward_skipped}
use Rattle.fairness.proofs.Invariant.{
  Numbered,
  live_small,
  issue_kept,
  issue_taken,
  undone_takes,
  numbered_start,
  numbered_skipped,
  numbered_onward,
  numbered,
  counts_onward,
}
use Rattle.fairness.proofs.Stuck.{flag_there}
use Rattle.fairness.proofs.Standing.{Stands, first_class, stands_entry}
use Rattle.fairness.proofs.Overtaking.{due_earlier}
use Rattle.fairness.proofs.Bound.{unflagged, left, flagged_out, unflagged_earlier, entry_bound}

-- whoever has a flag is live
flag_live : (t : Table) → Good t → (u j : ℕ) → u < units → j < cores → (register_of t u j).flag ≡ true → Live t j
flag_live t g u j h l f =
    ⊎_elim (λ a. stands_live (core_of t j).state a.stands) (λ a. (two_stage_lem_lem (core_of t j).state a.two).live)
    (flag_at (core_of t j) u (register_of t u j) ((g.sound.unit u h).agrees j l) f)

pub record Ahead (p : Place) : Type 0 where
  pub first :
      p.table.counts.profile ≡ D →
      (u : ℕ) →
      u < p.table.counts.first →
      (j k : ℕ) →
      j < cores →
      k < cores →
      (register_of p.table u j).flag ≡ true →
      in_line (register_of p.table u k) ≡ true →
      p.issue j < p.issue k

-- Whoever takes a ticket

module _ (t : Table) where
  takes_whose : (z : Step) (j : ℕ) → takes_ticket t z j ≡ true → j ≡ (whose z).0
  takes_whose (R k u) j h = sym (eqb-true k.0 j (and_left (eqb k.0 j) _ h))
  takes_whose (N k u) j h = absurd (clash h refl)
  takes_whose (P k) j h = absurd (clash h refl)
  takes_whose (I k) j h = absurd (clash h refl)
  takes_whose (C k) j h =
      sym (eqb-true k.0 j (and_left (eqb k.0 j) _ (and_left (eqb k.0 j && is_dropped (core_of t k.0).state) _ h)))
  takes_whose (L k) j h = absurd (clash h refl)

  -- had none
  takes_dead : (z : Step) → Accepted t z → takes_ticket t z (whose z).0 ≡ true → is_live_lem (core_of t (whose z).0).state ≡ false
  takes_dead (R k u) a h = ap is_live_lem (may_request t k u a.may).state
  takes_dead (N k u) a h = absurd (clash h refl)
  takes_dead (P k) a h = absurd (clash h refl)
  takes_dead (I k) a h = absurd (clash h refl)
  takes_dead (C k) a h =
      let z = (core_of t k.0).state in
      let gone = and_right (eqb k.0 k.0) _ (and_left (eqb k.0 k.0 && is_dropped z) _ h) in
      ap (λ (b : Bool). not (is_idle_lem z) && not b) gone ∙ none (not (is_idle_lem z))
    where
      none : (b : Bool) → (b && false) ≡ false
      none true = refl
      none false = refl
  takes_dead (L k) a h = absurd (clash h refl)

  -- in D every other step leaves the registers of its core or gives them up
  module _ (g : Good t) (d : t.counts.profile ≡ D) where
    abbrev Kept : Step → Effect → Type 0
    Kept z e = (e.does ≡ Stay) ⊎ (e.does ≡ GiveUp) ⊎ (takes_ticket t z (whose z).0 ≡ true)

    single : (k : ℕ) → k < cores → two_stage_lem (core_of t k).state ≡ false
    single k l = single_in_D t.counts.profile (core_of t k).state d (g.sound.core k l).suited

    does : (z : Step) → Accepted t z → Kept z (effect_on t z)
    does (R k u) a = inr (inr (and_both (eq-eqb k.0 k.0 refl) (answers_done t (R k u) a refl)))
    does (N k u) a =
        let r = may_nest t k u a.may in
        let none = none_second t.counts g.sound.counts d in
        absurd (omega (arith, r))
    does (P k) a = poll_cases t k (Kept (P k)) (λ f. inl refl) (λ f two. absurd (clash two (single k.0 a.small))) (λ f one. inl refl)
    does (I k) a = interrupt_cases t k (Kept (I k)) (λ p. inr (inl refl)) (λ p f. inr (inl refl)) (λ p f. inl refl)
    does (C k) a =
        come_cases t.counter (core_of t k.0) (Kept (C k))
        (λ s. absurd (clash (ap dequeues d) (ap dequeues (away_in_T t.counts.profile (core_of t k.0).state s (g.sound.core k.0 a.small).suited))))
        (λ s. inl refl)
        (λ s. inr (inr (and_both (and_both (eq-eqb k.0 k.0 refl) (ap is_dropped s)) (answers_done t (C k) a (come_done t k)))))
        (may_come_back t k a.may).state
    does (L k) a = inr (inl refl)

-- A step that skips nobody

module _ (c : ℕ) (p : Place) (n : Numbered c p) (ahead : Ahead p) (z : Step) (calm : skips p.table z ≡ false) where
  abbrev x : Table
  x = p.table

  abbrev m : Table
  m = moves x z

  abbrev q : Place
  q = onward p z

  g : Good x
  g = n.good

  module _ (a : Accepted x z) (d : x.counts.profile ≡ D) (u : ℕ) (class : u < x.counts.first) where
    h : u < units
    h = first_class x g u class

    -- the registers before settling, by those before the step
    flag_was : (j : ℕ) → (register_of m u j).flag ≡ true → (register_of x u j).flag ≡ true
    flag_was j f = go (same_or_not j (whose z).0)
      where
        go : (j ≡ (whose z).0) ⊎ (j ≢ (whose z).0) → (register_of x u j).flag ≡ true
        go (inl e) =
            let i = (whose z).0 in
            let r = affected_shown x g.shaped i a.small u h (effect_on x z) in
            let f' = sym (ap (λ (y : Register). y.flag) r) ∙ ap (λ (o : ℕ). (register_of m u o).flag) (sym e) ∙ f in
            ap (λ (o : ℕ). (register_of x u o).flag) e ∙
            ⊎_elim (λ clear. absurd (clash f' clear)) (λ same. sym same ∙ f') (shown_flag x i u (effect_on x z).does)
        go (inr o) = ap (λ (y : Register). y.flag) (sym (a.moved.registers u h j o)) ∙ f

    line_was : (k : ℕ) → takes_ticket x z k ≡ false → in_line (register_of m u k) ≡ true → in_line (register_of x u k) ≡ true
    line_was k keeps line = go (same_or_not k (whose z).0)
      where
        -- by what its core does
        own : k ≡ (whose z).0 → (y : Move) → (effect_on x z).does ≡ y → in_line (shown x (whose z).0 y u) ≡ true
        own e y w =
            let i = (whose z).0 in
            sym (ap (λ (v : Move). in_line (shown x i v u)) w) ∙
            sym (ap in_line (affected_shown x g.shaped i a.small u h (effect_on x z))) ∙
            ap (λ (o : ℕ). in_line (register_of m u o)) (sym e) ∙
            line

        go : (k ≡ (whose z).0) ⊎ (k ≢ (whose z).0) → in_line (register_of x u k) ≡ true
        go (inl e) =
            ap (λ (o : ℕ). in_line (register_of x u o)) e ∙
            ⊎_elim (λ w. own e Stay w)
            (⊎_elim (λ w. absurd (clash (own e GiveUp w) refl)) (λ w. absurd (clash w (ap (takes_ticket x z) (sym e) ∙ keeps))))
            (does x g d z a)
        go (inr o) = ap in_line (sym (a.moved.registers u h k o)) ∙ line

    module _ (j k : ℕ) (l : j < cores) (l' : k < cores) (line : in_line (register_of m u k) ≡ true) where
      -- whoever had the flag before
      had : (register_of m u j).flag ≡ true → q.issue j < q.issue k
      had f = go (takes_ticket x z k) refl
        where
          live : Live x j
          live = flag_live x g u j h l (flag_was j f)

          keeps : q.issue j ≡ p.issue j
          keeps = pick (takes_ticket x z j) refl
            where
              pick : (b : Bool) → takes_ticket x z j ≡ b → q.issue j ≡ p.issue j
              pick true w =
                  let e = takes_whose x z j w in
                  absurd (clash live (ap (λ (o : ℕ). is_live_lem (core_of x o).state) e ∙ takes_dead x z a (ap (takes_ticket x z) (sym e) ∙ w)))
              pick false w = issue_kept p z j w

          go : (b : Bool) → takes_ticket x z k ≡ b → q.issue j < q.issue k
          go true w = omega (arith, keeps, issue_taken p z k w, n.low j live)
          go false w = omega (arith, keeps, issue_kept p z k w, ahead.first d u class j k l l' (flag_was j f) (line_was k w line))

      -- or gets it
      gets : (register_of q.table u k).flag ≡ false → (register_of q.table u j).flag ≡ true → Due (unit_of m u) (core_no j) → q.issue j < q.issue k
      gets clear f due = due_earlier c p n z a u class j k due l' (λ e. clash f (ap (λ (o : ℕ). (register_of q.table u o).flag) (sym e) ∙ clear)) line

  calm_ahead : Ahead q
  calm_ahead = ⊎_elim accepted refused (judged x g z calm)
    where
      accepted : Accepted x z → Ahead q
      accepted a =
          record {
            first = λ d u class j k l l' f line.
                let same = counts_onward p g z in
                let d' : x.counts.profile ≡ D = ap (λ (o : Counts). o.profile) (sym same) ∙ d in
                let class' : u < x.counts.first = rw same at class in
                let h = first_class x g u class' in
                let f' : (register_of (settle m).table u j).flag ≡ true = rw (stepped x z a) at f in
                let kept = settled_keeps m a.shaped a.present u k in
                let there = in_line_lem (register_of q.table u k) line in
                let was : (register_of (settle m).table u k).valid ≡ true = rw (stepped x z a) at there.0 in
                let bare : (register_of (settle m).table u k).flag ≡ false = rw (stepped x z a) at there.1 in
                let line' = and_both (sym kept.valid ∙ was) (clear (register_of m u k).flag (register_of (settle m).table u k).flag kept.flag bare) in
                ⊎_elim (had a d' u class' j k l l' line') (gets a d' u class' j k l l' line' there.1 f)
                (settled_new m a.shaped a.present u h j f');
          }
        where
          clear : (b s : Bool) → (b ≡ true → s ≡ true) → s ≡ false → not b ≡ true
          clear true s f e = absurd (clash (f refl) e)
          clear false s f e = refl

      refused : Refusal x z → Ahead q
      refused r =
          record {
            first = λ d u class j k l l' f line.
                let at_j = issue_kept p z j (undone_takes x z r.undone j) in
                let at_k = issue_kept p z k (undone_takes x z r.undone k) in
                let less = ahead.first (rw r.table at d) u (rw r.table at class) j k l l' (rw r.table at f) (rw r.table at line) in
                omega arith;
          }

-- Runs

module _ (c : ℕ) (p : Place) (n : Numbered c p) (ahead : Ahead p) (z : Step) where
  ahead_skipped : Ahead (skip_on p z)
  ahead_skipped =
      let t = p.table in
      let same = (skipped_same t z).0 in
      record {
        first = λ d u class j k l l' f line.
            let class' : u < t.counts.first = rw same at class in
            ahead.first (ap (λ (o : Counts). o.profile) (sym same) ∙ d) u class' j k l l'
            (sym (flag_skipped t z n.good u j) ∙ f)
            (line_skipped t z n.good u k line);
      }

  ahead_onward : Ahead (onward p z)
  ahead_onward =
      subst Ahead (sym (onward_skipped p n.good z))
      (calm_ahead c (skip_on p z) (numbered_skipped c p n z) ahead_skipped z (skipped_once p.table z n.good))

ahead_after : (c : ℕ) (p : Place) → Numbered c p → Ahead p → (l : List Step) → Ahead (after_all p l)
unfolding over
ahead_after c p n a [] = a
ahead_after c p n a (z ∷ more) = ahead_after c (onward p z) (numbered_onward c p n z) (ahead_onward c p n a z) more

-- nobody has a flag at the start
ahead_start : (c : Counts) (m : Ticket) → Numbered m.0 (start c m) → Ahead (start c m)
ahead_start c m n =
    record {
      first = λ d u class j k l l' f line.
          let h = first_class (fresh c m) n.good u class in
          absurd (clash (flag_live (fresh c m) n.good u j h l f) (ap (λ (o : Core). is_live_lem o.state) (core_fresh c m j l)));
    }

ahead_reached : (p : Place) → Reached p → Ahead p
ahead_reached p r =
    let n = numbered_start r.counts r.counter r.good r.counter_fits in
    subst Ahead r.run (ahead_after r.counter.0 (start r.counts r.counter) n (ahead_start r.counts r.counter n) r.steps)

-- The entry: one of the earlier has the flag

left_less : (c k u : ℕ) (e : Place) → Stands e c k u e → Ahead e → e.table.counts.profile ≡ D → left e k u e < earlier e k
left_less c k u e w ahead d =
    let t = e.table in
    let g = w.numbered.good in
    let h = first_class t g u w.class in
    let small = live_small t g.shaped k (ap is_live_lem w.state) in
    let r = register_of t u k in
    let valid = at_unit (core_of t k) u r w.first (ap stands w.state) ((g.sound.unit u h).agrees k small) in
    let f = flag_there t g.sound u k h small valid in
    let j = f.0 in
    let less = ahead.first d u w.class j k f.1 small f.2 (and_both valid (ap not w.clear)) in
    let live = flag_live t g u j h f.1 f.2 in
    let drop =
    count_drop (λ (i : ℕ). unflagged e k u t (e.issue i) i) (is_earlier e k) cores j f.1 (λ i l. unflagged_earlier e k u i)
    (and_both live (lt-ltb (e.issue j) (e.issue k) less))
    (flagged_out e k u t (e.issue j) j f.2)
    in
    omega arith
  where
    -- a core that stands shows a valid register at its first unit
    at_unit : (c : Core) (u : ℕ) (r : Register) → c.first.0 ≡ u → stands c.state ≡ true → S.agrees c u r ≡ true → r.valid ≡ true
    at_unit c u r e s h = (at_first c r s (subst (λ (v : ℕ). S.agrees c v r ≡ true) (sym e) h)).shows.valid

pub never_reached : NeverReached
never_reached p s k u more d r entry on =
    let n = numbered p r in
    let e = onward p s in
    let w = stands_entry n.0 p n.1 s k u entry in
    let d' = ap (λ (o : Counts). o.profile) (counts_onward p n.1.good s) ∙ d in
    omega (arith, entry_bound p s k u more r entry on true (ap dequeues d), left_less n.0 k u e w (ahead_onward n.0 p n.1 (ahead_reached p r) s) d')
