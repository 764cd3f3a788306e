-- Issue order. At every place reached the counter is the next ticket of the run, and a live core's own ticket is that of its issue
-- number, which lies at most half a circle back: refusal 15 keeps just this. So live numbers differ by less than half a circle, and
-- the comparison of live tickets is the order of their numbers. Skipping only ends tickets.
use Prim.Native.Nat.{ℕ, suc, ◌+◌, ◌≤◌, ◌<◌}
use mathlib.Core.Bool.{Bool, true, false, cond, ◌&&◌, ◌||◌, not}
use mathlib.Core.List.{List, [], ◌∷◌}
use mathlib.Core.Logic.{◌⊎◌, inl, inr, ⊎_elim, ◌≢◌}
use mathlib.Core.Path.{◌≡◌, refl, sym, ◌∙◌, ap, ap₂, subst}
use native.Mathlib.Omega.{arith}
use lib.Dec.{eqb, ltb}
use lib.ListN.{get_or-eq_default}
use borrow.Author.Tests.{eqb-true, eq-eqb, ne_eqb, ltb-true, ltb-false}
use Rattle.ticket.specs.Issue.{nth}
use Rattle.ticket.specs.Order.{circle, half, behind, compare, after}
use Rattle.ticket.specs.declared.order.Comparison.TheVariants.{Older, Younger, Same as Equal}
use Rattle.ticket.specs.declared.kinds.Ticket.{Ticket}
use Rattle.ticket.specs.declared.kinds.UnitNo.{UnitNo}
use Rattle.ticket.proofs.Laws.{nth_after, apart, earlier_older, later_younger, same}
use Rattle.parts.specs.Fold.{one}
use Rattle.parts.specs.Answer.{whose}
use Rattle.parts.specs.State.{is_idle_lem, is_live_lem, is_dropped}
use Rattle.parts.specs.Parts.{cores, unit_no, idle, core}
use Rattle.block.specs.Table.{core_of, Shaped}
use Rattle.parts.specs.Range.{in_range}
use Rattle.building.specs.Build.{fresh}
use Rattle.block.specs.Steps.{effect_on, step}
use Rattle.block.specs.Over.{over}
use Rattle.parts.specs.declared.kinds.Core.{Core}
use Rattle.parts.specs.declared.kinds.Counts.{Counts}
use Rattle.parts.specs.declared.kinds.State.{State}
use Rattle.parts.specs.declared.kinds.State.TheVariants.{Waiting}
use Rattle.refusals.specs.Judge.{stretched}
use Rattle.effects.specs.Effect.{request}
use Rattle.effects.specs.declared.kinds.Effect.{Effect}
use Rattle.block.specs.Skipping.{skips, skipped}
use Rattle.block.specs.declared.table.Table.{Table}
use Rattle.parts.specs.declared.answer.Step.{Step}
use Rattle.parts.specs.declared.answer.Step.TheVariants.{R, N, P, I, C, L}
use Rattle.parts.proofs.Along.{same_or_not}
use Rattle.block.proofs.Allows.{ComingBack, may_request, may_nest, may_come_back}
use Rattle.block.proofs.DropsKept.{skipped_same}
use Rattle.block.proofs.Stepping.{come_cases}
use Rattle.parts.proofs.Bools.{and_left, clash}
use Rattle.block.proofs.Parts.{parts}
use Rattle.laws.proofs.Keeping.{Good, steps_keep, core_fresh, fresh_shaped, fresh_sound}
use Rattle.block.proofs.Kept.{live_close}
use Rattle.block.proofs.Oldest.{Fitting}
use Rattle.fairness.specs.Run.{Place, Reached, done, takes_ticket, onward, start, after_all}
use Rattle.fairness.specs.Claims.{by_number}
use Rattle.fairness.proofs.Effects.{
  Accepted,
  Refusal,
  Live,
  Keeps,
  Same,
  judged,
  on_good,
  answers_done,
  stepped_core,
  stepped_counter,
  stepped_counts,
  keeps,
  poll_same,
  interrupt_same,
}
use Rattle.fairness.proofs.Skipping.{skip_on, skipped_good, skipped_once, live_skipped, onward_skipped}

-- whatever stands past the array is idle
pub live_small : (t : Table) → Shaped t → (j : ℕ) → Live t j → j < cores
live_small t s j live = go (ltb j cores) refl
  where
    go : (b : Bool) → ltb j cores ≡ b → j < cores
    go true e = ltb-true j cores e
    go false e =
        let past = ltb-false j cores e in
        absurd (clash live (ap (λ (c : Core). is_live_lem c.state) (get_or-eq_default t.cores idle (rw s.cores_long past))))

-- A step's table

-- the step gives its core the counter for its ticket
pub record Takes (t : Table) (z : Step) : Type 0 where
  pub accepted : Accepted t z
  pub close : stretched t.counter t.cores t.counts.cores ≡ false
  pub unit : UnitNo
  pub effect : effect_on t z ≡ request unit t.counter
  pub taken : (j : ℕ) → takes_ticket t z j ≡ eqb (whose z).0 j

and_none : (b : Bool) → (b && false) ≡ false
and_none true = refl
and_none false = refl

and_all : (b : Bool) → (b && true) ≡ b
and_all true = refl
and_all false = refl

module _ (t : Table) where
  pub undone_takes : (z : Step) → done t z ≡ false → (j : ℕ) → takes_ticket t z j ≡ false
  undone_takes (R k u) e j = simp (e, and_none)
  undone_takes (N k u) e j = refl
  undone_takes (P k) e j = refl
  undone_takes (I k) e j = refl
  undone_takes (C k) e j = simp (e, and_none)
  undone_takes (L k) e j = refl

  -- a step that keeps the tickets which are live after it, or one that gives a ticket; it skips nobody
  module _ (g : Good t) where
    pub step_good : (z : Step) → Good (step t z).table
    step_good z = rw (on_good t g z) (steps_keep t g z)

    pub by_tickets :
        (Q : Step → Type 0) →
        ((z : Step) → Keeps t (step t z).table → ((j : ℕ) → takes_ticket t z j ≡ false) → Q z) →
        ((z : Step) → Takes t z → Q z) →
        (z : Step) →
        skips t z ≡ false →
        Q z
    by_tickets Q kept takes z calm = ⊎_elim (accepted z) refused (judged t g z calm)
      where
        refused : Refusal t z → Q z
        refused r =
            kept z
            (record {
              counter = ap (λ (x : Table). x.counter) r.table;
              live = λ j e. rw r.table at e;
              own = λ j e. ap (λ (x : Table). (core_of x j).own.0) r.table;
            })
            (undone_takes z r.undone)

        keep : (z : Step) → Accepted t z → Same t (whose z).0 (effect_on t z) → ((j : ℕ) → takes_ticket t z j ≡ false) → Q z
        keep z a same = kept z (keeps t z a same)

        accepted : (z : Step) → Accepted t z → Q z
        accepted (R k u) a =
            takes (R k u)
            (record {
              accepted = a;
              close = (may_request t k u a.may).close;
              unit = u;
              effect = refl;
              taken = λ j. ap (λ (b : Bool). eqb k.0 j && b) (answers_done t (R k u) a refl) ∙ and_all (eqb k.0 j);
            })
        accepted (N k u) a = keep (N k u) a (record { counter = refl; own = λ e. (ap is_live_lem (may_nest t k u a.may).state, refl) }) (λ j. refl)
        accepted (P k) a = keep (P k) a (poll_same t k a.may) (λ j. refl)
        accepted (I k) a = keep (I k) a (interrupt_same t k a.may) (λ j. refl)
        accepted (C k) a =
            come_cases t.counter (core_of t k.0) (λ (x : Effect). effect_on t (C k) ≡ x → Q (C k))
            (λ s e. keep (C k) a (registered s e refl refl refl (ap is_live_lem s)) (undropped s refl))
            (λ s e. keep (C k) a (registered s e refl refl refl (ap is_live_lem s)) (undropped s refl))
            (λ s e.
            takes (C k)
            (record {
              accepted = a;
              close = r.close s;
              unit = (core_of t k.0).first;
              effect = e;
              taken = λ j.
                  ap₂ (λ (b b' : Bool). eqb k.0 j && b && b') (ap is_dropped s) (answers_done t (C k) a (ap (λ (x : Effect). x.answer) e)) ∙
                  and_all (eqb k.0 j && true) ∙
                  and_all (eqb k.0 j);
            }))
            r.state
            refl
          where
            r : ComingBack t k
            r = may_come_back t k a.may

            -- the core has its ticket still
            registered :
                {z : State} {x : Effect} →
                (core_of t k.0).state ≡ z →
                effect_on t (C k) ≡ x →
                x.counter ≡ t.counter →
                x.core.own ≡ (core_of t k.0).own →
                is_live_lem x.core.state ≡ true →
                Live t k.0 →
                Same t k.0 (effect_on t (C k))
            registered s e counter own after live =
                subst (Same t k.0) (sym e) (record { counter = counter; own = λ l. (live, ap (λ (n : Ticket). n.0) own) })

            undropped : {z : State} → (core_of t k.0).state ≡ z → is_dropped z ≡ false → (j : ℕ) → takes_ticket t (C k) j ≡ false
            undropped s d j =
                ap (λ (b : Bool). eqb k.0 j && b && done t (C k)) (ap is_dropped s ∙ d) ∙
                ap (λ (b : Bool). b && done t (C k)) (and_none (eqb k.0 j))
        accepted (L k) a = keep (L k) a (record { counter = refl; own = λ e. absurd (clash e refl) }) (λ j. refl)

below : (c i : ℕ) → nth c i < circle
unfolding nth
below c i = omega arith

-- c is the counter that the run started with
pub record Numbered (c : ℕ) (p : Place) : Type 0 where
  pub good : Good p.table
  pub counter : p.table.counter.0 ≡ nth c p.issued
  pub own : (j : ℕ) → Live p.table j → (core_of p.table j).own.0 ≡ nth c (p.issue j)
  pub low : (j : ℕ) → Live p.table j → p.issue j < p.issued
  pub high : (j : ℕ) → Live p.table j → p.issued ≤ p.issue j + half

-- the numbers of a step that gives no ticket, and of one that does
module _ (p : Place) (z : Step) where
  pub issue_kept : (j : ℕ) → takes_ticket p.table z j ≡ false → (onward p z).issue j ≡ p.issue j
  issue_kept j e = ap (λ (b : Bool). cond b p.issued (p.issue j)) e

  pub issue_taken : (j : ℕ) → takes_ticket p.table z j ≡ true → (onward p z).issue j ≡ p.issued
  issue_taken j e = ap (λ (b : Bool). cond b p.issued (p.issue j)) e

  issued_kept : takes_ticket p.table z (whose z).0 ≡ false → (onward p z).issued ≡ p.issued
  issued_kept e =
      let a : (onward p z).issued ≡ p.issued + 0 = ap (λ (b : Bool). p.issued + one b) e in
      omega arith

  issued_taken : takes_ticket p.table z (whose z).0 ≡ true → (onward p z).issued ≡ p.issued + 1
  issued_taken e = ap (λ (b : Bool). p.issued + one b) e

module _ (c : ℕ) (p : Place) (n : Numbered c p) where
  abbrev t : Table
  t = p.table

  onward_kept : (z : Step) → Keeps t (step t z).table → ((j : ℕ) → takes_ticket t z j ≡ false) → Numbered c (onward p z)
  onward_kept z k f =
      let e = issued_kept p z (f (whose z).0) in
      record {
        good = step_good t n.good z;
        counter = ap (λ (x : Ticket). x.0) k.counter ∙ n.counter ∙ ap (nth c) (sym e);
        own = λ j l. k.own j l ∙ n.own j (k.live j l) ∙ ap (nth c) (sym (issue_kept p z j (f j)));
        low = λ j l. omega (arith, issue_kept p z j (f j), n.low j (k.live j l));
        high = λ j l. omega (arith, issue_kept p z j (f j), n.high j (k.live j l));
      }

  module _ (z : Step) (x : Takes t z) where
    abbrev k : ℕ
    k = (whose z).0

    abbrev a : Accepted t z
    a = x.accepted

    taken_at : (j : ℕ) → j ≡ k → takes_ticket t z j ≡ true
    taken_at j e = x.taken j ∙ eq-eqb k j (sym e)

    taken_not : (j : ℕ) → j ≢ k → takes_ticket t z j ≡ false
    taken_not j d = x.taken j ∙ ne_eqb k j (λ e. d (sym e))

    core_at : core_of (step t z).table k ≡ core t.counter t.counter x.unit (unit_no 0) Waiting
    core_at = stepped_core t z a k ∙ a.moved.becomes ∙ ap (λ (e : Effect). e.core) x.effect

    core_not : (j : ℕ) → j ≢ k → core_of (step t z).table j ≡ core_of t j
    core_not j d = stepped_core t z a j ∙ a.moved.others j d

    -- no live ticket lies half a circle behind
    close : (j : ℕ) → Live t j → p.issued < p.issue j + half
    close j l =
        let b = live_close t n.good.sound x.close j (live_small t n.good.shaped j l) l in
        let d : behind (nth c p.issued) (nth c (p.issue j)) < half =
        subst (λ (x : ℕ). x < half) (ap₂ behind n.counter (n.own j l)) b in
        let low = n.low j l in
        let high = n.high j l in
        omega (arith, apart c (p.issue j) p.issued (omega arith) (omega arith))

    onward_taken : Numbered c (onward p z)
    onward_taken =
        record {
          good = step_good t n.good z;
          counter =
              ap (λ (x : Ticket). x.0) (stepped_counter t z a ∙ ap (λ (e : Effect). e.counter) x.effect) ∙
              ap after n.counter ∙
              nth_after c p.issued ∙
              ap (nth c) (let z : suc p.issued ≡ (onward p z).issued = omega (arith, e) in z);
          own = λ j l. own j l (same_or_not j k);
          low = λ j l. low j l (same_or_not j k);
          high = λ j l. high j l (same_or_not j k);
        }
      where
        e : (onward p z).issued ≡ p.issued + 1
        e = issued_taken p z (taken_at k refl)

        was : (j : ℕ) → Live (step t z).table j → j ≢ k → Live t j
        was j l d = rw (core_not j d) at l

        own :
            (j : ℕ) →
            Live (step t z).table j →
            (j ≡ k) ⊎ (j ≢ k) →
            (core_of (step t z).table j).own.0 ≡ nth c ((onward p z).issue j)
        own j l (inl q) =
            ap (λ (i : ℕ). (core_of (step t z).table i).own.0) q ∙
            ap (λ (x : Core). x.own.0) core_at ∙
            n.counter ∙
            ap (nth c) (sym (issue_taken p z j (taken_at j q)))
        own j l (inr d) =
            ap (λ (x : Core). x.own.0) (core_not j d) ∙
            n.own j (was j l d) ∙
            ap (nth c) (sym (issue_kept p z j (taken_not j d)))

        low : (j : ℕ) → Live (step t z).table j → (j ≡ k) ⊎ (j ≢ k) → (onward p z).issue j < (onward p z).issued
        low j l (inl q) = omega (arith, e, issue_taken p z j (taken_at j q))
        low j l (inr d) = omega (arith, e, issue_kept p z j (taken_not j d), n.low j (was j l d))

        high : (j : ℕ) → Live (step t z).table j → (j ≡ k) ⊎ (j ≢ k) → (onward p z).issued ≤ (onward p z).issue j + half
        high j l (inl q) = omega (arith, e, issue_taken p z j (taken_at j q))
        high j l (inr d) = omega (arith, e, issue_kept p z j (taken_not j d), close j (was j l d))

    -- a ticket that is live afterwards was so, or is the new one
    live_taken :
        (j : ℕ) →
        Live (step t z).table j →
        (Live t j × ((onward p z).issue j ≡ p.issue j)) ⊎ ((onward p z).issue j ≡ p.issued)
    live_taken j l = go (same_or_not j k)
      where
        go : (j ≡ k) ⊎ (j ≢ k) → (Live t j × ((onward p z).issue j ≡ p.issue j)) ⊎ ((onward p z).issue j ≡ p.issued)
        go (inl q) = inr (issue_taken p z j (taken_at j q))
        go (inr d) = inl (rw (core_not j d) at l, issue_kept p z j (taken_not j d))

  calm_numbered : (z : Step) → skips t z ≡ false → Numbered c (onward p z)
  calm_numbered = by_tickets t n.good (λ z. Numbered c (onward p z)) onward_kept onward_taken

  calm_live :
      (z : Step) →
      skips t z ≡ false →
      (j : ℕ) →
      Live (onward p z).table j →
      (Live t j × ((onward p z).issue j ≡ p.issue j)) ⊎ ((onward p z).issue j ≡ p.issued)
  calm_live =
      by_tickets t n.good
      (λ z. (j : ℕ) → Live (onward p z).table j → (Live t j × ((onward p z).issue j ≡ p.issue j)) ⊎ ((onward p z).issue j ≡ p.issued))
      (λ z k f j l. inl (k.live j l, issue_kept p z j (f j)))
      live_taken

  -- the comparison of live tickets
  pub order :
      (j k : ℕ) → Live t j → Live t k → compare (core_of t j).own.0 (core_of t k).own.0 ≡ by_number (p.issue j) (p.issue k)
  order j k l m = ap₂ compare (n.own j l) (n.own k m) ∙ go (ltb i h) refl (ltb h i) refl
    where
      i : ℕ
      i = p.issue j

      h : ℕ
      h = p.issue k

      go : (b : Bool) → ltb i h ≡ b → (d : Bool) → ltb h i ≡ d → compare (nth c i) (nth c h) ≡ cond b Older (cond d Younger Equal)
      go true x d y =
          let a = ltb-true i h x in
          earlier_older c i h a (omega (arith, n.high j l, n.low k m))
      go false x true y =
          let a = ltb-true h i y in
          later_younger c h i a (omega (arith, n.high k m, n.low j l))
      go false x false y =
          let a = ltb-false i h x in
          let b = ltb-false h i y in
          let e : i ≡ h = omega arith in
          ap (λ (w : ℕ). compare (nth c w) (nth c h)) e ∙ same (nth c h)

  -- own tickets fit sixteen bits
  pub fitting : Fitting t
  fitting = record { own = λ k h. own k h (is_live_lem (core_of t k).state) refl }
    where
      zero : (b d : Bool) (m x : ℕ) → (not b && not d) ≡ false → (not b || (eqb m 0 && eqb x 0)) ≡ true → (not d || eqb m 0) ≡ true → m ≡ 0
      zero true d m x e idle gone = eqb-true m 0 (and_left (eqb m 0) (eqb x 0) idle)
      zero false true m x e idle gone = eqb-true m 0 gone
      zero false false m x e idle gone = absurd (clash refl e)

      own : (k : ℕ) → k < cores → (b : Bool) → is_live_lem (core_of t k).state ≡ b → (core_of t k).own.0 < circle
      own k h true e = rw (n.own k e) (below c (p.issue k))
      own k h false e =
          let s = n.good.sound.core k h in
          let z = zero (is_idle_lem (core_of t k).state) (is_dropped (core_of t k).state) (core_of t k).own.0 (core_of t k).first.0 e s.idle_blank s.dropped_blank in
          omega arith

-- Where the step skips

module _ (c : ℕ) (p : Place) (n : Numbered c p) (z : Step) where
  pub numbered_skipped : Numbered c (skip_on p z)
  numbered_skipped =
      let t = p.table in
      let old = live_skipped t z n.good in
      record {
        good = skipped_good t z n.good;
        counter = ap (λ (x : Ticket). x.0) (skipped_same t z).1 ∙ n.counter;
        own = λ j l. (old j l).1 ∙ n.own j (old j l).0;
        low = λ j l. n.low j (old j l).0;
        high = λ j l. n.high j (old j l).0;
      }

  pub numbered_onward : Numbered c (onward p z)
  numbered_onward =
      subst (Numbered c) (sym (onward_skipped p n.good z))
      (calm_numbered c (skip_on p z) numbered_skipped z (skipped_once p.table z n.good))

  pub live_onward :
      (j : ℕ) →
      Live (onward p z).table j →
      (Live p.table j × ((onward p z).issue j ≡ p.issue j)) ⊎ ((onward p z).issue j ≡ p.issued)
  live_onward j l =
      let e = onward_skipped p n.good z in
      let at = ap (λ (q : Place). q.issue j) e in
      ⊎_elim
      (λ x. inl ((live_skipped p.table z n.good j x.0).0, at ∙ x.1))
      (λ x. inr (at ∙ x))
      (calm_live c (skip_on p z) numbered_skipped z (skipped_once p.table z n.good) j (subst (λ (q : Place). Live q.table j) e l))

-- the counts are the run's
pub counts_onward : (p : Place) → Good p.table → (z : Step) → (onward p z).table.counts ≡ p.table.counts
counts_onward p g z =
    let x = skipped p.table z in
    ap (λ (q : Place). q.table.counts) (onward_skipped p g z) ∙
    ⊎_elim (λ a. stepped_counts x z a) (λ r. ap (λ (m : Table). m.counts) r.table)
    (judged x (skipped_good p.table z g) z (skipped_once p.table z g)) ∙
    (skipped_same p.table z).0

-- Runs

pub numbered_start : (c : Counts) (m : Ticket) → in_range c ≡ true → m.0 < circle → Numbered m.0 (start c m)
unfolding nth
numbered_start c m good low =
    let g = fresh_shaped c m in
    let none : (j : ℕ) → Live (fresh c m) j → ⊥ =
    λ j l. clash l (ap (λ (x : Core). is_live_lem x.state) (core_fresh c m j (live_small (fresh c m) g j l))) in
    record {
      good = record { shaped = g; sound = parts (fresh c m) (fresh_sound c m good) };
      counter = omega arith;
      own = λ j l. absurd (none j l);
      low = λ j l. absurd (none j l);
      high = λ j l. absurd (none j l);
    }

pub numbered_after : (c : ℕ) (p : Place) → Numbered c p → (l : List Step) → Numbered c (after_all p l)
unfolding over
numbered_after c p n [] = n
numbered_after c p n (s ∷ more) = numbered_after c (onward p s) (numbered_onward c p n s) more

pub numbered : (p : Place) → Reached p → (c : ℕ) × Numbered c p
numbered p r =
    let c = r.counter.0 in
    let n = numbered_start r.counts r.counter r.good r.counter_fits in
    (c, subst (Numbered c) r.run (numbered_after c (start r.counts r.counter) n r.steps))
