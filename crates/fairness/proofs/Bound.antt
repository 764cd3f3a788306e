-- The bound. Count the earlier tickets that are live and without the unit's flag. A grant of the unit goes to one of them and takes it
-- out of the count. Of the steps' other work only an interrupt in T, of one that had the flag, puts one back, and it is counted too: in D that
-- ticket ends. Nor does skipping, which ends tickets. So the grants are at most what was there at the entry and, in T, the interrupts.
use Prim.Native.Nat.{ℕ, ◌+◌, ◌≤◌, ◌<◌}
use mathlib.Core.Bool.{Bool, true, false, cond, ◌&&◌, not}
use mathlib.Core.List.{List, [], ◌∷◌, Memᴰ}
use mathlib.Core.Logic.{◌⊎◌, inl, inr, ⊎_elim}
use mathlib.Core.Path.{◌≡◌, refl, sym, ◌∙◌, ap, ap₂}
use native.Mathlib.Omega.{arith}
use lib.Dec.{eqb}
use borrow.Author.Tests.{eqb-true, ltb-true, lt-ltb}
use Rattle.ticket.specs.Kinds.{grant}
use Rattle.parts.specs.Fold.{one, count}
use Rattle.parts.specs.Answer.{whose}
use Rattle.parts.specs.Profile.{dequeues}
use Rattle.parts.specs.State.{is_live_lem}
use Rattle.parts.specs.declared.kinds.Counts.{Counts}
use Rattle.parts.specs.declared.kinds.Profile.TheVariants.{T}
use Rattle.parts.specs.Parts.{cores, core_no, unit_no}
use Rattle.block.specs.Table.{core_of, unit_of, register_of}
use Rattle.block.specs.Skipping.{skips, skipped}
use Rattle.block.specs.Steps.{moves}
use Rattle.block.specs.Over.{over}
use Rattle.block.specs.declared.table.Table.{Table}
use Rattle.block.proofs.DropsKept.{skipped_same}
use Rattle.parts.specs.declared.answer.Step.{Step}
use Rattle.parts.specs.declared.answer.Step.TheVariants.{R, N, P, I, C, L}
use Rattle.parts.proofs.Bools.{and_left, and_right, and_both, not_true_false, clash}
use Rattle.parts.proofs.Folds.{some_at}
use Rattle.settling.proofs.Picking.{next_won}
use Rattle.laws.proofs.Granting.{settled_rising}
use Rattle.laws.proofs.Keeping.{Good}
use Rattle.fairness.specs.Run.{Place, Reached, interrupts, onward}
use Rattle.fairness.specs.Stretch.{grants, grants_of, enters, leaves, stretch, is_earlier, earlier, among, passed, interruptions}
use Rattle.fairness.specs.Claims.{Bound, BoundD}
use Rattle.fairness.proofs.Counting.{count_le, count_drop, count_rise, at_gives, grants_some, grants_most}
use Rattle.fairness.proofs.Settled.{settled_keeps, settled_due}
use Rattle.fairness.proofs.Effects.{Accepted, Refusal, Live, stepped, stepped_core, judged, flag_kept}
use Rattle.fairness.proofs.Skipping.{skip_on, skipped_once, live_skipped, flag_skipped, onward_skipped, grants_skipped, interrupts_skipped}
use Rattle.fairness.proofs.Invariant.{numbered, live_onward, counts_onward, undone_takes, issue_kept}
use Rattle.fairness.proofs.Standing.{Stands, stands_entry, stands_onward, stands_skipped, on_skipped, place}
use Rattle.fairness.proofs.Overtaking.{granted_due, due_live, calm_overtaken}

-- core j's ticket, by its number i, is an earlier one, live and without the flag of u
abbrev pub unflagged : Place → ℕ → ℕ → Table → ℕ → ℕ → Bool
unflagged e k u m i j = is_live_lem (core_of m j).state && among e k i && not (register_of m u j).flag

record Unflagged (e : Place) (k u : ℕ) (m : Table) (i j : ℕ) : Type 0 where
  live : Live m j
  early : among e k i ≡ true
  clear : (register_of m u j).flag ≡ false

module _ (e : Place) (k u : ℕ) (m : Table) (i j : ℕ) where
  told : unflagged e k u m i j ≡ true → Unflagged e k u m i j
  told h =
      let a = is_live_lem (core_of m j).state in
      let b = among e k i in
      record {
        live = and_left a b (and_left (a && b) _ h);
        early = and_right a b (and_left (a && b) _ h);
        clear = not_true_false (register_of m u j).flag (and_right (a && b) _ h);
      }

  telling : Unflagged e k u m i j → unflagged e k u m i j ≡ true
  telling x = and_both (and_both x.live x.early) (ap not x.clear)

  pub flagged_out : (register_of m u j).flag ≡ true → unflagged e k u m i j ≡ false
  flagged_out f = go (unflagged e k u m i j) refl
    where
      go : (b : Bool) → unflagged e k u m i j ≡ b → unflagged e k u m i j ≡ false
      go true h = absurd (clash f (told h).clear)
      go false h = h

-- an earlier number is less
among_less : (e : Place) (k i : ℕ) → among e k i ≡ true → i < e.issue k
among_less e k i h =
    let w = some_at (λ (j : ℕ). is_earlier e k j && eqb (e.issue j) i) cores h in
    let j = w.0 in
    let a = is_live_lem (core_of e.table j).state in
    let less = ltb-true (e.issue j) (e.issue k) (and_right a _ (and_left (is_earlier e k j) _ w.2)) in
    let same = eqb-true (e.issue j) i (and_right (is_earlier e k j) _ w.2) in
    omega arith

-- how many there are
abbrev pub left : Place → ℕ → ℕ → Place → ℕ
left e k u p = count (λ (j : ℕ). unflagged e k u p.table (p.issue j) j) cores

interrupts_whose : (t : Table) (z : Step) (j : ℕ) → interrupts t z j ≡ true → j ≡ (whose z).0
interrupts_whose t (R k u) j h = absurd (clash h refl)
interrupts_whose t (N k u) j h = absurd (clash h refl)
interrupts_whose t (P k) j h = absurd (clash h refl)
interrupts_whose t (I k) j h = sym (eqb-true k.0 j (and_left (eqb k.0 j) _ h))
interrupts_whose t (C k) j h = absurd (clash h refl)
interrupts_whose t (L k) j h = absurd (clash h refl)

-- an interrupt's place in the count, by whether the profile dequeues
abbrev counted : Bool → ℕ → ℕ
counted d n = cond d 0 n

-- where the step skips nobody
module _
    (e : Place) (c k u : ℕ) (p : Place) (w : Stands e c k u p) (z : Step) (on : leaves k u p z ≡ false) (calm : skips p.table z ≡ false)
  where
    abbrev t : Table
    t = p.table

    abbrev m : Table
    m = moves t z

    abbrev q : Place
    q = onward p z

    g : Good t
    g = w.numbered.good

    abbrev d : Bool
    d = dequeues t.counts.profile

    -- before the step, before settling, and after the step
    abbrev before : ℕ → Bool
    before j = unflagged e k u t (p.issue j) j

    abbrev between : ℕ → Bool
    between j = unflagged e k u m (q.issue j) j

    abbrev behind : ℕ → Bool
    behind j = unflagged e k u q.table (q.issue j) j

    abbrev interruption : Bool
    interruption = interrupts t z (whose z).0 && among e k (p.issue (whose z).0)

    -- whoever is earlier after the step had its ticket before
    old : (j : ℕ) → Live q.table j → among e k (q.issue j) ≡ true → Live t j × (q.issue j ≡ p.issue j)
    old j live early = ⊎_elim (λ x. x) new (live_onward c p w.numbered z j live)
      where
        new : q.issue j ≡ p.issued → Live t j × (q.issue j ≡ p.issue j)
        new same =
            let less = among_less e k (q.issue j) early in
            let low = w.numbered.low k (ap is_live_lem w.state) in
            let kept = w.issue in
            absurd (omega arith)

    module _ (a : Accepted t z) where
      -- one that was put back was interrupted, in T
      abbrev Back : ℕ → Type 0
      Back j = (interrupts t z j ≡ true) × (t.counts.profile ≡ T) × (among e k (p.issue j) ≡ true)

      moved : (j : ℕ) → between j ≡ true → (before j ≡ true) ⊎ Back j
      moved j h = go (register_of t u j).flag refl
        where
          x : Unflagged e k u m (q.issue j) j
          x = told e k u m (q.issue j) j h

          o : Live t j × (q.issue j ≡ p.issue j)
          o = old j (rw (stepped_core t z a j) x.live) x.early

          early : among e k (p.issue j) ≡ true
          early = ap (among e k) (sym o.1) ∙ x.early

          go : (b : Bool) → (register_of t u j).flag ≡ b → (before j ≡ true) ⊎ Back j
          go false f = inl (telling e k u t (p.issue j) j (record { live = o.0; early = early; clear = f }))
          go true f =
              ⊎_elim (λ f'. absurd (clash f' x.clear)) (λ i. inr (i.0, i.1, early))
              (flag_kept t g u w.class z j a x.live f)

      work : count between cores ≤ count before cores + counted d (one interruption)
      work = go d refl interruption refl
        where
          none : ((j : ℕ) → Back j → ⊥) → count between cores ≤ count before cores
          none f = count_le between before cores (λ j h x. ⊎_elim (λ y. y) (λ y. absurd (f j y)) (moved j x))

          counting : (j : ℕ) → Back j → interruption ≡ true
          counting j x = rw (← interrupts_whose t z j x.0) (and_both x.0 x.2)

          go : (b : Bool) → d ≡ b → (i : Bool) → interruption ≡ i → count between cores ≤ count before cores + counted b (one i)
          go true y i r = let le = none (λ j x. clash y (ap dequeues x.1)) in omega arith
          go false y true r =
              count_rise between before cores (whose z).0 a.small
              (λ j h d x. ⊎_elim (λ y. y) (λ y. absurd (d (interrupts_whose t z j y.0))) (moved j x))
          go false y false r = let le = none (λ j x. clash (counting j x) r) in omega arith

      settles : (j : ℕ) → behind j ≡ true → between j ≡ true
      settles j h =
          let x = told e k u q.table (q.issue j) j h in
          telling e k u m (q.issue j) j
          (record { live = rw (stepped_core t z a j) at x.live; early = x.early; clear = go (register_of m u j).flag refl x.clear })
        where
          go : (b : Bool) → (register_of m u j).flag ≡ b → (register_of q.table u j).flag ≡ false → (register_of m u j).flag ≡ false
          go false f clear = f
          go true f clear = absurd (clash ((settled_keeps m a.shaped a.present u j).flag f) (rw (stepped t z a) at clear))

      settling : grants_of u (grants p z) + count behind cores ≤ count between cores
      settling = ⊎_elim none some (grants_some u (grants p z))
        where
          none : grants_of u (grants p z) ≡ 0 → grants_of u (grants p z) + count behind cores ≤ count between cores
          none zero' =
              let le = count_le behind between cores (λ j h. settles j) in
              omega arith

          some :
              (j : ℕ) × Memᴰ (grant (unit_no u) (core_no j)) (grants p z) →
              grants_of u (grants p z) + count behind cores ≤ count between cores
          some i =
              let j = i.0 in
              let h = place e c k u p w z on in
              let d = granted_due c p w.numbered z a u w.class j i.1 in
              let won = next_won cores (unit_of m u) (core_no j) d.ticket d.oldest in
              let less = calm_overtaken e c k u p w z on calm j (at_gives u j (grants p z) i.1) in
              let set : (register_of q.table u j).flag ≡ true = rw (stepped t z a) (settled_due m a.shaped a.present u h (core_no j) d) in
              let live = due_live c p w.numbered z a u w.class j d in
              let there : between j ≡ true =
              telling e k u m (q.issue j) j
              (record {
                live = rw (stepped_core t z a j) at live;
                early = (stands_onward e c k u p w z on).earlier j live less;
                clear = not_true_false (register_of m u j).flag (and_right (register_of m u j).valid _ won.0);
              }) in
              let gone = flagged_out e k u q.table (q.issue j) j set in
              let drop = count_drop behind between cores j won.2 (λ i h. settles i) there gone in
              let most = grants_most u (grants p z) (rw a.grants (settled_rising m a.present)) in
              omega arith

    still : Refusal t z → (j : ℕ) → behind j ≡ true → before j ≡ true
    still r j h =
        let x = told e k u q.table (q.issue j) j h in
        let same = issue_kept p z j (undone_takes t z r.undone j) in
        telling e k u t (p.issue j) j
        (record {
          live = rw r.table at x.live;
          early = ap (among e k) (sym same) ∙ x.early;
          clear = rw r.table at x.clear;
        })

    calm_bound : grants_of u (grants p z) + left e k u q ≤ left e k u p + counted d (one interruption)
    unfolding grants_of
    calm_bound = ⊎_elim accepted refused (judged t g z calm)
      where
        accepted : Accepted t z → grants_of u (grants p z) + left e k u q ≤ left e k u p + counted d (one interruption)
        accepted a = omega (arith, work a, settling a)

        refused : Refusal t z → grants_of u (grants p z) + left e k u q ≤ left e k u p + counted d (one interruption)
        refused r =
            let none : grants_of u (grants p z) ≡ 0 = ap (grants_of u) r.none in
            omega (arith, count_le behind before cores (λ j h. still r j))

-- and where it skips: no more are live there, and none without its flag that had it
left_skipped : (e : Place) (c k u : ℕ) (p : Place) → Stands e c k u p → (z : Step) → left e k u (skip_on p z) ≤ left e k u p
left_skipped e c k u p w z =
    let t = p.table in
    let g = w.numbered.good in
    count_le (λ (j : ℕ). unflagged e k u (skipped t z) (p.issue j) j) (λ (j : ℕ). unflagged e k u t (p.issue j) j) cores
    (λ j h x.
    let y = told e k u (skipped t z) (p.issue j) j x in
    telling e k u t (p.issue j) j
    (record {
      live = (live_skipped t z g j y.live).0;
      early = y.early;
      clear = sym (flag_skipped t z g u j) ∙ y.clear;
    }))

abbrev interruption_at : Place → ℕ → Place → Step → Bool
interruption_at e k p z = interrupts p.table z (whose z).0 && among e k (p.issue (whose z).0)

step_bound :
    (e : Place) (c k u : ℕ) (p : Place) →
    Stands e c k u p →
    (z : Step) →
    leaves k u p z ≡ false →
    grants_of u (grants p z) + left e k u (onward p z) ≤ left e k u p + counted (dequeues p.table.counts.profile) (one (interruption_at e k p z))
step_bound e c k u p w z on =
    let g = w.numbered.good in
    let p' = skip_on p z in
    let here = calm_bound e c k u p' (stands_skipped e c k u p w z) z (on_skipped e c k u p w z on) (skipped_once p.table z g) in
    let less = left_skipped e c k u p w z in
    let granted = ap (grants_of u) (grants_skipped p g z) in
    let after = ap (left e k u) (onward_skipped p g z) in
    let count =
    ap₂ (λ (x : Counts) (b : Bool). counted (dequeues x.profile) (one (b && among e k (p.issue (whose z).0))))
    (skipped_same p.table z).0
    (sym (interrupts_skipped p g z (whose z).0))
    in
    omega arith

stretch_bound :
    (d : Bool) (e : Place) (c k u : ℕ) (p : Place) →
    dequeues p.table.counts.profile ≡ d →
    Stands e c k u p →
    (more : List Step) →
    stretch k u p more ≡ true →
    passed u p more ≤ left e k u p + counted d (interruptions e k p more)
unfolding over
stretch_bound d e c k u p same w [] on = omega arith
stretch_bound d e c k u p same w (z ∷ more) on =
    let stays = not_true_false (leaves k u p z) (and_left (not (leaves k u p z)) _ on) in
    let here = rw same at (step_bound e c k u p w z stays) in
    let profile = ap (λ (x : Counts). dequeues x.profile) (counts_onward p w.numbered.good z) ∙ same in
    let later =
    stretch_bound d e c k u (onward p z) profile (stands_onward e c k u p w z stays) more (and_right (not (leaves k u p z)) _ on)
    in
    sum d (grants_of u (grants p z)) (left e k u (onward p z)) (left e k u p) (one (interruption_at e k p z)) (passed u (onward p z) more)
    (interruptions e k (onward p z) more) here later
  where
    sum :
        (d : Bool) (granted after before now passing more : ℕ) →
        granted + after ≤ before + counted d now →
        passing ≤ after + counted d more →
        granted + passing ≤ before + counted d (now + more)
    sum true granted after before now passing more here later = omega arith
    sum false granted after before now passing more here later = omega arith

-- at the entry no more are without the flag than there are
pub unflagged_earlier : (e : Place) (k u j : ℕ) → unflagged e k u e.table (e.issue j) j ≡ true → is_earlier e k j ≡ true
unflagged_earlier e k u j x =
    let y = told e k u e.table (e.issue j) j x in
    and_both y.live (lt-ltb (e.issue j) (e.issue k) (among_less e k (e.issue j) y.early))

left_entry : (e : Place) (k u : ℕ) → left e k u e ≤ earlier e k
left_entry e k u =
    let fewer = count_le (λ (j : ℕ). unflagged e k u e.table (e.issue j) j) (is_earlier e k) cores (λ j h. unflagged_earlier e k u j) in
    omega arith

module _ (p : Place) (s : Step) (k u : ℕ) (more : List Step) (r : Reached p) (entry : enters p s k u ≡ true) (on : stretch k u (onward p s) more ≡ true) where
  pub entry_bound :
      (d : Bool) →
      dequeues p.table.counts.profile ≡ d →
      passed u (onward p s) more ≤ left (onward p s) k u (onward p s) + counted d (interruptions (onward p s) k (onward p s) more)
  entry_bound d same =
      let n = numbered p r in
      let w = stands_entry n.0 p n.1 s k u entry in
      stretch_bound d (onward p s) n.0 k u (onward p s) (ap (λ (x : Counts). dequeues x.profile) (counts_onward p n.1.good s) ∙ same) w more on

pub bound : Bound
bound p s k u more t r entry on = omega (arith, entry_bound p s k u more r entry on false (ap dequeues t), left_entry (onward p s) k u)

pub bound_D : BoundD
bound_D p s k u more t r entry on = omega (arith, entry_bound p s k u more r entry on true (ap dequeues t), left_entry (onward p s) k u)
