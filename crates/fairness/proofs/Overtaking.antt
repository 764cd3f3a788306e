-- No overtaking. At a grant of the unit in the stretch the core's register is in line too, so the winner's is older. First-class units
-- show own tickets, and their comparison is the order of issue.
use Prim.Native.Nat.{ℕ, ◌<◌}
use mathlib.Core.Bool.{Bool, true, false, cond, not}
use mathlib.Core.List.Memᴰ
use mathlib.Core.List.{Memᴰ}
use mathlib.Core.Logic.{⊎_elim, ◌≢◌}
use mathlib.Core.Path.{◌≡◌, refl, sym, ◌∙◌, ap, ap₂}
use native.Mathlib.Omega.{arith}
use lib.Dec.{ltb}
use borrow.Author.Tests.{eq-eqb, ltb-true}
use Rattle.ticket.specs.Kinds.{grant}
use Rattle.ticket.specs.Order.{compare}
use Rattle.ticket.specs.declared.order.Comparison.TheVariants.{Older, Younger, Same}
use Rattle.ticket.specs.declared.kinds.Ticket.{Ticket}
use Rattle.parts.specs.State.{is_live_lem}
use Rattle.parts.specs.Parts.{cores, units, core_no, unit_no}
use Rattle.block.specs.Table.{core_of, unit_of, register_of}
use Rattle.settling.specs.Line.{in_line}
use Rattle.soundness.specs.Sound.{reads_older_lem}
use Rattle.block.specs.Skipping.{skips}
use Rattle.block.specs.Steps.{moves}
use Rattle.parts.specs.declared.kinds.Core.{Core}
use Rattle.parts.specs.declared.kinds.Register.{Register}
use Rattle.parts.specs.declared.kinds.State.TheVariants.{Waiting}
use Rattle.block.specs.declared.table.Table.{Table}
use Rattle.parts.specs.declared.answer.Step.{Step}
use Rattle.parts.proofs.Bools.{and_both, clash}
use Rattle.settling.proofs.Picking.{next_won}
use Rattle.laws.specs.Granting.{Due}
use Rattle.block.proofs.Agreeing.{shows}
use Rattle.laws.proofs.Granting.{settled_exactly}
use Rattle.block.proofs.Kept.{WaitsAt, in_line_waits}
use Rattle.block.proofs.Oldest.{Fitting, oldest_won}
use Rattle.fairness.specs.Run.{Place, onward, after_all}
use Rattle.fairness.specs.Stretch.{grants, gives, leaves}
use Rattle.fairness.specs.Claims.{NoOvertaking, by_number}
use Rattle.fairness.proofs.Counting.{gives_at}
use Rattle.fairness.proofs.Effects.{Accepted, Refusal, Live, stepped_core, judged}
use Rattle.fairness.proofs.Skipping.{skip_on, skipped_once, onward_skipped, grants_skipped}
use Rattle.fairness.proofs.Invariant.{live_small, numbered, Numbered, numbered_onward, fitting, order}
use Rattle.fairness.proofs.Standing.{
  Stands,
  first_class,
  stands_entry,
  stands_after,
  stands_skipped,
  on_skipped,
  ungranted,
  place,
  issue_stays,
  unmoved,
}

-- of numbers that compare so, the first is the earlier
number_earlier : (i h : ℕ) → by_number i h ≡ Older → i < h
number_earlier i h = go (ltb i h) refl (ltb h i)
  where
    go : (b : Bool) → ltb i h ≡ b → (d : Bool) → cond b Older (cond d Younger Same) ≡ Older → i < h
    go true x d e = ltb-true i h x
    go false x true e = absurd (clash (ap reads_older_lem e) refl)
    go false x false e = absurd (clash (ap reads_older_lem e) refl)

-- An accepted step that skips nobody, at a first-class unit

module _ (c : ℕ) (p : Place) (n : Numbered c p) (z : Step) (a : Accepted p.table z) (u : ℕ) (class : u < p.table.counts.first) where
  abbrev t : Table
  t = p.table

  abbrev m : Table
  m = moves t z

  abbrev q : Place
  q = onward p z

  after : Numbered c q
  after = numbered_onward c p n z

  h : u < units
  h = first_class t n.good u class

  pub granted_due : (j : ℕ) → Memᴰ (grant (unit_no u) (core_no j)) (grants p z) → Due (unit_of m u) (core_no j)
  granted_due j i = ((settled_exactly m a.present (grant (unit_no u) (core_no j))).0 (rw a.grants at i)).due

  -- own tickets fit before settling too
  fits : Fitting m
  fits = record { own = λ j l. rw (stepped_core t z a j) at ((fitting c q after).own j l) }

  -- whoever is in line there waits, or is marked away, with its own ticket
  lined : (j : ℕ) → j < cores → in_line (register_of m u j) ≡ true → WaitsAt (core_of m j) u (register_of m u j).ticket
  lined j l =
      in_line_waits m (core_of m j) u (register_of m u j) (rw a.moved.counts class) (a.almost.core j l).named (a.almost.agrees u h j l)

  pub due_live : (j : ℕ) → Due (unit_of m u) (core_no j) → Live q.table j
  due_live j d =
      let won = next_won cores (unit_of m u) (core_no j) d.ticket d.oldest in
      rw (stepped_core t z a j) (lined j won.2 won.0).live

  -- whoever is due is earlier than every other in line
  pub due_earlier :
      (j k : ℕ) → Due (unit_of m u) (core_no j) → k < cores → k ≢ j → in_line (register_of m u k) ≡ true → q.issue j < q.issue k
  due_earlier j k d small other line =
      let o = oldest_won m a.almost fits u h (core_no j) d.ticket d.oldest in
      let x = lined j o.0 o.1 in
      let y = lined k small line in
      let won : compare (core_of m j).own.0 (core_of m k).own.0 ≡ Older =
      ap₂ compare (x.own ∙ ap (λ (i : Ticket). i.0) o.2) y.own ∙ o.3 k small other line in
      let at_j = stepped_core t z a j in
      let at_k = stepped_core t z a k in
      let said = order c q after j k (due_live j d) (rw at_k y.live) in
      number_earlier (q.issue j) (q.issue k) (sym said ∙ ap₂ (λ (v v' : Core). compare v.own.0 v'.own.0) at_j at_k ∙ won)

-- The stretch, where the step skips nobody

module _
    (e : Place) (c k u : ℕ) (p : Place) (w : Stands e c k u p) (z : Step) (on : leaves k u p z ≡ false) (calm : skips p.table z ≡ false)
  where
    small : k < cores
    small = live_small p.table w.numbered.good.shaped k (ap is_live_lem w.state)

    -- core k shows its own ticket at u, its flag clear
    in_line_lem : Accepted p.table z → in_line (register_of (moves p.table z) u k) ≡ true
    in_line_lem a =
        let m = moves p.table z in
        let x = unmoved e c k u p w z on a in
        let r = register_of m u k in
        let state : (core_of m k).state ≡ Waiting = ap (λ (y : Core). y.state) x.core ∙ w.state in
        let first : u ≡ (core_of m k).first.0 = sym (ap (λ (y : Core). y.first.0) x.core ∙ w.first) in
        let agrees = a.almost.agrees u (place e c k u p w z on) k small in
        and_both (shows r (core_of m k).own false (simp (state, eq-eqb u (core_of m k).first.0 first) at agrees)).valid
        (ap (λ (y : Register). not y.flag) x.register ∙ ap not w.clear)

    pub calm_overtaken : (j : ℕ) → gives u j (grants p z) ≡ true → (onward p z).issue j < e.issue k
    calm_overtaken j given = ⊎_elim accepted refused (judged p.table w.numbered.good z calm)
      where
        i : Memᴰ (grant (unit_no u) (core_no j)) (grants p z)
        i = gives_at u j (grants p z) given

        accepted : Accepted p.table z → (onward p z).issue j < e.issue k
        accepted a =
            let d = granted_due c p w.numbered z a u w.class j i in
            let other : k ≢ j = λ same. clash given (ap (λ (i : ℕ). gives u i (grants p z)) (sym same) ∙ ungranted e c k u p w z on) in
            let less = due_earlier c p w.numbered z a u w.class j k d small other (in_line_lem a) in
            let same = issue_stays e c k u p w z on in
            omega arith

        refused : Refusal p.table z → (onward p z).issue j < e.issue k
        refused r = absurd (Memᴰ.not-nil (rw r.none at i))

not_overtaken :
    (e : Place) (c k u : ℕ) (p : Place) →
    Stands e c k u p →
    (z : Step) →
    leaves k u p z ≡ false →
    (j : ℕ) →
    gives u j (grants p z) ≡ true →
    (onward p z).issue j < e.issue k
not_overtaken e c k u p w z on j given =
    let g = w.numbered.good in
    let same = ap (λ (q : Place). q.issue j) (onward_skipped p g z) in
    let less =
    calm_overtaken e c k u (skip_on p z) (stands_skipped e c k u p w z) z (on_skipped e c k u p w z on) (skipped_once p.table z g) j
    (ap (gives u j) (sym (grants_skipped p g z)) ∙ given)
    in
    omega arith

pub no_overtaking : NoOvertaking
no_overtaking p s k u more z j r entry on ongoing given =
    let n = numbered p r in
    let w = stands_entry n.0 p n.1 s k u entry in
    let y = stands_after (onward p s) n.0 k u (onward p s) w more on in
    omega (arith, not_overtaken (onward p s) n.0 k u (after_all (onward p s) more) y z ongoing j given)
