-- A step planned is planned on the table without those in front who are dropped; it shows what the step shows, and put back it is the step.
use Prim.Native.Nat.{ℕ, ◌≤◌, ◌<◌}
use mathlib.Core.Bool.{Bool, true, false, cond}
use mathlib.Core.List.{List}
use mathlib.Core.Path.{◌≡◌, refl, sym, ◌∙◌, ap, ap₂, subst}
use Rattle.std.specs.Prelude.{Option, None, Some, set}
use Rattle.parts.specs.Parts.{cores, units, showing}
use Rattle.settling.specs.Line.{Within}
use Rattle.ticket.specs.declared.kinds.CoreNo.{CoreNo}
use Rattle.ticket.specs.declared.kinds.UnitNo.{UnitNo}
use Rattle.parts.specs.declared.answer.Step.{Step}
use Rattle.parts.specs.declared.kinds.Core.{Core}
use Rattle.parts.specs.declared.kinds.LockUnit.{LockUnit}
use Rattle.places.specs.Places.{core_place, unit_place, other_place}
use Rattle.refusals.specs.Tickets.{asked}
use Rattle.parts.specs.Answer.{whose}
use Rattle.settling.specs.Best.{Best}
use Rattle.settling.specs.Line.{next}
use Rattle.settling.specs.Shown.{shown_as, shows_next_lem}
use Rattle.settling.specs.InFront.{InOrder, present, dropped_before}
use Rattle.settling.proofs.InFront.{in_front}
use Rattle.settling.specs.declared.dropping.Dropping.{Dropping}
use Rattle.plan.specs.Plan.{part, part_of, plan_step}
use Rattle.plan.specs.declared.planning.Part.{Part}
use Rattle.plan.specs.declared.planning.Plan.{Plan}
use Rattle.block.specs.Table.{core_of, unit_of, Shaped}
use Rattle.block.specs.Settle.{with_dropping}
use Rattle.block.specs.Sound.{sound}
use Rattle.block.specs.Steps.{late, on_sound}
use Rattle.block.specs.PutBack.{with_change, with_units, committed, put_back}
use Rattle.block.specs.Skipping.{first_of, skips, dropped, skipped}
use Rattle.block.specs.Planned.{front_of, read_of, without, planned}
use Rattle.block.specs.declared.planned.Planned.{Planned}
use Rattle.block.specs.declared.stepped.Stepped.{Stepped}
use Rattle.block.specs.declared.table.Table.{Table}
use Rattle.block.proofs.DroppedFirst.{skips_so, skips_unit, skip_first, skipped_shaped, skipped_sound, skipped_once}
use Rattle.block.proofs.DropsKept.{skipped_calm, skipped_same}
use Rattle.block.proofs.GivingWay.{places, there, core_kept, register_kept, asked_kept}
use Rattle.block.proofs.InPlace.{core_in, unit_in_lem, other_in, counted, granted_in, in_place}

-- the core and the counter put back
abbrev finished : CoreNo → Plan → Table → Table
finished k p z = record { units = z.units; cores = set z.cores k.0 p.core; counts = z.counts; counter = p.counter }

-- putting the units back leaves the cores and the counts
units_put : (t : Table) (k : CoreNo) (i j : UnitNo) (p : Plan) (z : Table) → z ≡ with_units t k i j p → finished k p z ≡ committed t k i j p
units_put t k i j p z ez = ap (finished k p) ez ∙ go p.moves
  where
    changed : Table
    changed = with_change (with_change t k j p.second) k i p.first

    kept : List LockUnit → Table
    kept us = record { units = us; cores = set t.cores k.0 p.core; counts = t.counts; counter = p.counter }

    go : (b : Bool) → finished k p (cond b changed t) ≡ kept (cond b changed t).units
    go true = refl
    go false = refl

module _ (t : Table) (s : Step) (shaped : Shaped t) (ok : sound t ≡ true) where
  abbrev w : Table
  w = skipped t s

  abbrev k : CoreNo
  k = core_place s

  abbrev c : Core
  c = core_of t k.0

  abbrev i : UnitNo
  i = unit_place s c

  abbrev j : UnitNo
  j = other_place s c

  -- what dropping asks of the unit at the first place
  drops_there :
      skips t s ≡ true →
      let n = t.counts.cores in
      (n ≤ cores) × (shows_next_lem n (unit_of t i.0) ≡ true) × InOrder n (unit_of t i.0)
  drops_there e =
      let n = t.counts.cores in
      let p = places t s shaped ok (skips_so t s e) in
      let q = skips_unit t s ok e (whose s) refl in
      subst (λ (u : ℕ). (n ≤ cores) × (shows_next_lem n (unit_of t u) ≡ true) × InOrder n (unit_of t u)) (sym p.1) (q.0, q.2, q.3)

  -- the unit at the first place shows whoever is in front
  fronted :
      skips t s ≡ true →
      let n = t.counts.cores in
      let x = unit_of t i.0 in
      (unit_of w i.0).next ≡ shown_as (next n (present n x t.cores)) x.next.held
  fronted e =
      let n = t.counts.cores in
      let is = skips_so t s e in
      let d = drops_there e in
      ap (λ (y : LockUnit). y.next) (there t s shaped ok is) ∙
      sym (ap (λ (g : Dropping). g.unit.next) (in_front n (unit_of t i.0) t.cores d.2 d.1))

  -- what is read of the two places, as they will be where those in front are dropped, is what stands there on the table without them
  abbrev ReadsSo : Bool → Type 0
  ReadsSo b =
      let d = cond b (Some (next t.counts.cores (present t.counts.cores (unit_of t (first_of t s)) t.cores))) None in
      (read_of t i k d ≡ part_of k.0 (unit_of w i.0)) × (read_of t j k d ≡ part_of k.0 (unit_of w j.0))

  reads : ReadsSo (skips t s)
  reads = go (skips t s) refl
    where
      go : (b : Bool) → skips t s ≡ b → ReadsSo b
      go false e =
          let same = sym (skipped_calm t s e) in
          (ap (λ (x : Table). part_of k.0 (unit_of x i.0)) same, ap (λ (x : Table). part_of k.0 (unit_of x j.0)) same)
      go true e =
          let is = skips_so t s e in
          let p = places t s shaped ok is in
          let n = t.counts.cores in
          let b = next n (present n (unit_of t (first_of t s)) t.cores) in
          let shown : shown_as b (unit_of t i.0).next.held ≡ (unit_of w i.0).next =
          ap (λ (u : ℕ). shown_as (next n (present n (unit_of t u) t.cores)) (unit_of t i.0).next.held) (sym p.1) ∙ sym (fronted e)
          in
          let first : read_of t i k (Some b) ≡ part_of k.0 (unit_of w i.0) = ap₂ part (sym (register_kept t s shaped ok i.0)) shown in
          (first, ap (λ (u : UnitNo). read_of t u k (Some b)) p.2 ∙ first ∙ ap (λ (u : UnitNo). part_of k.0 (unit_of w u.0)) (sym p.2))

  -- the plan of the core e by what it reads
  abbrev planned_by : Core → Bool → Part → Part → Option Best → Planned
  planned_by e l x y d = record { step = s; plan = plan_step s t.counts t.counter l e x y; core = k; first = unit_place s e; second = other_place s e; front = d }

  pub planned_so :
      (d : Option Best) (x y : Part) (l : Bool) (p : Plan) →
      d ≡ front_of t s →
      x ≡ read_of t i k d →
      y ≡ read_of t j k d →
      l ≡ asked s c (late t) →
      p ≡ plan_step s t.counts t.counter l c x y →
      record { step = s; plan = p; core = k; first = i; second = j; front = d } ≡ planned t s
  unfolding planned
  planned_so d x y l p ed ex ey el ep =
      let a = asked s (core_of w k.0) (late w) in
      let u = part_of k.0 (unit_of w i.0) in
      let v = part_of k.0 (unit_of w j.0) in
      let g = front_of t s in
      ap (λ (q : Plan). record { step = s; plan = q; core = k; first = i; second = j; front = d }) ep ∙
      ap (λ (z : Bool). planned_by c z x y d) (el ∙ asked_kept t s shaped ok) ∙
      ap (λ (z : Part). planned_by c a z y d) (ex ∙ ap (read_of t i k) ed ∙ reads.0) ∙
      ap (λ (z : Part). planned_by c a u z d) (ey ∙ ap (read_of t j k) ed ∙ reads.1) ∙
      ap (planned_by c a u v) ed ∙
      ap (λ (e : Core). planned_by e a (part_of k.0 (unit_of w (unit_place s e).0)) (part_of k.0 (unit_of w (other_place s e).0)) g) (sym (core_kept t s shaped ok))

  -- put back on the table without those who are dropped, it is the step
  pub planned_lands : let q = planned t s in put_back w q.core q.first q.second q.plan ≡ on_sound t s
  unfolding planned
  planned_lands =
      let same = skipped_same t s in
      in_place w s _ _ _ _ _ _ _ _ (skipped_shaped t s shaped ok) (skipped_sound t s shaped ok, skipped_once t s shaped ok)
      refl refl refl refl refl refl (rw (same.0, same.1) refl) refl ∙
      sym (skip_first t s shaped ok)

  -- which is the table with them dropped at its unit
  pub without_front : let q = planned t s in without t q.first q.front ≡ w
  unfolding planned
  without_front = ap (λ (e : Core). without t (unit_place s e) (front_of t s)) (core_kept t s shaped ok) ∙ go (skips t s) refl
    where
      go :
          (b : Bool) → skips t s ≡ b →
          without t i (cond b (Some (next t.counts.cores (present t.counts.cores (unit_of t (first_of t s)) t.cores))) None) ≡
          cond b (dropped t (first_of t s)) t
      go false e = refl
      go true e =
          let n = t.counts.cores in
          let p = places t s shaped ok (skips_so t s e) in
          let d = drops_there e in
          ap (λ (u : ℕ). let x = unit_of t i.0 in let b = next n (present n (unit_of t u) t.cores) in with_dropping t i.0 (dropped_before n b (showing x (shown_as b x.next.held)) t.cores)) (sym p.1) ∙
          ap (with_dropping t i.0) (in_front n (unit_of t i.0) t.cores d.2 d.1) ∙
          ap (dropped t) p.1

  -- the same at the places that the run has
  pub planned_at :
      (k' : CoreNo) (i' j' : UnitNo) (d : Option Best) (x y : Part) (l : Bool) (p : Plan) →
      k' ≡ core_place s →
      i' ≡ unit_place s (core_of t k'.0) →
      j' ≡ other_place s (core_of t k'.0) →
      d ≡ front_of t s →
      x ≡ read_of t i' k' d →
      y ≡ read_of t j' k' d →
      l ≡ asked s (core_of t k'.0) (late t) →
      p ≡ plan_step s t.counts t.counter l (core_of t k'.0) x y →
      record { step = s; plan = p; core = k'; first = i'; second = j'; front = d } ≡ planned t s
  planned_at k' i' j' d x y l p ek ei ej ed ex ey el ep =
      rw (ej, ei, ek) (planned_so d x y l p ed (ex ∙ rw (ei, ek)) (ey ∙ rw (ej, ek)) (el ∙ rw ek) (ep ∙ rw ek))

  -- what the run puts back
  module _ (q : Planned) (is : q ≡ planned t s) where
    pub placed : (q.core.0 < cores) × (q.first.0 < units) × (q.second.0 < units) × Within q.plan.first.winner × Within q.plan.second.winner
    unfolding planned
    placed = rw is all
      where
        all : let q = planned t s in (q.core.0 < cores) × (q.first.0 < units) × (q.second.0 < units) × Within q.plan.first.winner × Within q.plan.second.winner
        all =
            let c = core_of w k.0 in
            let g = granted_in s t.counts t.counter _ c _ _ _ refl in
            (core_in s k refl, unit_in_lem s c _ refl, other_in s c _ refl, g.0, g.1)

    module _ (y : Table) (ey : y ≡ without t q.first q.front) where
      dropped_so : y ≡ w
      dropped_so = ey ∙ ap (λ (r : Planned). without t r.first r.front) is ∙ without_front

      pub dropped_few : y.counts.cores ≤ cores
      dropped_few = rw dropped_so (counted w (skipped_sound t s shaped ok))

      pub put_so :
          (z : Table) →
          z ≡ with_units y q.core q.first q.second q.plan →
          finished q.core q.plan z ≡ (on_sound t s).table
      put_so z ez =
          units_put w q.core q.first q.second q.plan z (ez ∙ ap (λ (x : Table). with_units x q.core q.first q.second q.plan) dropped_so) ∙
          ap (λ (r : Planned). (put_back w r.core r.first r.second r.plan).table) is ∙
          ap (λ (r : Stepped). r.table) planned_lands

-- what a plan shows, with the table that the step leaves, is the step
abbrev pub shown_by : Planned → Table → Stepped
shown_by q z = record { table = z; answer = q.plan.answer; ticket = q.plan.ticket; grants = q.plan.grants }

pub planned_shows : (t : Table) (s : Step) → Shaped t → sound t ≡ true → (q : Planned) → q ≡ planned t s → shown_by q (on_sound t s).table ≡ on_sound t s
planned_shows t s shaped ok q is =
    let e = planned_lands t s shaped ok in
    ap (λ (p : Planned). shown_by p (on_sound t s).table) is ∙ ap (λ (r : Stepped). shown_by (planned t s) r.table) (sym e) ∙ e

-- a plan keeps its step
module _ (t : Table) (s : Step) (q : Planned) (is : q ≡ planned t s) where
  step_kept : q.step ≡ s
  unfolding planned
  step_kept = ap (λ (p : Planned). p.step) is

  pub planned_again : q ≡ planned t q.step
  planned_again = is ∙ ap (planned t) (sym step_kept)

  pub lands_so : (z : Table) → z ≡ (on_sound t q.step).table → z ≡ (on_sound t s).table
  lands_so z e = e ∙ ap (λ (x : Step). (on_sound t x).table) step_kept
