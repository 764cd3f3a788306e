-- A step of a run that works its table's units apart. Whether it gives way is asked by what is read at its places; those away in front are dropped apart from
-- the table; and the plan of what is read then, put back on the table without them, is the step.
use Prim.Native.Nat.{ℕ, ◌<◌}
use mathlib.Core.Bool.{Bool, true, false, cond, ◌&&◌}
use mathlib.Core.Path.{◌≡◌, refl, sym, ◌∙◌, ap, ap₂, subst}
use lib.Dec.{ltb}
use borrow.Author.Tests.{ltb-true}
use Rattle.ticket.specs.declared.kinds.CoreNo.{CoreNo}
use Rattle.ticket.specs.declared.kinds.UnitNo.{UnitNo}
use Rattle.parts.specs.Answer.{whose}
use Rattle.parts.specs.Profile.{dequeues}
use Rattle.parts.specs.State.{is_away, two_stage_lem}
use Rattle.parts.specs.declared.answer.Step.{Step}
use Rattle.parts.specs.declared.answer.Step.TheVariants.{R, N, P, I, C, L}
use Rattle.parts.specs.declared.kinds.Core.{Core}
use Rattle.parts.specs.declared.kinds.LockUnit.{LockUnit}
use Rattle.parts.specs.declared.kinds.Next.{Next}
use Rattle.places.specs.Places.{in_units, core_place, unit_place, other_place}
use Rattle.refusals.specs.Tickets.{asked}
use Rattle.settling.specs.Line.{stored}
use Rattle.settling.specs.Settle.{passed_to_lem}
use Rattle.settling.specs.Dropping.{away_as, drop_away, showing_next}
use Rattle.settling.specs.declared.dropping.Dropping.{Dropping}
use Rattle.settling.specs.Best.{Best, Nobody, Won}
use Rattle.plan.specs.Plan.{part, plan_step}
use Rattle.plan.specs.declared.planning.Part.{Part}
use Rattle.plan.specs.declared.planning.Plan.{Plan}
use Rattle.block.specs.Table.{core_of, unit_of, register_of, Shaped}
use Rattle.block.specs.Sound.{sound}
use Rattle.block.specs.Skipping.{gives_up, first_of, gives_way, skips, dropped, skipped}
use Rattle.block.specs.Steps.{late, on_sound}
use Rattle.block.specs.PutBack.{put_back}
use Rattle.block.specs.declared.stepped.Stepped.{Stepped}
use Rattle.block.specs.declared.table.Table.{Table}
use Rattle.parts.proofs.Bools.{clash}
use Rattle.places.proofs.Placing.{core_itself, unit_itself}
use Rattle.block.proofs.Parts.{parts}
use Rattle.block.proofs.Suited.{single_in_D}
use Rattle.block.proofs.DroppedFirst.{Skips, skips_so, busy, core_small, first_small, skip_first, skipped_shaped, skipped_sound, skipped_once}
use Rattle.block.proofs.DropsKept.{skipped_calm, skipped_same, by_skipping, dropped_unit, step_core, step_register}
use Rattle.block.proofs.InPlace.{in_place}

-- L and I are worked at the core's first unit, and ask nothing of the tickets
first_place : (s : Step) (c : Core) → gives_up s c.state ≡ true → unit_place s c ≡ in_units c.first
first_place (R k u) c e = absurd (clash e refl)
first_place (N k u) c e = absurd (clash e refl)
first_place (P k) c e = absurd (clash e refl)
first_place (I k) c e = refl
first_place (C k) c e = absurd (clash e refl)
first_place (L k) c e = refl

asks_nothing : (s : Step) (c d : Core) (a b : Bool) → gives_up s c.state ≡ true → asked s d a ≡ asked s d b
asks_nothing (R k u) c d a b e = absurd (clash e refl)
asks_nothing (N k u) c d a b e = refl
asks_nothing (P k) c d a b e = refl
asks_nothing (I k) c d a b e = refl
asks_nothing (C k) c d a b e = absurd (clash e refl)
asks_nothing (L k) c d a b e = refl

module _ (t : Table) (s : Step) (shaped : Shaped t) (ok : sound t ≡ true) where
  abbrev k : CoreNo
  k = core_place s

  abbrev c : Core
  c = core_of t k.0

  abbrev i : UnitNo
  i = unit_place s c

  abbrev j : UnitNo
  j = other_place s c

  abbrev named : Core
  named = core_of t (whose s).0

  -- the places of a step that gives up what its core has
  core_place_lem : (whose s).0 < t.counts.cores → k ≡ whose s
  core_place_lem h = core_itself (whose s) (core_small t ok (whose s).0 h)

  unit_place_lem : (whose s).0 < t.counts.cores → gives_up s named.state ≡ true → unit_place s named ≡ named.first
  unit_place_lem h gives = first_place s named gives ∙ unit_itself named.first (first_small t s ok (whose s).0 h gives)

  pub places : Skips t s → (k ≡ whose s) × (i.0 ≡ first_of t s) × (j ≡ i)
  places is =
      let q = core_place_lem is.within in
      let single : two_stage_lem named.state ≡ false = single_in_D t.counts.profile named.state is.profile ((parts t ok).core (whose s).0 (core_small t ok (whose s).0 is.within)).suited in (
        q,
        ap (λ (x : CoreNo). (unit_place s (core_of t x.0)).0) q ∙ ap (λ (u : UnitNo). u.0) (unit_place_lem is.within is.gives),
        ap (λ (b : Bool). cond b (in_units c.second) i) (ap (λ (x : CoreNo). two_stage_lem (core_of t x.0).state) q ∙ single),
      )

  -- Whether the step gives way

  pub gives_way_lem :
      gives_way s t.counts c (register_of t i.0 k.0) (core_of t (passed_to_lem (stored (unit_of t i.0).next) k).0) ≡ skips t s
  gives_way_lem = go (dequeues t.counts.profile) (ltb (whose s).0 t.counts.cores) refl
    where
      -- by the core's place, behind the profile and the count
      way : CoreNo → Bool
      way x =
          let u = unit_place s (core_of t x.0) in
          gives_up s (core_of t x.0).state && (register_of t u.0 x.0).flag && is_away (core_of t (passed_to_lem (stored (unit_of t u.0).next) x).0).state

      told : Bool
      told = gives_up s named.state && (register_of t (first_of t s) (whose s).0).flag && away_as t.cores (stored (unit_of t (first_of t s)).next)

      in_front : (b : Best) → is_away named.state ≡ false → is_away (core_of t (passed_to_lem b (whose s)).0).state ≡ away_as t.cores b
      in_front Nobody here = here
      in_front (Won x n) here = refl

      at_first : (whose s).0 < t.counts.cores → way (whose s) ≡ told
      at_first h = by (gives_up s named.state) refl
        where
          tail : UnitNo → Bool
          tail u = (register_of t u.0 (whose s).0).flag && is_away (core_of t (passed_to_lem (stored (unit_of t u.0).next) (whose s)).0).state

          by :
              (g : Bool) → gives_up s named.state ≡ g →
              (g && (register_of t (unit_place s named).0 (whose s).0).flag && is_away (core_of t (passed_to_lem (stored (unit_of t (unit_place s named).0).next) (whose s)).0).state) ≡
              (g && (register_of t (first_of t s) (whose s).0).flag && away_as t.cores (stored (unit_of t (first_of t s)).next))
          by true e =
              ap tail (unit_place_lem h e) ∙
              ap (λ (b : Bool). (register_of t (first_of t s) (whose s).0).flag && b) (in_front (stored (unit_of t (first_of t s)).next) (busy s named.state e).1)
          by false e = refl

      go :
          (a b : Bool) → ltb (whose s).0 t.counts.cores ≡ b →
          (a && b && gives_up s c.state && (register_of t i.0 k.0).flag && is_away (core_of t (passed_to_lem (stored (unit_of t i.0).next) k).0).state) ≡
          (a && b && gives_up s named.state && (register_of t (first_of t s) (whose s).0).flag && away_as t.cores (stored (unit_of t (first_of t s)).next))
      go false b e = refl
      go true false e = refl
      go true true e =
          let h = ltb-true (whose s).0 t.counts.cores e in
          ap way (core_place_lem h) ∙ at_first h

  -- What the run has read before it plans: whether the step gives way; if so, the unit and the cores after dropping; and what its units show then

  pub record Ready (b : Bool) (d : Dropping) (v z : Next) : Type 0 where
    pub so : b ≡ skips t s
    pub drops : b ≡ true → d ≡ showing_next t.counts.cores (drop_away t.counts.cores (unit_of t i.0) t.cores)
    pub first : v ≡ (unit_of (skipped t s) i.0).next
    pub second : z ≡ (unit_of (skipped t s) j.0).next

  pub ready_stays :
      (b : Bool) (d : Dropping) (v z : Next) → b ≡ skips t s → b ≡ false → v ≡ (unit_of t i.0).next → z ≡ (unit_of t j.0).next → Ready b d v z
  ready_stays b d v z so off ev ez =
      let same = sym (skipped_calm t s (sym so ∙ off)) in
      record {
        so = so;
        drops = λ does. absurd (clash does off);
        first = ev ∙ ap (λ (x : Table). (unit_of x i.0).next) same;
        second = ez ∙ ap (λ (x : Table). (unit_of x j.0).next) same;
      }

  -- a table of which those in front are dropped has there what was made of the unit
  pub there : (is : Skips t s) → let n = t.counts.cores in unit_of (skipped t s) i.0 ≡ (showing_next n (drop_away n (unit_of t i.0) t.cores)).unit
  there is =
      let n = t.counts.cores in
      let p = places is in
      ap (λ (x : Table). unit_of x i.0) (skipped_drops is) ∙
      ap (unit_of (dropped t (first_of t s))) p.1 ∙
      dropped_unit t s shaped ok is ∙
      ap (λ (u : ℕ). (showing_next n (drop_away n (unit_of t u) t.cores)).unit) (sym p.1)
    where
      skipped_drops : Skips t s → skipped t s ≡ dropped t (first_of t s)
      skipped_drops is = ap (λ (b : Bool). cond b (dropped t (first_of t s)) t) is.told

  pub ready_drops :
      (b : Bool) (d : Dropping) (v z : Next) →
      b ≡ skips t s →
      b ≡ true →
      (let n = t.counts.cores in d ≡ showing_next n (drop_away n (unit_of t i.0) t.cores)) →
      v ≡ d.unit.next →
      z ≡ d.unit.next →
      Ready b d v z
  ready_drops b d v z so does ed ev ez =
      let is = skips_so t s (sym so ∙ does) in
      let shows : d.unit.next ≡ (unit_of (skipped t s) i.0).next = ap (λ (x : Dropping). x.unit.next) ed ∙ ap (λ (x : LockUnit). x.next) (sym (there is)) in
      record {
        so = so;
        drops = λ _. ed;
        first = ev ∙ shows;
        second = ez ∙ shows ∙ ap (λ (u : UnitNo). (unit_of (skipped t s) u.0).next) (sym (places is).2);
      }

  -- The step's core and its registers at the places are those of the table on which it is worked

  pub core_kept : core_of (skipped t s) k.0 ≡ c
  core_kept =
      by_skipping t s (λ (x : Table). core_of x k.0 ≡ c) (λ e. refl)
      (λ is. subst (λ (x : CoreNo). core_of (dropped t (first_of t s)) x.0 ≡ core_of t x.0) (sym (places is).0) (core_dropped is))
    where
      core_dropped : Skips t s → core_of (dropped t (first_of t s)) (whose s).0 ≡ core_of t (whose s).0
      core_dropped is = subst (λ (x : Table). core_of x (whose s).0 ≡ core_of t (whose s).0) (ap (λ (b : Bool). cond b (dropped t (first_of t s)) t) is.told) (step_core t s shaped ok)

  pub register_kept : (u : ℕ) → register_of (skipped t s) u k.0 ≡ register_of t u k.0
  register_kept u =
      by_skipping t s (λ (x : Table). register_of x u k.0 ≡ register_of t u k.0) (λ e. refl)
      (λ is. subst (λ (x : CoreNo). register_of (dropped t (first_of t s)) u x.0 ≡ register_of t u x.0) (sym (places is).0) (dropped_register is))
    where
      dropped_register : Skips t s → register_of (dropped t (first_of t s)) u (whose s).0 ≡ register_of t u (whose s).0
      dropped_register is = subst (λ (x : Table). register_of x u (whose s).0 ≡ register_of t u (whose s).0) (ap (λ (b : Bool). cond b (dropped t (first_of t s)) t) is.told) (step_register t s shaped ok u)

  pub asked_kept : asked s c (late t) ≡ asked s (core_of (skipped t s) k.0) (late (skipped t s))
  asked_kept =
      ap (λ (x : Core). asked s x (late t)) (sym core_kept) ∙
      by_skipping t s (λ (x : Table). asked s (core_of (skipped t s) k.0) (late t) ≡ asked s (core_of (skipped t s) k.0) (late x)) (λ e. refl)
      (λ is. asks_nothing s named (core_of (skipped t s) k.0) (late t) (late (dropped t (first_of t s))) is.gives)

  pub in_place_ready :
      (b : Bool) (d : Dropping) (v z : Next) (x y : Part) (l : Bool) (p : Plan) (r : Stepped) →
      Ready b d v z →
      x ≡ part (register_of t i.0 k.0) v →
      y ≡ part (register_of t j.0 k.0) z →
      l ≡ asked s c (late t) →
      p ≡ plan_step s t.counts t.counter l c x y →
      r ≡ put_back (skipped t s) k i j p →
      r ≡ on_sound t s
  in_place_ready b d v z x y l p r ready ex ey el ep er =
      let w = skipped t s in
      let same = skipped_same t s in
      in_place w s k i j x y l p r (skipped_shaped t s shaped ok) (skipped_sound t s shaped ok, skipped_once t s shaped ok) refl
      (ap (unit_place s) (sym core_kept))
      (ap (other_place s) (sym core_kept))
      (ex ∙ ap₂ part (sym (register_kept i.0)) ready.first)
      (ey ∙ ap₂ part (sym (register_kept j.0)) ready.second)
      (el ∙ asked_kept)
      (ep ∙ rw (same.0, same.1, core_kept))
      er ∙
      sym (skip_first t s shaped ok)
