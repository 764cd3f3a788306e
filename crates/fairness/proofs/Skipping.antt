-- A step that skips is the step from the place where those away in front were dropped already (block: Skipping): its tables, numbers and grants are the
-- same. There it skips nobody. What that place lost are tickets of cores that were marked away; whoever waits is as it was.
use Prim.Native.Nat.{ℕ}
use mathlib.Core.Bool.{Bool, true, false, ◌&&◌}
use mathlib.Core.Logic.{⊎_elim}
use mathlib.Core.Path.{◌≡◌, refl, sym, ◌∙◌, ap}
use lib.Dec.{eqb, ltb}
use Rattle.parts.specs.Answer.{whose, number_of}
use Rattle.parts.specs.Profile.{dequeues}
use Rattle.parts.specs.State.{is_live_lem, is_marked}
use Rattle.parts.specs.declared.answer.Step.{Step}
use Rattle.parts.specs.declared.answer.Step.TheVariants.{R, N, P, I, C, L}
use Rattle.parts.specs.declared.kinds.Core.{Core}
use Rattle.parts.specs.declared.kinds.Register.{Register}
use Rattle.parts.specs.declared.kinds.State.TheVariants.{Waiting}
use Rattle.settling.specs.Line.{in_line, stored}
use Rattle.settling.specs.Dropping.{away_as}
use Rattle.block.specs.Table.{core_of, unit_of, register_of}
use Rattle.block.specs.Sound.{sound}
use Rattle.block.specs.Steps.{step}
use Rattle.block.specs.Skipping.{first_of, gives_up, skips, skipped}
use Rattle.block.specs.declared.stepped.Stepped.{Stepped}
use Rattle.block.specs.declared.table.Table.{Table}
use Rattle.parts.proofs.Bools.{clash}
use Rattle.block.proofs.Parts.{parts, whole}
use Rattle.block.proofs.DroppedFirst.{skip_first, skipped_shaped, skipped_sound, skipped_once as first-once}
use Rattle.block.proofs.DropsKept.{skipped_calm, skipped_core, skipped_register}
use Rattle.laws.specs.Granting.{listed}
use Rattle.laws.proofs.Keeping.{Good}
use Rattle.fairness.specs.Run.{Place, interrupts, onward}
use Rattle.fairness.specs.Stretch.{grants, leaves}
use Rattle.fairness.proofs.Effects.{Live, on_good}

-- the place on which the step is worked
abbrev pub skip_on : Place → Step → Place
skip_on p z = record { table = skipped p.table z; issued = p.issued; issue = p.issue }

module _ (t : Table) (z : Step) (g : Good t) where
  fit : sound t ≡ true
  fit = whole t g.sound

  pub skipped_good : Good (skipped t z)
  skipped_good =
      record { shaped = skipped_shaped t z g.shaped fit; sound = parts (skipped t z) (skipped_sound t z g.shaped fit) }

  pub skipped_once : skips (skipped t z) z ≡ false
  skipped_once = first-once t z g.shaped fit

  pub step_skipped : step t z ≡ step (skipped t z) z
  step_skipped = on_good t g z ∙ skip_first t z g.shaped fit ∙ sym (on_good (skipped t z) skipped_good z)

  -- a ticket that is live there is live here, and the same
  pub live_skipped : (j : ℕ) → Live (skipped t z) j → Live t j × ((core_of (skipped t z) j).own.0 ≡ (core_of t j).own.0)
  live_skipped j live =
      ⊎_elim
      (λ e. (rw e at live, ap (λ (c : Core). c.own.0) e))
      (λ e. absurd (clash live (ap (λ (c : Core). is_live_lem c.state) e.1)))
      (skipped_core t z g.shaped fit j)

  -- whoever waits is as it was
  pub waits_skipped : (j : ℕ) → (core_of t j).state ≡ Waiting → core_of (skipped t z) j ≡ core_of t j
  waits_skipped j w = ⊎_elim (λ e. e) (λ e. absurd (clash (ap is_marked e.0) (ap is_marked w))) (skipped_core t z g.shaped fit j)

  module _ (u j : ℕ) where
    -- flags are as they were
    pub flag_skipped : (register_of (skipped t z) u j).flag ≡ (register_of t u j).flag
    flag_skipped =
        ⊎_elim (λ e. ap (λ (r : Register). r.flag) e) (λ e. ap (λ (r : Register). r.flag) e.1 ∙ sym e.0) (skipped_register t z g.shaped fit u j)

    -- whoever is in line was so
    pub line_skipped : in_line (register_of (skipped t z) u j) ≡ true → in_line (register_of t u j) ≡ true
    line_skipped line = ⊎_elim (λ e. rw e at line) (λ e. absurd (clash line (ap in_line e.1))) (skipped_register t z g.shaped fit u j)

-- I and L alone skip
off : (a b c : Bool) → (a && false && b && c) ≡ false
off true b c = refl
off false b c = refl

pub calm_at : (t : Table) (z : Step) → gives_up z (core_of t (whose z).0).state ≡ false → skips t z ≡ false
calm_at t z e =
    let k = (whose z).0 in
    let d = dequeues t.counts.profile && ltb k t.counts.cores in
    let flag = (register_of t (first_of t z) k).flag in
    let away = away_as t.cores (stored (unit_of t (first_of t z)).next) in
    ap (λ (b : Bool). d && b && flag && away) e ∙ off d flag away

module _ (p : Place) (g : Good p.table) where
  abbrev t : Table
  t = p.table

  pub onward_skipped : (z : Step) → onward p z ≡ onward (skip_on p z) z
  onward_skipped = go
    where
      -- the place with another table
      by : Table → Place
      by x = record { table = x; issued = p.issued; issue = p.issue }

      unskipped : (z : Step) → gives_up z (core_of t (whose z).0).state ≡ false → onward p z ≡ onward (skip_on p z) z
      unskipped z e = ap (λ (x : Table). onward (by x) z) (sym (skipped_calm t z (calm_at t z e)))

      go : (z : Step) → onward p z ≡ onward (skip_on p z) z
      go (R k u) = unskipped (R k u) refl
      go (N k u) = unskipped (N k u) refl
      go (P k) = unskipped (P k) refl
      go (I k) = ap (λ (x : Stepped). onward_by x) (step_skipped t (I k) g)
        where
          onward_by : Stepped → Place
          onward_by x = record { table = x.table; issued = (onward p (I k)).issued; issue = p.issue }
      go (C k) = unskipped (C k) refl
      go (L k) = ap (λ (x : Stepped). onward_by x) (step_skipped t (L k) g)
        where
          onward_by : Stepped → Place
          onward_by x = record { table = x.table; issued = (onward p (L k)).issued; issue = p.issue }

  pub grants_skipped : (z : Step) → grants p z ≡ grants (skip_on p z) z
  grants_skipped z = ap (λ (x : Stepped). listed x.grants) (step_skipped t z g)

  pub interrupts_skipped : (z : Step) (j : ℕ) → interrupts t z j ≡ interrupts (skipped t z) z j
  interrupts_skipped (R k u) j = refl
  interrupts_skipped (N k u) j = refl
  interrupts_skipped (P k) j = refl
  interrupts_skipped (I k) j = ap (λ (x : Stepped). eqb k.0 j && eqb (number_of x.answer) 0) (step_skipped t (I k) g)
  interrupts_skipped (C k) j = refl
  interrupts_skipped (L k) j = refl

  pub leaves_skipped : (k u : ℕ) (z : Step) → leaves k u p z ≡ leaves k u (skip_on p z) z
  leaves_skipped k u (R j v) = rw (step_skipped t (R j v) g) refl
  leaves_skipped k u (N j v) = rw (step_skipped t (N j v) g) refl
  leaves_skipped k u (P j) = rw (step_skipped t (P j) g) refl
  leaves_skipped k u (I j) = rw (step_skipped t (I j) g) refl
  leaves_skipped k u (C j) = rw (step_skipped t (C j) g) refl
  leaves_skipped k u (L j) = rw (step_skipped t (L j) g) refl
