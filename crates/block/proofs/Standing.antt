-- What soundness says of one core: the units that it names are in the table, its registers elsewhere are blank, and nothing waits
-- to be settled or shown.
use Prim.Native.Nat.{ℕ, ◌+◌, ◌≤◌, ◌<◌}
use mathlib.Core.Bool.{Bool, true, false, cond, ◌&&◌, not}
use mathlib.Core.Logic.{⊎_elim, ◌≢◌}
use mathlib.Core.Path.{◌≡◌, refl, sym, ◌∙◌, subst}
use native.Mathlib.Omega.{arith}
use lib.Dec.{eqb, leb, ltb}
use borrow.Author.Tests.{eqb-true, ne_eqb, leb-true, ltb-true}
use Rattle.ticket.specs.Kinds.{ticket}
use Rattle.parts.specs.Fold.{one}
use Rattle.parts.specs.State.{is_idle_lem, stands, two_stage_lem}
use Rattle.parts.specs.Parts.{cores, units, blank, register_in}
use Rattle.block.specs.Table.{core_of, unit_of, register_of, unit_count}
use Rattle.parts.specs.Range.{in_range, per_class, classed}
use Rattle.settling.specs.Line.{flags}
use Rattle.block.specs.Sound as S
use Rattle.block.specs.Parts.{Sound}
use Rattle.block.proofs.Touched.{Calm, QuietTable}
use Rattle.parts.specs.declared.kinds.Register.{Register}
use Rattle.parts.specs.declared.kinds.LockUnit.{LockUnit}
use Rattle.parts.specs.declared.kinds.Core.{Core}
use Rattle.parts.specs.declared.kinds.Counts.{Counts}
use Rattle.block.specs.declared.table.Table.{Table}
use Rattle.parts.proofs.Bools.{and_left, and_right, or_cases, not_true_false, clash}
use Rattle.parts.proofs.Folds.{some_none}
use Rattle.settling.proofs.Picking.{next_nobody}
use Rattle.settling.proofs.NextInLine.{shows_is}

-- counts

pub units_few : (c : Counts) → in_range c ≡ true → c.first + c.second ≤ units
units_few c e =
    let a = leb 1 c.cores in
    let b = leb c.cores cores in
    let d = leb 1 c.first in
    let f = leb c.first per_class in
    let g = leb c.second per_class in
    let e1 = and_left (a && b && d && f && g) (classed c.profile c.second) e in
    omega (
      arith,
      leb-true c.first per_class (and_right (a && b && d) f (and_left (a && b && d && f) g e1)),
      leb-true c.second per_class (and_right (a && b && d && f) g e1),
    )

-- a blank register, and one where the core does not stand

pub blank_is : (r : Register) → S.is_blank r ≡ true → r ≡ blank
blank_is r e =
    let a = eqb r.ticket.0 0 in
    let b = not r.valid in
    let d = not r.flag in
    let n = eqb-true r.ticket.0 0 (and_left a b (and_left (a && b) d e)) in
    let v = not_true_false r.valid (and_right a b (and_left (a && b) d e)) in
    let f = not_true_false r.flag (and_right (a && b) d e) in
    λ i. record { ticket = ticket (n i); valid = v i; flag = f i }

elsewhere : (a b p q e : Bool) → a ≡ false → b ≡ false → cond a p (cond b q e) ≡ true → e ≡ true
elsewhere true b p q e x y h = absurd (clash refl x)
elsewhere false true p q e x y h = absurd (clash refl y)
elsewhere false false p q e x y h = h

and_no : (a b : Bool) → b ≡ false → (a && b) ≡ false
and_no true b e = e
and_no false b e = refl

pub no_and : (a b : Bool) → a ≡ false → (a && b) ≡ false
no_and true b e = absurd (clash refl e)
no_and false b e = refl

module _ (t : Table) (s : Sound t) (k : ℕ) (h : k < cores) where
  abbrev c : Core
  c = core_of t k

  names : is_idle_lem c.state ≡ false → S.names t c (two_stage_lem c.state) ≡ true
  names live =
      ⊎_elim (λ e. absurd (clash e live)) (λ e. e)
      (or_cases (is_idle_lem c.state) (S.names t c (two_stage_lem c.state)) (s.core k h).named)

  -- the first unit, and the second
  pub first_in : is_idle_lem c.state ≡ false → c.first.0 < units
  first_in live = go (two_stage_lem c.state) (names live)
    where
      go : (b : Bool) → S.names t c b ≡ true → c.first.0 < units
      go true e =
          let a = ltb c.first.0 t.counts.first in
          let b = leb t.counts.first c.second.0 in
          let d = ltb c.second.0 (unit_count t) in
          omega (
            arith,
            ltb-true c.first.0 t.counts.first (and_left a b (and_left (a && b) d e)),
            units_few t.counts s.counts,
          )
      go false e = omega (arith, ltb-true c.first.0 (unit_count t) e, units_few t.counts s.counts)

  pub second_after : is_idle_lem c.state ≡ false → two_stage_lem c.state ≡ true → (c.first.0 < c.second.0) × (c.second.0 < units)
  second_after live two =
      let e : S.names t c true ≡ true = subst (λ (b : Bool). S.names t c b ≡ true) two (names live) in
      let a = ltb c.first.0 t.counts.first in
      let b = leb t.counts.first c.second.0 in
      let d = ltb c.second.0 (unit_count t) in
      let x = ltb-true c.first.0 t.counts.first (and_left a b (and_left (a && b) d e)) in
      let y = leb-true t.counts.first c.second.0 (and_right a b (and_left (a && b) d e)) in
      let z = ltb-true c.second.0 (unit_count t) (and_right (a && b) d e) in
      (omega arith, omega (arith, units_few t.counts s.counts))

  -- blank where the core does not stand
  pub bare :
      (u : ℕ) → u < units → (stands c.state && eqb u c.first.0) ≡ false → (two_stage_lem c.state && eqb u c.second.0) ≡ false → register_of t u k ≡ blank
  bare u l a b =
      blank_is (register_of t u k)
      (elsewhere (stands c.state && eqb u c.first.0) (two_stage_lem c.state && eqb u c.second.0) _ _ _ a b ((s.unit u l).agrees k h))

  pub bare_one : two_stage_lem c.state ≡ false → (u : ℕ) → u < units → u ≢ c.first.0 → register_of t u k ≡ blank
  bare_one one u l d =
      bare u l (and_no (stands c.state) (eqb u c.first.0) (ne_eqb u c.first.0 d)) (no_and (two_stage_lem c.state) (eqb u c.second.0) one)

  pub bare_two : (u : ℕ) → u < units → u ≢ c.first.0 → u ≢ c.second.0 → register_of t u k ≡ blank
  bare_two u l d d' =
      bare u l (and_no (stands c.state) (eqb u c.first.0) (ne_eqb u c.first.0 d))
      (and_no (two_stage_lem c.state) (eqb u c.second.0) (ne_eqb u c.second.0 d'))

-- a unit of a sound table has nothing to settle, since without a flag it has no valid register; and it shows its next in line

pub one_none : (b : Bool) → 0 ≡ one b → b ≡ false
one_none true e = absurd (let z : ◌≡◌ {A = ℕ} 0 1 = e in omega arith)
one_none false e = refl

unflagged : (x : LockUnit) → S.one_flag x ≡ true → Calm x
unflagged x e zero' =
    let v = one_none (S.any_valid x) (sym zero' ∙ eqb-true (flags cores x) (one (S.any_valid x)) e) in
    next_nobody cores x (λ k h. no_and (register_in x k).valid (not (register_in x k).flag) (some_none (λ (j : ℕ). (register_in x j).valid) cores v k h))

pub sound_quiet : (t : Table) → Sound t → QuietTable t
sound_quiet t s u h = (unflagged (unit_of t u) (s.unit u h).one_flag, shows_is cores (unit_of t u) (s.unit u h).next)
