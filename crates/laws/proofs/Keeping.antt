-- Every step keeps a table sound. It is worked on the table from which those away in front are dropped: there its moves leave it sound but for units
-- without their flag, with nobody away to be granted one, and settling mends exactly that. A refused step hands back the same table. The fresh
-- table is sound.
use Prim.Native.Nat.{ℕ, ◌<◌}
use mathlib.Core.Bool.{Bool, true, false, cond, ◌&&◌, not}
use mathlib.Core.Logic.{⊎_elim}
use mathlib.Core.Path.{◌≡◌, refl, sym, ◌∙◌, ap, ap₂, subst}
use lib.Dec.{eqb, ltb}
use lib.ListN.{length, length-replicate, get_or-replicate}
use borrow.Author.Tests.{eq-eqb, ltb-true}
use Rattle.ticket.specs.Kinds.{ticket}
use Rattle.ticket.specs.declared.kinds.Ticket.{Ticket}
use Rattle.parts.specs.Fold.{one}
use Rattle.parts.specs.State.{is_idle_lem, is_live_lem, is_dropped}
use Rattle.parts.specs.Parts.{cores, units, blank, idle, absent_unit, empty_unit_lem, register_in}
use Rattle.block.specs.Table.{core_of, unit_of, register_of, with_counter_lem, Shaped}
use Rattle.laws.specs.Claims.{BuiltSound}
use Rattle.parts.specs.Range.{in_range}
use Rattle.building.specs.Build.{fresh, least}
use Rattle.settling.specs.Line.{flags, in_line}
use Rattle.settling.specs.Shown.{shown_as, same, shows_next_lem}
use Rattle.settling.proofs.Picking.{next_nobody}
use Rattle.block.specs.Sound as S
use Rattle.block.specs.Sound.{sound}
use Rattle.block.specs.Parts.{CoreSound, Sound}
use Rattle.block.specs.Steps.{verdict, moves, performed, on_sound, answered}
use Rattle.block.specs.Skipping.{skipped}
use Rattle.parts.specs.declared.kinds.Register.{Register}
use Rattle.parts.specs.declared.kinds.LockUnit.{LockUnit}
use Rattle.parts.specs.declared.kinds.Core.{Core}
use Rattle.parts.specs.declared.kinds.Counts.{Counts}
use Rattle.block.specs.declared.table.Table.{Table}
use Rattle.parts.specs.declared.answer.Step.{Step}
use Rattle.block.specs.declared.stepped.Stepped.{Stepped}
use Rattle.refusals.specs.Verdict.{Verdict, Allowed, Refused}
use Rattle.building.specs.declared.building.Built.{Built}
use Rattle.parts.specs.declared.answer.Answer.TheVariants.{Done, OutOfRange}
use Rattle.parts.proofs.Bools.{or_left, or_right, or_cases}
use Rattle.parts.proofs.Folds.{none_some, none_count}
use Rattle.block.proofs.Parts.{parts, whole}
use Rattle.block.proofs.Suited.{suits_idle}
use Rattle.block.proofs.Kept.{moves_shaped, moves_almost}
use Rattle.block.proofs.Touched.{AllPresent}
use Rattle.block.proofs.DroppedFirst.{skip_first, skipped_sound, skipped_shaped, skipped_present}
use Rattle.laws.proofs.Settling.{settle_shaped, settle_sound}

-- a sound table with its arrays' lengths
pub record Good (t : Table) : Type 0 where
  pub shaped : Shaped t
  pub sound : Sound t

-- what holds of every step whose settling drops nobody holds of every step
pub worked :
    (s : Step) (P : Stepped → Type 0) →
    ((t : Table) → Shaped t → sound t ≡ true → (verdict t s ≡ Allowed → AllPresent (moves t s)) → P (on_sound t s)) →
    (t : Table) →
    Shaped t →
    sound t ≡ true →
    P (on_sound t s)
worked s P holds t shaped ok =
    subst P (sym (skip_first t s shaped ok))
    (holds (skipped t s) (skipped_shaped t s shaped ok) (skipped_sound t s shaped ok) (skipped_present t s shaped ok))

-- allowed: what the work leaves; refused: the same table
judged : (t : Table) → Good t → (v : Verdict) (d : Stepped) → (v ≡ Allowed → Good d.table) → Good (answered t v d).table
judged t g Allowed d done = done refl
judged t g (Refused a) d done = g

pub steps_keep : (t : Table) → Good t → (s : Step) → Good (on_sound t s).table
unfolding on_sound
steps_keep t g s = worked s (λ x. Good x.table) kept t g.shaped (whole t g.sound)
  where
    kept : (t : Table) → Shaped t → sound t ≡ true → (verdict t s ≡ Allowed → AllPresent (moves t s)) → Good (on_sound t s).table
    kept t shaped ok present =
        judged t (record { shaped = shaped; sound = parts t ok }) (verdict t s) (performed t s)
        (λ may.
        let lengths = moves_shaped t shaped (parts t ok) s may in
        record {
          shaped = settle_shaped (moves t s) (present may) lengths;
          sound = settle_sound (moves t s) (present may) lengths (moves_almost t shaped (parts t ok) s may);
        })

-- the same of the computed test
pub step_sound : (t : Table) (s : Step) → Shaped t → sound t ≡ true → sound (on_sound t s).table ≡ true
step_sound t s shaped ok = whole (on_sound t s).table (steps_keep t (record { shaped = shaped; sound = parts t ok }) s).sound

pub step_shaped : (t : Table) (s : Step) → Shaped t → sound t ≡ true → Shaped (on_sound t s).table
step_shaped t s shaped ok = (steps_keep t (record { shaped = shaped; sound = parts t ok }) s).shaped

-- a sound table is sound with another counter, if that lies so ahead of its cores' tickets
pub counter_sound :
    (t : Table) (n : Ticket) →
    sound t ≡ true →
    ((k : ℕ) → k < t.counts.cores → S.recent (with_counter_lem t n) (core_of t k) ≡ true) →
    sound (with_counter_lem t n) ≡ true
counter_sound t n ok ahead =
    let p = parts t ok in
    whole (with_counter_lem t n)
    (record {
      counts = p.counts;
      core = λ k h.
          let c = p.core k h in
          record {
            within = c.within;
            suited = c.suited;
            idle_blank = c.idle_blank;
            dropped_blank = c.dropped_blank;
            named = c.named;
            recent = ⊎_elim (λ small. ahead k (ltb-true k t.counts.cores small)) (λ idle. still k idle)
                (or_cases (ltb k t.counts.cores) (is_idle_lem (core_of t k).state) c.within);
            differ = c.differ;
            carries = c.carries;
          };
      unit = λ u h. let x = p.unit u h in record { agrees = x.agrees; one_flag = x.one_flag; next = x.next };
    })
  where
    -- an idle core has no live ticket
    still : (k : ℕ) → is_idle_lem (core_of t k).state ≡ true → S.recent (with_counter_lem t n) (core_of t k) ≡ true
    still k none = or_left _ (ap (λ (b : Bool). not (not b && not (is_dropped (core_of t k).state))) none)

-- The fresh table: an idle core and a blank register meet every clause.

idle_core : (t : Table) → ((k : ℕ) → k < cores → core_of t k ≡ idle) → (k : ℕ) → k < cores → CoreSound t k
idle_core t all k h =
    let e = all k h in
    let no_ticket : is_idle_lem (core_of t k).state ≡ true = ap (λ (c : Core). is_idle_lem c.state) e in
    record {
      within = or_right (ltb k t.counts.cores) no_ticket;
      suited = ap (S.suited t) e ∙ suits_idle t.counts.profile;
      idle_blank = ap S.idle_blank e;
      dropped_blank = ap S.dropped_blank e;
      named = ap (S.named t) e;
      recent = ap (S.recent t) e;
      differ = λ j l. or_left _ (or_left _ (or_right (eqb k j) (ap (λ (c : Core). not (is_live_lem c.state)) e)));
      carries = ap (S.carries t) e;
    }

blank_unit : (x : LockUnit) → ((k : ℕ) → k < cores → register_in x k ≡ blank) → S.one_flag x ≡ true
blank_unit x all =
    eq-eqb (flags cores x) (one (S.any_valid x))
    (none_count (λ (k : ℕ). (register_in x k).flag) cores (λ k h. ap (λ (r : Register). r.flag) (all k h)) ∙
    ap one (sym (none_some (λ (k : ℕ). (register_in x k).valid) cores (λ k h. ap (λ (r : Register). r.valid) (all k h)))))

module _ (c : Counts) (n : Ticket) where
  unit_fresh : (u : ℕ) → u < units → unit_of (fresh c n) u ≡ empty_unit_lem
  unit_fresh u h = get_or-replicate units u empty_unit_lem absent_unit h

  pub core_fresh : (k : ℕ) → k < cores → core_of (fresh c n) k ≡ idle
  core_fresh k h = get_or-replicate cores k idle idle h

  register_fresh : (u : ℕ) → u < units → (k : ℕ) → k < cores → register_of (fresh c n) u k ≡ blank
  register_fresh u h k l = ap (λ (x : LockUnit). register_in x k) (unit_fresh u h) ∙ get_or-replicate cores k blank blank l

  -- nobody is in line, and no flag is set
  shown_fresh : (u : ℕ) → u < units → shows_next_lem cores (unit_of (fresh c n) u) ≡ true
  shown_fresh u h =
      let x = unit_of (fresh c n) u in
      ap₂ same (ap (λ (y : LockUnit). y.next) (unit_fresh u h))
      (ap₂ shown_as (next_nobody cores x (λ k l. ap in_line (register_fresh u h k l)))
      (ap (λ (m : ℕ). not (eqb m 0)) (none_count (λ (k : ℕ). (register_in x k).flag) cores (λ k l. ap (λ (r : Register). r.flag) (register_fresh u h k l)))))

  pub fresh_shaped : Shaped (fresh c n)
  fresh_shaped =
      record {
        cores_long = length-replicate cores idle;
        units_long = length-replicate units empty_unit_lem;
        registers_long = λ u h. ap (λ (x : LockUnit). length x.registers) (unit_fresh u h) ∙ length-replicate cores blank;
      }

  pub fresh_sound : in_range c ≡ true → sound (fresh c n) ≡ true
  fresh_sound good =
      whole (fresh c n)
      (record {
        counts = good;
        core = idle_core (fresh c n) core_fresh;
        unit = λ u h.
            record {
              agrees = λ k l. ap₂ (λ (d : Core) (r : Register). S.agrees d u r) (core_fresh k l) (register_fresh u h k l);
              one_flag = blank_unit (unit_of (fresh c n) u) (register_fresh u h);
              next = shown_fresh u h;
            };
      })

-- building always gives a sound table
pub built_sound : BuiltSound
built_sound c n = go (in_range c) refl
  where
    built : Bool → Built
    built b = cond b (record { table = fresh c n; answer = Done }) (record { table = fresh least (ticket 0); answer = OutOfRange })

    go : (b : Bool) → in_range c ≡ b → (sound (built b).table ≡ true) × Shaped (built b).table
    go true e = (fresh_sound c n e, fresh_shaped c n)
    go false e = (fresh_sound least (ticket 0) refl, fresh_shaped least (ticket 0))
