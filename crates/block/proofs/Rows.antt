-- The units of a table kept apart from it, a row of registers for each unit and what each shows: a changed register of a row is the changed
-- register of its unit, and the flag that is passed on and the next in line that is found by the pairs are those of the unit.
use Prim.Native.Nat.{ℕ, zero, suc, ◌<◌}
use mathlib.Core.Bool.{true, false}
use mathlib.Core.List.{List, [], ◌∷◌, map}
use mathlib.Core.Path.{◌≡◌, refl, sym, ◌∙◌, ap, ap₂}
use native.Mathlib.Omega.{arith}
use lib.ListN.{length, get_or, set, length-set, length-map, get_or-map}
use lib.Seq.{get_or-set_same, set-set}
use Rattle.ticket.specs.declared.kinds.CoreNo.{CoreNo}
use Rattle.ticket.specs.declared.kinds.UnitNo.{UnitNo}
use Rattle.parts.specs.Parts.{units, blank, nobody, absent_unit, registered, showing}
use Rattle.parts.specs.declared.kinds.Register.{Register}
use Rattle.parts.specs.declared.kinds.Next.{Next}
use Rattle.parts.specs.declared.kinds.LockUnit.{LockUnit}
use Rattle.settling.specs.Settle.{passed_to_lem, with_flag, given, repicked}
use Rattle.settling.specs.declared.settle.Change.{Change}
use Rattle.settling.proofs.NextInLine.{passed_given}
use Rattle.block.specs.Apart.{unit_with, registers_in, next_in, rows_of, nexts_of, together, gathered}
use Rattle.plan.specs.Plan.{part, part_of}
use Rattle.plan.specs.declared.planning.Part.{Part}
use Rattle.plan.specs.declared.planning.Plan.{Plan}
use Rattle.block.specs.PutBack.{changed_at, with_units, put_back}
use Rattle.block.specs.declared.table.Table.{Table}

-- Taking apart

pub row_of : (us : List LockUnit) (i : ℕ) → (get_or us i absent_unit).registers ≡ get_or (map registers_in us) i []
row_of us i = sym (get_or-map registers_in us i absent_unit)

pub next_of : (us : List LockUnit) (i : ℕ) → (get_or us i absent_unit).next ≡ get_or (map next_in us) i nobody
next_of us i = sym (get_or-map next_in us i absent_unit)

pub rows_long : (t : Table) → length t.units ≡ units → length (rows_of t) ≡ units
rows_long t e = length-map t.units registers_in ∙ e

pub nexts_long : (t : Table) → length t.units ≡ units → length (nexts_of t) ≡ units
nexts_long t e = length-map t.units next_in ∙ e

-- Putting together

pub together_back : (us : List LockUnit) → together (map registers_in us) (map next_in us) ≡ us
unfolding together
together_back [] = refl
together_back (x ∷ us) = ap (λ (l : List LockUnit). x ∷ l) (together_back us)

pub gathered_back : (t : Table) → gathered t (rows_of t) (nexts_of t) ≡ t
gathered_back t =
    ap (λ (us : List LockUnit). record { units = us; cores = t.cores; counts = t.counts; counter = t.counter }) (together_back t.units)

pub together_long : (rows : List (List Register)) (nexts : List Next) → length rows ≡ length nexts → length (together rows nexts) ≡ length rows
unfolding together
together_long [] vs e = refl
together_long (l ∷ ls) [] e = absurd (omega arith)
together_long (l ∷ ls) (v ∷ vs) e = ap suc (together_long ls vs (omega arith))

pub unit_at :
    (rows : List (List Register)) (nexts : List Next) (i : ℕ) →
    length rows ≡ length nexts →
    get_or (together rows nexts) i absent_unit ≡ unit_with (get_or rows i []) (get_or nexts i nobody)
unfolding together
unit_at [] [] i e = refl
unit_at [] (v ∷ vs) i e = absurd (omega arith)
unit_at (l ∷ ls) [] i e = absurd (omega arith)
unit_at (l ∷ ls) (v ∷ vs) zero e = refl
unit_at (l ∷ ls) (v ∷ vs) (suc i) e = unit_at ls vs i (omega arith)

pub together_set :
    (rows : List (List Register)) (nexts : List Next) (i : ℕ) (l : List Register) (v : Next) →
    together (set rows i l) (set nexts i v) ≡ set (together rows nexts) i (unit_with l v)
unfolding together
together_set [] vs i l v = refl
together_set (m ∷ ls) [] zero l v = refl
together_set (m ∷ ls) [] (suc i) l v = refl
together_set (m ∷ ls) (w ∷ vs) zero l v = refl
together_set (m ∷ ls) (w ∷ vs) (suc i) l v = ap (λ (us : List LockUnit). unit_with m w ∷ us) (together_set ls vs i l v)

-- Putting back

-- the register of core k at unit i becomes r
abbrev pub set_at : List (List Register) → ℕ → ℕ → Register → List (List Register)
set_at rows i k r = set rows i (set (get_or rows i []) k r)

module _ (n : ℕ) (k : CoreNo) (c : Change) (rows : List (List Register)) (nexts : List Next) (i : ℕ) (even : length rows ≡ length nexts) where
  abbrev x : LockUnit
  x = get_or (together rows nexts) i absent_unit

  -- core k's register and what the unit shows
  abbrev light : List (List Register)
  light = set_at rows i k.0 c.register

  abbrev light_next : List Next
  light_next = set nexts i c.next

  at_light : together light light_next ≡ set (together rows nexts) i (showing (registered x k.0 c.register) c.next)
  at_light =
      together_set rows nexts i (set (get_or rows i []) k.0 c.register) c.next ∙
      ap (λ (y : LockUnit). set (together rows nexts) i (showing (registered y k.0 c.register) c.next)) (sym (unit_at rows nexts i even))

  pub put_light :
      (ls : List (List Register)) (vs : List Next) →
      c.repick ≡ false →
      ls ≡ light →
      vs ≡ light_next →
      together ls vs ≡ changed_at n k i c (together rows nexts)
  put_light ls vs e el ev = ap₂ together el ev ∙ at_light ∙ rw e

  -- and the flag is passed on, and the pairs are gone through
  pub put_again :
      (w : CoreNo) (q : Register) (v : Next) (ls : List (List Register)) (vs : List Next) →
      i < length rows →
      c.repick ≡ true →
      w ≡ passed_to_lem c.winner k →
      q ≡ with_flag (get_or (get_or light i []) w.0 blank) c.winner →
      v ≡ repicked n (unit_with (get_or (set_at light i w.0 q) i []) (get_or light_next i nobody)) →
      ls ≡ set_at light i w.0 q →
      vs ≡ set light_next i v →
      together ls vs ≡ changed_at n k i c (together rows nexts)
  put_again w q v ls vs h e ew eq ev el evs =
      ap₂ together (el ∙ rows_so) (evs ∙ nexts_so) ∙
      together_set rows nexts i y.registers (repicked n y) ∙
      ap (λ (m : LockUnit). set (together rows nexts) i (again m)) (sym (unit_at rows nexts i even)) ∙
      rw e
    where
      lit : LockUnit → LockUnit
      lit m = showing (registered m k.0 c.register) c.next

      again : LockUnit → LockUnit
      again m = let z = given (lit m) c.winner in showing z (repicked n z)

      u : LockUnit
      u = unit_with (get_or rows i []) (get_or nexts i nobody)

      y : LockUnit
      y = given (lit u) c.winner

      here : get_or light i [] ≡ (lit u).registers
      here = get_or-set_same rows i (set (get_or rows i []) k.0 c.register) [] h

      passes : set (get_or light i []) w.0 q ≡ y.registers
      passes =
          rw (eq, ew, here) (ap (λ (m : LockUnit). m.registers) (passed_given (lit u) c.winner k))

      rows_so : set_at light i w.0 q ≡ set rows i y.registers
      rows_so = set-set rows i (set (get_or rows i []) k.0 c.register) (set (get_or light i []) w.0 q) ∙ ap (set rows i) passes

      there : get_or (set_at light i w.0 q) i [] ≡ y.registers
      there = get_or-set_same light i (set (get_or light i []) w.0 q) [] (rw (length-set rows i (set (get_or rows i []) k.0 c.register)) h) ∙ passes

      nexts_so : set light_next i v ≡ set nexts i (repicked n y)
      nexts_so =
          set-set nexts i c.next v ∙
          ap (set nexts i) (ev ∙ ap (λ (l : List Register). repicked n (unit_with l (get_or light_next i nobody))) there)

-- What is put back at a unit: core k changed so at unit i, and the lists are as long as they were
pub record Put (n : ℕ) (k : CoreNo) (c : Change) (i : ℕ) (rows : List (List Register)) (nexts : List Next) (ls : List (List Register)) (vs : List Next) : Type 0 where
  pub units_so : together ls vs ≡ changed_at n k i c (together rows nexts)
  pub rows_so : length ls ≡ length rows
  pub nexts_so : length vs ≡ length nexts

module _ (n : ℕ) (k : CoreNo) (c : Change) (i : ℕ) (rows : List (List Register)) (nexts : List Next) (even : length rows ≡ length nexts) where
  pub puts_light :
      (ls : List (List Register)) (vs : List Next) →
      c.repick ≡ false →
      ls ≡ light n k c rows nexts i even →
      vs ≡ light_next n k c rows nexts i even →
      Put n k c i rows nexts ls vs
  puts_light ls vs e el ev =
      record {
        units_so = put_light n k c rows nexts i even ls vs e el ev;
        rows_so = ap length el ∙ length-set rows i (set (get_or rows i []) k.0 c.register);
        nexts_so = ap length ev ∙ length-set nexts i c.next;
      }

  pub puts_again :
      (w : CoreNo) (q : Register) (v : Next) (ls : List (List Register)) (vs : List Next) →
      i < length rows →
      c.repick ≡ true →
      w ≡ passed_to_lem c.winner k →
      q ≡ with_flag (get_or (get_or (light n k c rows nexts i even) i []) w.0 blank) c.winner →
      v ≡ repicked n (unit_with (get_or (set_at (light n k c rows nexts i even) i w.0 q) i []) (get_or (light_next n k c rows nexts i even) i nobody)) →
      ls ≡ set_at (light n k c rows nexts i even) i w.0 q →
      vs ≡ set (light_next n k c rows nexts i even) i v →
      Put n k c i rows nexts ls vs
  puts_again w q v ls vs h e ew eq ev el evs =
      record {
        units_so = put_again n k c rows nexts i even w q v ls vs h e ew eq ev el evs;
        rows_so =
            ap length el ∙
            length-set (light n k c rows nexts i even) i (set (get_or (light n k c rows nexts i even) i []) w.0 q) ∙
            length-set rows i (set (get_or rows i []) k.0 c.register);
        nexts_so = ap length evs ∙ length-set (light_next n k c rows nexts i even) i v ∙ length-set nexts i c.next;
      }

-- what is read at a place is what the step reads of the unit
pub read_at :
    (rows : List (List Register)) (nexts : List Next) (i k : ℕ) (x : Part) →
    length rows ≡ length nexts →
    x ≡ part (get_or (get_or rows i []) k blank) (get_or nexts i nobody) →
    x ≡ part_of k (get_or (together rows nexts) i absent_unit)
read_at rows nexts i k x even e = e ∙ ap (part_of k) (sym (unit_at rows nexts i even))

-- A plan put back: both units, or none
pub record Back (t : Table) (k : CoreNo) (i j : UnitNo) (p : Plan) (rows : List (List Register)) (nexts : List Next) (ls : List (List Register)) (vs : List Next) : Type 0 where
  pub units_so : together ls vs ≡ (with_units (gathered t rows nexts) k i j p).units
  pub rows_so : length ls ≡ length rows
  pub nexts_so : length vs ≡ length nexts

module _ (t : Table) (k : CoreNo) (i j : UnitNo) (p : Plan) (rows : List (List Register)) (nexts : List Next) where
  pub back_both :
      (ms : List (List Register)) (us : List Next) (ls : List (List Register)) (vs : List Next) →
      p.moves ≡ true →
      Put t.counts.cores k p.second j.0 rows nexts ms us →
      Put t.counts.cores k p.first i.0 ms us ls vs →
      Back t k i j p rows nexts ls vs
  back_both ms us ls vs e b a =
      record {
        units_so = a.units_so ∙ ap (changed_at t.counts.cores k i.0 p.first) b.units_so ∙ rw e;
        rows_so = a.rows_so ∙ b.rows_so;
        nexts_so = a.nexts_so ∙ b.nexts_so;
      }

  pub back_none :
      (ls : List (List Register)) (vs : List Next) → p.moves ≡ false → ls ≡ rows → vs ≡ nexts → Back t k i j p rows nexts ls vs
  back_none ls vs e el ev =
      record { units_so = ap₂ together el ev ∙ rw e; rows_so = ap length el; nexts_so = ap length ev }

  -- the table after it
  pub gathered_stepped :
      (ls : List (List Register)) (vs : List Next) →
      Back t k i j p rows nexts ls vs →
      gathered (record { units = t.units; cores = set t.cores k.0 p.core; counts = t.counts; counter = p.counter }) ls vs ≡
      (put_back (gathered t rows nexts) k i j p).table
  gathered_stepped ls vs b =
      ap (λ (us : List LockUnit). record { units = us; cores = set t.cores k.0 p.core; counts = t.counts; counter = p.counter }) b.units_so
