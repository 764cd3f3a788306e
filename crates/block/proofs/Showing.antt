-- A unit that shows its next in line has the registers that it had, and with them all that is read off registers.
use Prim.Native.Nat.{ℕ, zero, suc, ◌<◌}
use mathlib.Core.Bool.{true}
use mathlib.Core.List.{List, [], ◌∷◌}
use mathlib.Core.Path.{◌≡◌, refl, ◌∙◌, ap}
use lib.ListN.{length, get_or, set, length-set}
use Rattle.parts.specs.Parts.{cores, units, blank, nobody, absent_unit}
use Rattle.parts.specs.declared.kinds.Register.{Register}
use Rattle.parts.specs.declared.kinds.LockUnit.{LockUnit}
use Rattle.settling.specs.Line.{flags, next}
use Rattle.settling.specs.Shown.{shown, shows_next_lem}
use Rattle.block.specs.Table.{core_of, unit_of, register_of, Shaped}
use Rattle.block.specs.Settle.{show}
use Rattle.block.specs.Sound as S
use Rattle.block.specs.declared.table.Table.{Table}
use Rattle.settling.proofs.NextInLine.{shown_shows}
use Rattle.block.proofs.Access.{unit_same}
use Rattle.block.proofs.Almost.{Almost}

-- the registers of any unit, where one was put that has those of the one before
put_registers :
    (l : List LockUnit) (u v : ℕ) (x : LockUnit) →
    x.registers ≡ (get_or l u absent_unit).registers →
    (get_or (set l u x) v absent_unit).registers ≡ (get_or l v absent_unit).registers
put_registers [] u v x e = refl
put_registers (y ∷ l) zero zero x e = e
put_registers (y ∷ l) zero (suc v) x e = refl
put_registers (y ∷ l) (suc u) zero x e = refl
put_registers (y ∷ l) (suc u) (suc v) x e = put_registers l u v x e

module _ (t : Table) (u : ℕ) where
  pub show_registers : (v : ℕ) → (unit_of (show t u) v).registers ≡ (unit_of t v).registers
  show_registers v = put_registers t.units u v (shown cores (unit_of t u)) refl

  pub show_register : (v k : ℕ) → register_of (show t u) v k ≡ register_of t v k
  show_register v k = ap (λ (l : List Register). get_or l k blank) (show_registers v)

  -- what is read off a unit's registers
  abbrev with_registers : List Register → LockUnit
  with_registers l = record { registers = l; next = nobody }

  pub show_flags : (v : ℕ) → flags cores (unit_of (show t u) v) ≡ flags cores (unit_of t v)
  show_flags v = ap (λ (l : List Register). flags cores (with_registers l)) (show_registers v)

  pub show_next : (v : ℕ) → next cores (unit_of (show t u) v) ≡ next cores (unit_of t v)
  show_next v = ap (λ (l : List Register). next cores (with_registers l)) (show_registers v)

  pub show_one_flag : (v : ℕ) → S.one_flag (unit_of (show t u) v) ≡ S.one_flag (unit_of t v)
  show_one_flag v = ap (λ (l : List Register). S.one_flag (with_registers l)) (show_registers v)

  pub show_shaped : Shaped t → Shaped (show t u)
  show_shaped s =
      record {
        cores_long = s.cores_long;
        units_long = length-set t.units u _ ∙ s.units_long;
        registers_long = λ v h. ap length (show_registers v) ∙ s.registers_long v h;
      }

  pub show_almost : Almost t → Almost (show t u)
  show_almost a =
      record {
        counts = a.counts;
        core = λ k h.
            let c = a.core k h in
            record {
              within = c.within;
              suited = c.suited;
              idle_blank = c.idle_blank;
              dropped_blank = c.dropped_blank;
              named = c.named;
              recent = c.recent;
              differ = c.differ;
              carries = c.carries;
            };
        agrees = λ v h k l. ap (S.agrees (core_of t k) v) (show_register v k) ∙ a.agrees v h k l;
        few = λ v h. rw (show_flags v) (a.few v h);
      }

  -- and it shows just that
  pub show_shows : Shaped t → u < units → shows_next_lem cores (unit_of (show t u) u) ≡ true
  show_shows s h = ap (shows_next_lem cores) (unit_same t u (shown cores (unit_of t u)) s h) ∙ shown_shows cores (unit_of t u)
