-- Reading a table after a change: at the changed core or register the new one stands, and everywhere else what stood there.
use Prim.Native.Nat.{ℕ, ◌<◌}
use mathlib.Core.Logic.{◌⊎◌, inl, inr, ◌≢◌}
use mathlib.Core.Path.{◌≡◌, ◌∙◌, ap}
use lib.ListN.{length, length-set}
use lib.Seq.{get_or-set_same, get_or-set_other}
use Rattle.ticket.specs.declared.kinds.Ticket.{Ticket}
use Rattle.parts.specs.Parts.{cores, units, blank, idle, absent_unit, register_in, registered}
use Rattle.block.specs.Table.{core_of, unit_of, register_of, with_unit, with_register, with_core, with_counter_lem, Shaped}
use Rattle.parts.specs.declared.kinds.Register.{Register}
use Rattle.parts.specs.declared.kinds.LockUnit.{LockUnit}
use Rattle.parts.specs.declared.kinds.Core.{Core}
use Rattle.block.specs.declared.table.Table.{Table}
use Rattle.parts.proofs.Along.{same_or_not}

module _ (t : Table) where
  pub core_same : (k : ℕ) (c : Core) → Shaped t → k < cores → core_of (with_core t k c) k ≡ c
  core_same k c s h = get_or-set_same t.cores k c idle (rw s.cores_long h)

  pub core_other : (k j : ℕ) (c : Core) → j ≢ k → core_of (with_core t k c) j ≡ core_of t j
  core_other k j c d = get_or-set_other t.cores k j c idle d

  pub unit_same : (u : ℕ) (x : LockUnit) → Shaped t → u < units → unit_of (with_unit t u x) u ≡ x
  unit_same u x s h = get_or-set_same t.units u x absent_unit (rw s.units_long h)

  pub unit_other : (u v : ℕ) (x : LockUnit) → v ≢ u → unit_of (with_unit t u x) v ≡ unit_of t v
  unit_other u v x d = get_or-set_other t.units u v x absent_unit d

  module _ (u k : ℕ) (r : Register) where
    abbrev new : LockUnit
    new = registered (unit_of t u) k r

    pub register_same : Shaped t → u < units → k < cores → register_of (with_register t u k r) u k ≡ r
    register_same s h l =
        ap (λ (x : LockUnit). register_in x k) (unit_same u new s h) ∙
        get_or-set_same (unit_of t u).registers k r blank (rw (s.registers_long u h) l)

    -- at another core of the same unit
    pub register_core : (j : ℕ) → Shaped t → u < units → j ≢ k → register_of (with_register t u k r) u j ≡ register_of t u j
    register_core j s h d =
        ap (λ (x : LockUnit). register_in x j) (unit_same u new s h) ∙
        get_or-set_other (unit_of t u).registers k j r blank d

    -- at another unit
    pub register_unit : (v j : ℕ) → v ≢ u → register_of (with_register t u k r) v j ≡ register_of t v j
    register_unit v j d =
        ap (λ (x : LockUnit). register_in x j) (unit_other u v new d)

    pub shaped_register : Shaped t → u < units → Shaped (with_register t u k r)
    shaped_register s h =
        record {
          cores_long = s.cores_long;
          units_long = length-set t.units u _ ∙ s.units_long;
          registers_long = λ v l. go v l (same_or_not v u);
        }
      where
        go : (v : ℕ) → v < units → (v ≡ u) ⊎ (v ≢ u) → length (unit_of (with_register t u k r) v).registers ≡ cores
        go v l (inl e) =
            ap (λ (w : ℕ). length (unit_of (with_register t u k r) w).registers) e ∙
            ap (λ (x : LockUnit). length x.registers) (unit_same u new s h) ∙
            length-set (unit_of t u).registers k r ∙
            s.registers_long u h
        go v l (inr d) =
            ap (λ (x : LockUnit). length x.registers) (unit_other u v new d) ∙
            s.registers_long v l

  pub shaped_core : (k : ℕ) (c : Core) → Shaped t → Shaped (with_core t k c)
  shaped_core k c s =
      record {
        cores_long = length-set t.cores k c ∙ s.cores_long;
        units_long = s.units_long;
        registers_long = s.registers_long;
      }

  pub shaped_counter : (n : Ticket) → Shaped t → Shaped (with_counter_lem t n)
  shaped_counter n s =
      record { cores_long = s.cores_long; units_long = s.units_long; registers_long = s.registers_long }
