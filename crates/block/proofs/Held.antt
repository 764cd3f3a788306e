-- The arrays of a table that a program holds have their lengths: owning the table tells so.
use Prim.Native.Nat.{ℕ, zero, suc, ◌<◌}
use mathlib.Core.List.{List, [], ◌∷◌}
use mathlib.Core.Path.{◌≡◌}
use native.Mathlib.Omega.{arith}
use denote.Array.{each}
use denote.Shadow.{shadow}
use mir.Val.{Val}
use lib.ListN.{length, get_or}
use Rattle.parts.specs.Parts.{cores, units, absent_unit}
use Rattle.block.specs.Table.{Shaped}
use Rattle.parts.specs.declared.kinds.LockUnit.{LockUnit}
use Rattle.block.specs.declared.table.Table.{Table}
use Rattle.parts.specs.contracts.kinds.LockUnit as U
use Rattle.block.specs.contracts.table.Table as T

-- a unit by itself
unit_long : (x : LockUnit) (vs : List Val) → shadow ((U.the_row).own_val x vs) → length x.registers ≡ cores
unit_long x vs h = h.1.1.0.1.0.1

-- each of some units
units_long :
    (xs : List LockUnit) (us : List Val) →
    shadow (each LockUnit (U.the_row).own_val xs us) →
    (u : ℕ) →
    u < length xs →
    length (get_or xs u absent_unit).registers ≡ cores
units_long [] us h u l = absurd (omega arith)
units_long (x ∷ xs) [] h u l = absurd h
units_long (x ∷ xs) (v ∷ us) h zero l = unit_long x (v ∷ []) h.0
units_long (x ∷ xs) (v ∷ us) h (suc u) l = units_long xs us h.1 u (omega arith)

pub held : (t : Table) (vs : List Val) → shadow ((T.the_field).row.own_val ((T.the_field).into t) vs) → Shaped t
held t vs h =
    let all : length t.units ≡ units = h.1.1.0.1.0.1 in
    record {
      cores_long = h.1.1.1.0.1.0.1;
      units_long = all;
      registers_long = λ u l. units_long t.units h.1.1.0.0 h.1.1.0.1.1 u (omega (arith, all));
    }
