-- A table that a program holds is `Held`: owning it tells the lengths of its arrays, and that its tickets have sixteen bits.
use Prim.Native.Nat.{ℕ, zero, suc, ◌<◌}
use mathlib.Core.List.{List, [], ◌∷◌}
use native.Mathlib.Omega.{arith}
use denote.Array.{each}
use denote.Shadow.{shadow}
use mir.Val.{Val}
use lib.ListN.{get_or}
use Rattle.ticket.specs.Order.{circle}
use Rattle.ticket.specs.declared.kinds.Ticket.{Ticket}
use Rattle.parts.specs.Parts.{idle}
use Rattle.parts.specs.declared.kinds.Core.{Core}
use Rattle.block.specs.declared.table.Table.{Table}
use Rattle.block.proofs.Held.{held}
use Rattle.room.specs.Claims.{Held}
use Rattle.ticket.specs.contracts.kinds.Ticket as N
use Rattle.parts.specs.contracts.kinds.Core as C
use Rattle.block.specs.contracts.table.Table as T

ticket_small : (n : Ticket) (vs : List Val) → shadow ((N.the_row).own_val n vs) → n.0 < circle
ticket_small n vs h = h.1.1.0.1

core_small : (x : Core) (vs : List Val) → shadow ((C.the_row).own_val x vs) → (x.own.0 < circle) × (x.carried.0 < circle)
core_small x vs h = (ticket_small x.own h.0.0 h.1.1.0, ticket_small x.carried h.0.1.0 h.1.1.1.0)

cores_small :
    (xs : List Core) (us : List Val) →
    shadow (each Core (C.the_row).own_val xs us) →
    (k : ℕ) →
    ((get_or xs k idle).own.0 < circle) × ((get_or xs k idle).carried.0 < circle)
cores_small [] us h k = (omega arith, omega arith)
cores_small (x ∷ xs) [] h k = absurd h
cores_small (x ∷ xs) (v ∷ us) h zero = core_small x (v ∷ []) h.0
cores_small (x ∷ xs) (v ∷ us) h (suc k) = cores_small xs us h.1 k

pub holding : (t : Table) (vs : List Val) → shadow ((T.the_field).row.own_val ((T.the_field).into t) vs) → Held t
holding t vs h =
    let cs = cores_small t.cores h.1.1.1.0.0 h.1.1.1.0.1.1 in
    record {
      shaped = held t vs h;
      counter = ticket_small t.counter h.0.1.1.1.0 h.1.1.1.1.1.0;
      own = λ k. (cs k).0;
      carried = λ k. (cs k).1;
    }
