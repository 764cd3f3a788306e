-- What the comparison meets. Every ticket that a sound table shows or carries is the own ticket of a live core, so any two lie in the half
-- circle behind the counter and are not opposite; and the tickets of two registers of a unit differ, as do the own tickets of two cores.
use Prim.Native.Nat.{ℕ, ◌<◌}
use mathlib.Core.Bool.{true, not}
use mathlib.Core.Logic.{◌≢◌}
use mathlib.Core.Path.{◌≡◌, sym, ◌∙◌, ap}
use Rattle.ticket.specs.Order.{compare}
use Rattle.ticket.specs.declared.order.Comparison.TheVariants.{Opposite}
use Rattle.parts.specs.Fold.{some}
use Rattle.parts.specs.State.{two_stage_lem}
use Rattle.parts.specs.Parts.{cores}
use Rattle.block.specs.Table.{core_of, register_of}
use Rattle.block.specs.Sound as S
use Rattle.block.specs.declared.table.Table.{Table}
use Rattle.ticket.proofs.Laws.{never_opposite}
use Rattle.settling.proofs.Picking.{ordered}
use Rattle.parts.proofs.Bools.{and_both, clash}
use Rattle.parts.proofs.Folds.{some_at}
use Rattle.block.proofs.Parts.{parts}
use Rattle.laws.specs.Claims.{PickingOrdered, InheritingOrdered}
use Rattle.block.proofs.Columns.{lent, sound_almost, differ_apart}
use Rattle.block.proofs.Kept.{names_two, first_place, first_flag, recent_window, live_window, two_stage_lem_lem, in_line_waits}
use Rattle.block.proofs.Suited.{unserved_live, two_undropped}
use Rattle.block.proofs.Oldest.{shown_apart, shown_recent}

pub picking_ordered : PickingOrdered
picking_ordered t u i k ok fits place h l d v w =
    let a = sound_almost t (parts t ok) in
    ordered t.counter.0 (register_of t u i).ticket.0 (register_of t u k).ticket.0 (shown_recent t a u place i h v)
    (shown_recent t a u place k l w)
    (shown_apart t a u place i k h l d v w)

-- a register in line at a first-class unit shows the own ticket of a live core, which is another than the one that holds the unit
pub inheriting_ordered : InheritingOrdered
inheriting_ordered t i k ok fits h l two v clear =
    let s = parts t ok in
    let c = core_of t k in
    let d = core_of t i in
    let z = two_stage_lem_lem c.state two in
    let low = (names_two t c (simp (z.busy, two) at (s.core k l).named)).first in
    let r = register_of t c.first.0 i in
    let place = first_place t (sound_almost t s) k l z.busy in
    let w = in_line_waits t d c.first.0 r low (s.core i h).named ((s.unit c.first.0 place).agrees i h) (and_both v (ap not clear)) in
    let other : i ≢ k = λ q.
    clash (first_flag t (sound_almost t s) k l two) (ap (λ (j : ℕ). (register_of t c.first.0 j).flag) (sym q) ∙ clear) in
    rw w.own at
    (ordered t.counter.0 d.own.0 c.own.0 (live_window t s i h w.live) (live_window t s k l z.live)
    (differ_apart t i k other ((s.core i h).differ k l) w.live z.live))

-- Of any table whose states are its profile's: where all live tickets lie in the window, no ticket lent to a core with a second unit is opposite to the
-- own one. So it makes no table sound or unsound what the clause about carried tickets says of Opposite.
pub lent_ordered :
    (t : Table) →
    ((j : ℕ) → j < cores → S.suited t (core_of t j) ≡ true) →
    ((j : ℕ) → j < cores → S.recent t (core_of t j) ≡ true) →
    (k : ℕ) →
    k < cores →
    two_stage_lem (core_of t k).state ≡ true →
    some (λ (j : ℕ). S.lends (core_of t k) (core_of t j)) cores ≡ true →
    compare (core_of t k).carried.0 (core_of t k).own.0 ≢ Opposite
lent_ordered t suited recent k h two some-lends =
    let c = core_of t k in
    let j = some_at (λ (j : ℕ). S.lends c (core_of t j)) cores some-lends in
    let d = core_of t j.0 in
    let l = lent c d j.2 in
    let live =
    unserved_live d.state l.unserved (two_undropped t.counts.profile c.state d.state (suited k h) two (suited j.0 j.1)) in
    let wd = rw l.own at (recent_window t d live (recent j.0 j.1)) in
    never_opposite t.counter.0 c.carried.0 c.own.0 wd (recent_window t c (two_stage_lem_lem c.state two).live (recent k h))
