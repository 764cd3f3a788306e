-- What the question of 15 may take for granted of a sound table: a live ticket lies within the half circle behind the counter.
use Prim.Native.Nat.{◌≤◌}
use mathlib.Core.Bool.{true}
use mathlib.Core.Path.{◌≡◌}
use native.Mathlib.Omega.{arith}
use Rattle.parts.specs.Parts.{cores}
use Rattle.refusals.specs.Tickets.{Recent}
use Rattle.block.specs.Sound.{sound}
use Rattle.block.specs.declared.table.Table.{Table}
use Rattle.block.proofs.Parts.{parts}
use Rattle.block.proofs.Kept.{live_window}

pub recent_all : (t : Table) → sound t ≡ true → t.counts.cores ≤ cores → Recent t.counter t.cores t.counts.cores
recent_all t e few k h live = live_window t (parts t e) k (omega (arith, h, few)) live
