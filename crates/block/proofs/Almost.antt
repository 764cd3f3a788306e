-- What a table is between a step's moves and its settling: sound but for units that have a valid register and no flag yet.
use Prim.Native.Nat.{ℕ, ◌<◌, ◌≤◌}
use mathlib.Core.Bool.{true}
use mathlib.Core.Path.{◌≡◌}
use Rattle.parts.specs.Parts.{cores, units}
use Rattle.block.specs.Table.{core_of, unit_of, register_of}
use Rattle.parts.specs.Range.{in_range}
use Rattle.settling.specs.Line.{flags}
use Rattle.block.specs.Sound as S
use Rattle.block.specs.Parts.{CoreSound}
use Rattle.block.specs.declared.table.Table.{Table}

pub record Almost (t : Table) : Type 0 where
  pub counts : in_range t.counts ≡ true
  pub core : (k : ℕ) → k < cores → CoreSound t k
  pub agrees : (u : ℕ) → u < units → (k : ℕ) → k < cores → S.agrees (core_of t k) u (register_of t u k) ≡ true
  pub few : (u : ℕ) → u < units → flags cores (unit_of t u) ≤ 1
