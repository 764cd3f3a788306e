-- Detail: soundness as a record of named parts, as the proofs take it apart: the same clauses, each at every core or unit.
use Rattle.std.specs.Prelude.{ℕ, ◌<◌, true, ◌≡◌}
use Rattle.parts.specs.Parts.{cores, units}
use Rattle.parts.specs.Range.{in_range}
use Rattle.settling.specs.Shown.{shows_next_lem}
use Rattle.block.specs.Table.{core_of, unit_of, register_of}
use Rattle.block.specs.Sound as S
use Rattle.block.specs.declared.table.Table.{Table}

pub record CoreSound (t : Table) (k : ℕ) : Type 0 where
  pub within : S.within t k ≡ true
  pub suited : S.suited t (core_of t k) ≡ true
  pub idle_blank : S.idle_blank (core_of t k) ≡ true
  pub dropped_blank : S.dropped_blank (core_of t k) ≡ true
  pub named : S.named t (core_of t k) ≡ true
  pub recent : S.recent t (core_of t k) ≡ true
  pub differ : (j : ℕ) → j < cores → S.differ t k j ≡ true
  pub carries : S.carries t (core_of t k) ≡ true

pub record UnitSound (t : Table) (u : ℕ) : Type 0 where
  pub agrees : (k : ℕ) → k < cores → S.agrees (core_of t k) u (register_of t u k) ≡ true
  pub one_flag : S.one_flag (unit_of t u) ≡ true
  pub next : shows_next_lem cores (unit_of t u) ≡ true

pub record Sound (t : Table) : Type 0 where
  pub counts : in_range t.counts ≡ true
  pub core : (k : ℕ) → k < cores → CoreSound t k
  pub unit : (u : ℕ) → u < units → UnitSound t u
