-- "Sound. A table is sound when: .." The clauses stand in soundness: here the table is read for them.
use Rattle.std.specs.Prelude.{ℕ, Bool, ◌&&◌}
use Rattle.parts.specs.Fold.{every}
use Rattle.parts.specs.Parts.{cores, units}
use Rattle.parts.specs.Range.{in_range}
use Rattle.parts.specs.declared.kinds.Core.{Core}
use Rattle.soundness.specs.Agreement as A
use Rattle.soundness.specs.Sound as S
use Rattle.block.specs.Table.{core_of, unit_of}
use Rattle.block.specs.declared.table.Table.{Table}
-- what speaks of no table
pub use Rattle.soundness.specs.Agreement.{is_blank, shows, flagless, agrees, any_valid, one_flag}
pub use Rattle.soundness.specs.Sound.{idle_blank, dropped_blank, lends}

abbrev pub within : Table → ℕ → Bool
within t k = S.within t.counts k (core_of t k)

abbrev pub suited : Table → Core → Bool
suited t c = S.suited t.counts c

abbrev pub names : Table → Core → Bool → Bool
names t c two = S.names t.counts c two

abbrev pub named : Table → Core → Bool
named t c = S.named t.counts c

abbrev pub recent : Table → Core → Bool
recent t c = S.recent t.counter c

abbrev pub differ : Table → ℕ → ℕ → Bool
differ t k j = S.differ k (core_of t k) j (core_of t j)

abbrev pub inherits : Table → Core → Bool
inherits t c = S.inherits t.cores c

abbrev pub carries : Table → Core → Bool
carries t c = S.carries t.cores c

-- a core's clauses
abbrev pub core_sound : Table → ℕ → Bool
core_sound t k = S.core_sound t.counts t.counter t.cores k

-- a unit's clauses
abbrev pub unit_sound_lem : Table → ℕ → Bool
unit_sound_lem t u = A.unit_sound_lem t.cores u (unit_of t u)

unfoldable pub sound : Table → Bool
sound t = in_range t.counts && every (core_sound t) cores && every (unit_sound_lem t) units
