-- The clauses, each as its function gives it.
use mathlib.Core.Bool.{Bool, ◌&&◌}
use mathlib.Core.Path.{◌≡◌}
use Rattle.parts.specs.Fold.{every}
use Rattle.parts.specs.Parts.{cores, units}
use Rattle.parts.specs.Range.{in_range}
use Rattle.block.specs.Sound.{core_sound, unit_sound_lem, sound}
use Rattle.block.specs.declared.table.Table.{Table}
use Rattle.parts.proofs.Bools.{both}
use Rattle.block.proofs.table.Table.sound.Goals as goal

joined :
    (t : Table) (a b d : Bool) →
    a ≡ in_range t.counts →
    b ≡ every (core_sound t) cores →
    d ≡ every (unit_sound_lem t) units →
    (a && b && d) ≡ sound t
unfolding sound
joined t a b d counts core unit = both (both counts core) unit

pub returns : goal.returns
returns c = search joined
