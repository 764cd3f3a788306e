-- "A new part has 32 cores. .. 20 now starts at 33 cores." "First-class units 1 to 8; second-class units 0 to 8."
-- "20 for `D` with second-class units."
use Rattle.std.specs.Prelude.{ℕ, Bool, ◌&&◌, ◌||◌, not, leb, eqb}
use Rattle.parts.specs.Parts.{cores}
use Rattle.parts.specs.Profile.{dequeues}
use Rattle.parts.specs.declared.kinds.Counts.{Counts}
use Rattle.parts.specs.declared.kinds.Profile.{Profile}

-- the greatest number of units of one class
abbrev pub per_class : ℕ
per_class = 8

-- a profile that can have n second-class units
abbrev pub classed : Profile → ℕ → Bool
classed p n = not (dequeues p) || eqb n 0

abbrev pub in_range : Counts → Bool
in_range c =
    leb 1 c.cores &&
    leb c.cores cores &&
    leb 1 c.first &&
    leb c.first per_class &&
    leb c.second per_class &&
    classed c.profile c.second
