-- The last of a unit's clauses compares what it shows with what its registers ask for, field by field.
use mathlib.Core.Bool.{◌&&◌}
use Prim.Native.Nat.{ℕ}
use lib.ListN.{get_or}
use Rattle.parts.specs.Fold.{every}
use Rattle.parts.specs.Parts.{cores, idle, register_in, showing}
use Rattle.parts.proofs.Bools.{and_right}
use Rattle.settling.specs.Shown.{next_of}
use Rattle.settling.proofs.NextInLine.{same_is}
use Rattle.soundness.specs.Agreement.{agrees, one_flag, unit_sound_lem}
use Rattle.soundness.specs.Claims.{NextAsked}

pub next_asked : NextAsked
unfolding unit_sound_lem
next_asked all u x v ok =
    same_is v (next_of cores x) (and_right (every (λ (k : ℕ). agrees (get_or all k idle) u (register_in x k)) cores && one_flag (showing x v)) _ ok)
