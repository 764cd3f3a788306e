-- A line at a place: where it ends it lies within the bytes, and one that is too long is wrong.
use Prim.Native.Nat.{ℕ, ◌-◌, ◌≤◌, ◌<◌}
use mathlib.Core.List.{List}
use mathlib.Core.Path.{◌≡◌, sym, ◌∙◌}
use native.Mathlib.Omega.{arith}
use lib.ListN.{length, take, drop, length-drop}
use Rattle.lines.specs.Reading.{ending}
use Rattle.lines.specs.Ending.{Ending}
use Rattle.lines.specs.Ending.{At, Long, Short}
use Rattle.lines.proofs.Turns.{found}
use Rattle.std.specs.Prelude.{Err}
use Rattle.faults.specs.Fault.{Found, NoFault, line_fault, most, too_long}
use Rattle.faults.specs.declared.fault.Form.{Form}

pub ends_within : (s : List ℕ) (at m : ℕ) (w : Ending) → w ≡ ending m at (drop at s) → (e : ℕ) → w ≡ At e → (at ≤ e) × (e < length s)
ends_within s at m w says e is =
    let z = found m at e (drop at s) (sym says ∙ is) in
    let l = length-drop at s in
    (omega arith, omega arith)

-- the line at a place, by where it ends
abbrev pub fault_to : Form → List ℕ → ℕ → Ending → Found
fault_to form s at found = elim found [ At e ↦ line_fault form (take (e - at) (drop at s)) | Long ↦ Err (too_long (most form) s at) | Short ↦ NoFault ]
