-- How long a script line and the output's first line are with their end: each field is bounded by its greatest number, and the sums
-- are those of the definitions. A header reaches the bound; a step line has a byte less.
use Prim.Native.Nat.{ℕ, ◌≤◌}
use mathlib.Core.Bool.{true}
use mathlib.Core.Path.{◌≡◌, refl}
use native.Mathlib.Omega.{arith}
use lib.ListN.{length, length-append}
use Rattle.ticket.specs.Kinds.{ticket}
use Rattle.ticket.specs.declared.kinds.Ticket.{Ticket}
use Rattle.parts.proofs.Ranging.{cores_few, first_few, second_few}
use Rattle.parts.specs.Range.{in_range, per_class}
use Rattle.parts.specs.Parts.{cores}
use Rattle.parts.specs.declared.kinds.Counts.{Counts}
use Rattle.parts.specs.declared.kinds.Fill.TheVariants.{Blank}
use Rattle.parts.specs.declared.kinds.Profile.TheVariants.{T}
use Rattle.parts.specs.declared.answer.Step.{Step}
use Rattle.parts.specs.declared.answer.Step.TheVariants.{R, N, P, I, C, L}
use Rattle.lines.specs.Bytes.{line_most}
use Rattle.lines.proofs.Letters.{letter_r, letter_n, letter_p, letter_i, letter_c, letter_l}
use Rattle.numbers.specs.Number.{digits, number_most}
use Rattle.digits.proofs.Lengths.{decimal_one, decimal_two, decimal_five}
use Rattle.writing.specs.Writing.{lettered, lettered2, numbers_of, step_bytes, header_bytes, script_header}
use Rattle.writing.specs.Claims.{Small}

lettered_most : (letter k : ℕ) → k ≤ number_most → length (lettered letter k) ≤ line_most
lettered_most letter k h = simp length-append (omega (arith, decimal_five k h))

lettered2_most : (letter k u : ℕ) → k ≤ number_most → u ≤ number_most → length (lettered2 letter k u) ≤ line_most
lettered2_most letter k u h l = simp length-append (omega (arith, decimal_five k h, decimal_five u l))

pub step_most : (s : Step) → Small (numbers_of s) → length (step_bytes s) ≤ line_most
step_most (R k u) h = lettered2_most letter_r k.0 u.0 h.0 h.1.0
step_most (N k u) h = lettered2_most letter_n k.0 u.0 h.0 h.1.0
step_most (P k) h = lettered_most letter_p k.0 h.0
step_most (I k) h = lettered_most letter_i k.0 h.0
step_most (C k) h = lettered_most letter_c k.0 h.0
step_most (L k) h = lettered_most letter_l k.0 h.0

pub header_most :
    (letter : ℕ) (c : Counts) (n : Ticket) →
    in_range c ≡ true →
    n.0 ≤ number_most →
    length (header_bytes letter c n) ≤ line_most
header_most letter c n fine h =
    let few = cores_few c fine in
    let first = first_few c fine in
    let second = second_few c fine in
    simp length-append
    (omega (
      arith,
      decimal_two c.cores (omega arith),
      decimal_one c.first (omega arith),
      decimal_one c.second (omega arith),
      decimal_five n.0 h,
    ))

-- the bound is reached
pub header_reached :
    length (script_header (record { cores = cores; first = per_class; second = per_class; profile = T; fill = Blank }) (ticket number_most)) ≡ line_most
unfolding digits
header_reached = refl
