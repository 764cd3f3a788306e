-- How long an expected line is with its end: each field is bounded by its greatest number, and the sums are those of the definitions.
-- The bound is reached.
use Prim.Native.Nat.{ℕ, ◌-◌, ◌≤◌, ◌<◌}
use mathlib.Core.Logic.{◌⊎◌, inl, inr}
use mathlib.Core.Path.{◌≡◌, refl}
use native.Mathlib.Omega.{arith}
use lib.ListN.{length, length-append}
use Rattle.ticket.specs.Kinds.{ticket, grant}
use Rattle.ticket.specs.declared.kinds.Ticket.{Ticket}
use Rattle.parts.specs.Answer.{number_of}
use Rattle.parts.specs.Range.{per_class}
use Rattle.parts.specs.Parts.{cores, units, core_no, unit_no}
use Rattle.parts.specs.declared.answer.Answer.{Answer}
use Rattle.parts.specs.declared.answer.Answer.TheVariants.{Done, Granted, NotYet, NoCore, NoUnit, WrongState, WrongClass, Masked, Stretched, Unsound, OutOfRange}
use Rattle.parts.specs.declared.answer.Grants.{Grants}
use Rattle.parts.specs.declared.answer.Grants.TheVariants.{None, One, Two}
use Rattle.numbers.specs.Number.{digits, decimal, number_most}
use Rattle.digits.proofs.Lengths.{decimal_most, decimal_one, decimal_two, decimal_five, decimal_seven}
use Rattle.expected.specs.Expected.{expected_most, grants_bytes, expected_bytes}

-- grants that a table can give: of two, the first's unit is of the first class
abbrev pub Placed : Grants → Type 0
Placed None = Unit {0}
Placed (One g) = (g.unit.0 < units) × (g.core.0 < cores)
Placed (Two g h) = (g.unit.0 < per_class) × (g.core.0 < cores) × (h.unit.0 < units) × (h.core.0 < cores)

number_two : (a : Answer) → length (decimal (number_of a)) ≤ 2
number_two Done = decimal_two 0 (omega arith)
number_two Granted = decimal_two 1 (omega arith)
number_two NotYet = decimal_two 2 (omega arith)
number_two NoCore = decimal_two 10 (omega arith)
number_two NoUnit = decimal_two 11 (omega arith)
number_two WrongState = decimal_two 12 (omega arith)
number_two WrongClass = decimal_two 13 (omega arith)
number_two Masked = decimal_two 14 (omega arith)
number_two Stretched = decimal_two 15 (omega arith)
number_two Unsound = decimal_two 16 (omega arith)
number_two OutOfRange = decimal_two 20 (omega arith)

grants_most : (g : Grants) → Placed g → length (grants_bytes g) ≤ 13
grants_most None h = omega (arith, decimal_one 0 (omega arith))
grants_most (One g) h =
    simp length-append
    (omega (
      arith,
      decimal_one 1 (omega arith),
      decimal_two g.unit.0 (omega arith),
      decimal_two g.core.0 (omega arith),
    ))
grants_most (Two g h) l =
    simp length-append
    (omega (
      arith,
      decimal_one 2 (omega arith),
      decimal_one g.unit.0 (omega arith),
      decimal_two g.core.0 (omega arith),
      decimal_two h.unit.0 (omega arith),
      decimal_two h.core.0 (omega arith),
    ))

-- and whatever the numbers are, each has at most ten digits
grants_bound : (g : Grants) → length (grants_bytes g) ≤ 55
grants_bound None = omega (arith, decimal_most 0)
grants_bound (One g) =
    simp length-append (omega (arith, decimal_most 1, decimal_most g.unit.0, decimal_most g.core.0))
grants_bound (Two g h) =
    simp length-append
    (omega (
      arith,
      decimal_most 2,
      decimal_most g.unit.0,
      decimal_most g.core.0,
      decimal_most h.unit.0,
      decimal_most h.core.0,
    ))

pub expected_bound : (i : ℕ) (a : Answer) (n : Ticket) (g : Grants) → length (expected_bytes i a n g) ≤ 88
expected_bound i a n g =
    simp length-append (omega (arith, decimal_most i, decimal_most (number_of a), decimal_most n.0, grants_bound g))

-- a line without grants may have an answer of two digits; one with grants has not
pub expected_most_lem :
    (i : ℕ) (a : Answer) (n : Ticket) (g : Grants) →
    i ≤ 1000000 →
    n.0 ≤ number_most →
    Placed g →
    (g ≡ None) ⊎ (number_of a ≤ 9) →
    length (expected_bytes i a n g) ≤ expected_most
expected_most_lem i a n g hi hn placed (inl e) =
    let bare : length (grants_bytes g) ≡ 2 = rw e (omega (arith, decimal_one 0 (omega arith))) in
    simp length-append (omega (arith, decimal_seven i hi, number_two a, decimal_five n.0 hn))
expected_most_lem i a n g hi hn placed (inr e) =
    simp length-append
    (omega (
      arith,
      decimal_seven i hi,
      decimal_one (number_of a) (omega arith),
      decimal_five n.0 hn,
      grants_most g placed,
    ))

-- the bound is reached, by two cores with numbers of two digits
pub expected_reached :
    length
    (expected_bytes 1000000 Done (ticket number_most)
    (Two (grant (unit_no (per_class - 1)) (core_no 10)) (grant (unit_no (units - 1)) (core_no 11))))
    ≡ expected_most
unfolding digits
expected_reached = refl
