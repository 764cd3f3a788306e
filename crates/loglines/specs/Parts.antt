-- Detail: a line by its parts, as the code reads it: the step part, and the numbers behind it from a place on. That this is the line as
-- it is read are the laws of proofs/Parts.
use Rattle.std.specs.Prelude.{ℕ, ◌+◌, Bool, true, false, cond, List, [], ◌⊎◌, eqb, length, get_or}
use Rattle.std.specs.Prelude.{Option, Some, None, Result, Ok, Err, ⊤}
use Rattle.std.proofs.Common.{inl, ⊎_elim}
use Rattle.parts.specs.declared.answer.Step.{Step}
use Rattle.numbers.specs.Bytes.{tab}
use Rattle.numbers.specs.Number.{field}
use Rattle.numbers.specs.Field.{Field}
use Rattle.numbers.specs.Field.{Bad, Last, Then}
use Rattle.lines.specs.Reading.{one_number, two_numbers_lem}
use Rattle.lines.specs.Parsed.{Parsed}
use Rattle.lines.specs.Parsed.{Good, Not as NoStep}
use Rattle.loglines.specs.Log.{Seen, Missing, Number, numbers_from_lem, first_off, off_at}
use Rattle.loglines.specs.declared.line.Mismatch.{Mismatch}
use Rattle.loglines.specs.declared.line.Mismatch.TheVariants as mismatch
use Rattle.loglines.specs.declared.seen.Off.{Off}

-- a step of so many numbers, and the place of the field behind it, if there is one; or no step
abbrev pub Part : Type 0
Part = Option (Step × ℕ × Option ℕ)

pattern abbrev pub Begins : Step → ℕ → Option ℕ → Part
Begins x n from = Some (x, n, from)

pattern abbrev pub Not : Part
Not = None

-- what the numbers behind a step part come to: one is none, 21; the first that is off; all as given
abbrev pub Judged : Type 0
Judged = Result ⊤ Mismatch

pattern abbrev pub Malformed : Judged
Malformed = Err mismatch.Malformed

pattern abbrev pub Disagrees : Off → Judged
Disagrees o = Err (mismatch.Disagrees o)

pattern abbrev pub Agrees : Judged
Agrees = Ok tt

abbrev pub part_of : Parsed → ℕ → Option ℕ → Part
part_of p n from = elim p [ Good x ↦ Begins x n from | NoStep ↦ Not ]

-- the letter with its core's number is no step: with the unit's
abbrev pub part_two : ℕ → ℕ → Field → Part
part_two letter k f = elim f [ Bad ↦ Not | Last u ↦ part_of (two_numbers_lem letter k u) 2 None | Then u j ↦ part_of (two_numbers_lem letter k u) 2 (Some j) ]

abbrev pub part_longer : List ℕ → ℕ → ℕ → ℕ → Part
part_longer s letter k i = elim (one_number letter k) [ Good x ↦ Begins x 1 (Some i) | NoStep ↦ part_two letter k (field s i) ]

abbrev pub part_after : List ℕ → ℕ → Field → Part
part_after s letter f = elim f [ Bad ↦ Not | Last k ↦ part_of (one_number letter k) 1 None | Then k i ↦ part_longer s letter k i ]

-- the step part of a line without its end
abbrev pub part_in : List ℕ → Part
part_in s = cond (eqb (get_or s 1 0) tab) (part_after s (get_or s 0 0) (field s 2)) Not

-- the numbers from a place on, if there is one
abbrev pub rest_from : List ℕ → Option ℕ → List ℕ ⊎ Unit {0}
rest_from s from = elim from [ None ↦ inl [] | Some i ↦ numbers_from_lem (length s) s i ]

abbrev pub are_numbers : List ℕ ⊎ Unit {0} → Bool
are_numbers w = ⊎_elim (λ (ns : List ℕ). true) (λ (x : Unit {0}). false) w

abbrev pub is_missing : Seen → Bool
is_missing s = elim s [ Missing ↦ true | Number n ↦ false ]

-- the field at a place behind a step part of n numbers is off
abbrev pub off_by : ℕ → ℕ → Seen → Seen → Judged
off_by n place shown given = Disagrees (record { field = 1 + n + place; place = place; shown = shown; given = given })

-- no number is left at a place where this is given
abbrev pub ended_at : ℕ → ℕ → Seen → Judged
ended_at n place given = cond (is_missing given) Agrees (off_by n place Missing given)

-- what the numbers behind a step part of n numbers come to
abbrev pub judged_by : ℕ → List ℕ → List ℕ → Judged
judged_by n ns gs = cond (eqb (first_off ns gs) 0) Agrees (Disagrees (off_at n (first_off ns gs) ns gs))

abbrev pub judged_in : List ℕ → ℕ → Option ℕ → List ℕ → Judged
judged_in s n from gs = ⊎_elim (λ (ns : List ℕ). judged_by n ns gs) (λ (x : Unit {0}). Malformed) (rest_from s from)
