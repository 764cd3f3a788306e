-- A line of a captured log: "the script line's fields, then answer, ticket, number of grants, and unit and core of each grant, as the part showed
-- them". "No log line passes 62 bytes with its end." "Lines and fields count from 1; the letter is field 1."
use Rattle.std.specs.Prelude.{ℕ, zero, suc, ◌+◌, ◌-◌, cond, List, [], ◌∷◌, ◌⊎◌, eqb, leb, length, get_or}
use Rattle.std.specs.Prelude.{Option, Some}
use Rattle.std.specs.declared.option.Option.TheVariants as option
use Rattle.std.proofs.Common.{inl, inr, ⊎_elim}
use Rattle.ticket.specs.declared.kinds.Ticket.{Ticket}
use Rattle.parts.specs.Answer.{number_of}
use Rattle.parts.specs.declared.answer.Answer.{Answer}
use Rattle.parts.specs.declared.answer.Step.{Step}
use Rattle.parts.specs.declared.answer.Grants.{Grants}
use Rattle.parts.specs.declared.answer.Grants.TheVariants.{None, One, Two}
use Rattle.numbers.specs.Bytes.{tab}
use Rattle.numbers.specs.Number.{field}
use Rattle.numbers.specs.Field.{Bad, Last, Then}
use Rattle.lines.specs.Reading.{one_number, two_numbers_lem}
use Rattle.lines.specs.Parsed.{Parsed}
use Rattle.lines.specs.Parsed.{Good, Not}
use Rattle.loglines.specs.declared.seen.Off.{Off}

-- a field's number, or that there is no such field
abbrev pub Seen : Type 0
Seen = Option ℕ

pattern abbrev pub Missing : Seen
Missing = option.None

pattern abbrev pub Number : ℕ → Seen
Number n = Some n

-- the longest log line, with its end
abbrev pub log_most : ℕ
log_most = 62

-- the numbers of a line's fields from byte i on, at most f of them; nothing if one is no number
unfoldable pub numbers_from_lem : ℕ → List ℕ → ℕ → List ℕ ⊎ Unit {0}
numbers_from_lem zero s i = inr tt
numbers_from_lem (suc f) s i =
    elim (field s i) [ Bad ↦ inr tt | Last n ↦ inl (n ∷ []) | Then n j ↦ ⊎_elim (λ (ns : List ℕ). inl (n ∷ ns)) inr (numbers_from_lem f s j) ]

-- a step and the numbers shown behind it
pub record Shown : Type 0 where
  pub step : Step
  pub shown : List ℕ

-- the step, if the letter and its numbers are one
abbrev pub shown_after : Parsed → List ℕ → Shown ⊎ Unit {0} → Shown ⊎ Unit {0}
shown_after p ns other = elim p [ Good x ↦ inl (record { step = x; shown = ns }) | Not ↦ other ]

-- "the step part (as many fields as its letter has)": one number, or two
abbrev pub step_part : ℕ → List ℕ → Shown ⊎ Unit {0}
step_part letter [] = inr tt
step_part letter (k ∷ []) = shown_after (one_number letter k) [] (inr tt)
step_part letter (k ∷ u ∷ ns) = shown_after (one_number letter k) (u ∷ ns) (shown_after (two_numbers_lem letter k u) ns (inr tt))

-- the bytes of a line, without its end
abbrev pub parse_log : List ℕ → Shown ⊎ Unit {0}
parse_log s = cond (eqb (get_or s 1 0) tab) (⊎_elim (step_part (get_or s 0 0)) inr (numbers_from_lem (length s) s 2)) (inr tt)

-- what the rules give for a step: answer, ticket, number of grants, and unit and core of each
abbrev pub grants_given : Grants → List ℕ
grants_given None = 0 ∷ []
grants_given (One g) = 1 ∷ g.unit.0 ∷ g.core.0 ∷ []
grants_given (Two g h) = 2 ∷ g.unit.0 ∷ g.core.0 ∷ h.unit.0 ∷ h.core.0 ∷ []

abbrev pub given_by : Answer → Ticket → Grants → List ℕ
given_by a n g = number_of a ∷ n.0 ∷ grants_given g

-- "the first field that is off": 0 if none is, else its place among the numbers shown, from 1
abbrev pub one_on_lem : ℕ → ℕ
one_on_lem n = cond (eqb n 0) 0 (n + 1)

unfoldable pub first_off : List ℕ → List ℕ → ℕ
first_off [] [] = 0
first_off [] (e ∷ es) = 1
first_off (r ∷ rs) [] = 1
first_off (r ∷ rs) (e ∷ es) = cond (eqb r e) (let more = one_on_lem (first_off rs es) in more) 1

-- the number at a place of a list, from 1
abbrev pub seen_at : List ℕ → ℕ → Seen
seen_at ns place = cond (leb place (length ns)) (Number (get_or ns (place - 1) 0)) Missing

-- the field that is off, behind the letter and so many numbers of the step
abbrev pub off_at : ℕ → ℕ → List ℕ → List ℕ → Off
off_at numbers place shown given = record { field = 1 + numbers + place; place = place; shown = seen_at shown place; given = seen_at given place }
