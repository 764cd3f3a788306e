-- A line that is read ends past its start and within the script.
use Prim.Native.Nat.{ℕ, ◌+◌, ◌-◌, ◌≤◌, ◌<◌}
use mathlib.Core.Bool.{Bool, true, false, cond}
use mathlib.Core.List.{List}
use mathlib.Core.Path.{◌≡◌, refl, subst}
use native.Mathlib.Omega.{arith}
use lib.Dec.{leb}
use lib.ListN.{length, take, drop}
use borrow.Author.Tests.{leb-false}
use Rattle.ticket.specs.declared.kinds.Ticket.{Ticket}
use Rattle.parts.specs.Range.{in_range}
use Rattle.parts.specs.declared.answer.Step.{Step}
use Rattle.parts.specs.declared.kinds.Counts.{Counts}
use Rattle.lines.specs.Reading.{line_end_lem, parse_step_lem, step_line_lem, read_step}
use Rattle.headers.specs.Header.{parse_header_lem, header_line, read_header}
use Rattle.lines.specs.Ending.{Ending, At, Long, Short}
use Rattle.lines.specs.Parsed.{Parsed, Good, Not}
use Rattle.headers.specs.ParsedHeader.{ParsedHeader, Good as GoodHeader, Not as NotHeader}
use Rattle.lines.specs.StepLine.{StepLine, Line, Finished as Nothing, Malformed as NoStep, Unfinished as Cut}
use Rattle.headers.specs.HeaderLine.{HeaderLine, Header, BadHeader as NoHeader, Unfinished as CutHeader}
use Rattle.lines.proofs.Turns.{step_to, found_within}
use Rattle.headers.proofs.Numbers.{header_to}

-- Where a line that is read ends

module _ (s : List ℕ) (at : ℕ) where
  abbrev LineWithin : StepLine → Type 0
  LineWithin (Line x next) = (at < next) × (next ≤ length s)
  LineWithin Nothing = Unit
  LineWithin NoStep = Unit
  LineWithin Cut = Unit

  abbrev HeaderWithin : HeaderLine → Type 0
  HeaderWithin (Header c n next) = (at < next) × (next ≤ length s)
  HeaderWithin NoHeader = Unit
  HeaderWithin CutHeader = Unit

  step_to_within : at < length s → (w : Ending) → line_end_lem s at ≡ w → LineWithin (step_to s at w)
  step_to_within h (At e) is = go (parse_step_lem (take (e - at) (drop at s)))
    where
      go : (r : Parsed) → LineWithin (step_line_lem r (e + 1))
      go (Good x) = let w = found_within s at e (line_end_lem s at) h refl is in (omega arith, omega arith)
      go Not = tt
  step_to_within h Long is = tt
  step_to_within h Short is = tt

  header_to_within : at < length s → (w : Ending) → line_end_lem s at ≡ w → HeaderWithin (header_to s at w)
  header_to_within h (At e) is = go (parse_header_lem (take (e - at) (drop at s)))
    where
      ranged : (c : Counts) (n : Ticket) (t : Bool) → HeaderWithin (cond t (Header c n (e + 1)) NoHeader)
      ranged c n true = let w = found_within s at e (line_end_lem s at) h refl is in (omega arith, omega arith)
      ranged c n false = tt

      go : (r : ParsedHeader) → HeaderWithin (header_line r (e + 1))
      go (GoodHeader c n) = ranged c n (in_range c)
      go NotHeader = tt
  header_to_within h Long is = tt
  header_to_within h Short is = tt

  line_within : LineWithin (read_step s at)
  line_within = go (leb (length s) at) refl
    where
      go : (t : Bool) → leb (length s) at ≡ t → LineWithin (cond t Nothing (step_to s at (line_end_lem s at)))
      go true e = tt
      go false e = step_to_within (leb-false (length s) at e) (line_end_lem s at) refl

  head_within : HeaderWithin (read_header s at)
  head_within = go (leb (length s) at) refl
    where
      go : (t : Bool) → leb (length s) at ≡ t → HeaderWithin (cond t CutHeader (header_to s at (line_end_lem s at)))
      go true e = tt
      go false e = header_to_within (leb-false (length s) at e) (line_end_lem s at) refl

  pub read_within : (x : Step) (next : ℕ) → read_step s at ≡ Line x next → (at < next) × (next ≤ length s)
  read_within x next e = subst LineWithin e line_within

  pub header_within : (c : Counts) (n : Ticket) (next : ℕ) → read_header s at ≡ Header c n next → (at < next) × (next ≤ length s)
  header_within c n next e = subst HeaderWithin e head_within
