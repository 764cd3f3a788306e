-- A line that is read stands there as well when more bytes follow the script; and with bytes put before the script it is read the same,
-- its places moved on by their number. A line's end is found byte by byte, and neither change touches the bytes up to it.
use Prim.Native.Nat.{ℕ, zero, suc, ◌+◌, ◌-◌, ◌<◌}
use mathlib.Core.Bool.{Bool, true, false, cond}
use mathlib.Core.List.{List, [], ◌∷◌, ◌++◌}
use mathlib.Core.Path.{◌≡◌, refl, ◌∙◌, ap, subst}
use native.Mathlib.Omega.{arith}
use lib.Dec.{eqb, leb}
use lib.ListN.{length, take, drop, length-append, length-drop}
use lib.Seq.{drop-append-le, drop-append-add, take-append-le}
use borrow.Author.Tests.{leb-true, leb-false, le-leb, lt-leb}
use Rattle.ticket.specs.declared.kinds.Ticket.{Ticket}
use Rattle.parts.specs.Range.{in_range}
use Rattle.parts.specs.declared.answer.Step.{Step}
use Rattle.parts.specs.declared.kinds.Counts.{Counts}
use Rattle.numbers.specs.Bytes.{end}
use Rattle.lines.specs.Bytes.{line_most}
use Rattle.lines.specs.Reading.{ending, line_end_lem, parse_step_lem, step_line_lem, read_step}
use Rattle.headers.specs.Header.{parse_header_lem, header_line, read_header}
use Rattle.lines.specs.Ending.{Ending, At, Long, Short}
use Rattle.lines.specs.Parsed.{Parsed, Good, Not}
use Rattle.headers.specs.ParsedHeader.{ParsedHeader, Good as GoodHeader, Not as NotHeader}
use Rattle.lines.specs.StepLine.{StepLine, Line, Finished as Nothing, Malformed as NoStep, Unfinished as Cut}
use Rattle.headers.specs.HeaderLine.{HeaderLine, Header, BadHeader as NoHeader, Unfinished as CutHeader}
use Rattle.lines.proofs.Turns.{step_to, found_within}
use Rattle.headers.proofs.Numbers.{header_to}

-- More bytes after the script

pub ending_more : (f i e : ℕ) (bs more : List ℕ) → ending f i bs ≡ At e → ending f i (bs ++ more) ≡ At e
unfolding ending
ending_more zero i e bs more is = is
ending_more (suc f) i e [] more is = let z : ◌≡◌ {A = ℕ} 0 1 = cc in absurd (omega arith)
ending_more (suc f) i e (b ∷ bs) more is = go (eqb b end) is (ending_more f (i + 1) e bs more)
  where
    go :
        (t : Bool) →
        cond t (At i) (ending f (i + 1) bs) ≡ At e →
        (ending f (i + 1) bs ≡ At e → ending f (i + 1) (bs ++ more) ≡ At e) →
        cond t (At i) (ending f (i + 1) (bs ++ more)) ≡ At e
    go true same later = same
    go false same later = later same

module _ (s more : List ℕ) (at : ℕ) where
  abbrev longer : List ℕ
  longer = s ++ more

  module _ (h : at < length s) (e : ℕ) (is : line_end_lem s at ≡ At e) where
    started : leb (length longer) at ≡ false
    started = let l = length-append s more in lt-leb (length longer) at (omega arith)

    follow : drop at longer ≡ drop at s ++ more
    follow = drop-append-le at s more (omega arith)

    ended : line_end_lem longer at ≡ At e
    ended = rw follow (ending_more line_most at e (drop at s) more is)

    between : take (e - at) (drop at longer) ≡ take (e - at) (drop at s)
    between =
        let w = found_within s at e (line_end_lem s at) h refl is in
        let l = length-drop at s in
        rw follow (take-append-le (e - at) (drop at s) more (omega arith))

  abbrev StepStays : StepLine → Type 0
  StepStays (Line x next) = read_step longer at ≡ Line x next
  StepStays Nothing = Unit
  StepStays NoStep = Unit
  StepStays Cut = Unit

  abbrev HeaderStays : HeaderLine → Type 0
  HeaderStays (Header c n next) = read_header longer at ≡ Header c n next
  HeaderStays NoHeader = Unit
  HeaderStays CutHeader = Unit

  step_to_stays : at < length s → (w : Ending) → line_end_lem s at ≡ w → StepStays (step_to s at w)
  step_to_stays h (At e) is = go (parse_step_lem (take (e - at) (drop at s))) refl
    where
      go : (r : Parsed) → parse_step_lem (take (e - at) (drop at s)) ≡ r → StepStays (step_line_lem r (e + 1))
      go (Good x) p = simp (started h e is, ended h e is, between h e is, p)
      go Not p = tt
  step_to_stays h Long is = tt
  step_to_stays h Short is = tt

  header_to_stays : at < length s → (w : Ending) → line_end_lem s at ≡ w → HeaderStays (header_to s at w)
  header_to_stays h (At e) is = go (parse_header_lem (take (e - at) (drop at s))) refl
    where
      ranged :
          (c : Counts) (n : Ticket) →
          parse_header_lem (take (e - at) (drop at s)) ≡ GoodHeader c n →
          (t : Bool) →
          in_range c ≡ t →
          HeaderStays (cond t (Header c n (e + 1)) NoHeader)
      ranged c n p true good = simp (started h e is, ended h e is, between h e is, p, good)
      ranged c n p false good = tt

      go : (r : ParsedHeader) → parse_header_lem (take (e - at) (drop at s)) ≡ r → HeaderStays (header_line r (e + 1))
      go (GoodHeader c n) p = ranged c n p (in_range c) refl
      go NotHeader p = tt
  header_to_stays h Long is = tt
  header_to_stays h Short is = tt

  pub read_more : (x : Step) (next : ℕ) → read_step s at ≡ Line x next → read_step longer at ≡ Line x next
  read_more x next e = subst StepStays e (go (leb (length s) at) refl)
    where
      go : (t : Bool) → leb (length s) at ≡ t → StepStays (cond t Nothing (step_to s at (line_end_lem s at)))
      go true l = tt
      go false l = step_to_stays (leb-false (length s) at l) (line_end_lem s at) refl

  pub header_more : (c : Counts) (n : Ticket) (next : ℕ) → read_header s at ≡ Header c n next → read_header longer at ≡ Header c n next
  header_more c n next e = subst HeaderStays e (go (leb (length s) at) refl)
    where
      go : (t : Bool) → leb (length s) at ≡ t → HeaderStays (cond t CutHeader (header_to s at (line_end_lem s at)))
      go true l = tt
      go false l = header_to_stays (leb-false (length s) at l) (line_end_lem s at) refl

-- Bytes before the script

abbrev pub ending_on : ℕ → Ending → Ending
ending_on k (At e) = At (k + e)
ending_on k Long = Long
ending_on k Short = Short

-- a line with its places moved on by k
abbrev pub step_on : ℕ → StepLine → StepLine
step_on k (Line x next) = Line x (k + next)
step_on k Nothing = Nothing
step_on k NoStep = NoStep
step_on k Cut = Cut

abbrev pub header_on : ℕ → HeaderLine → HeaderLine
header_on k (Header c n next) = Header c n (k + next)
header_on k NoHeader = NoHeader
header_on k CutHeader = CutHeader

pub ending_on_lem : (k f i : ℕ) (bs : List ℕ) → ending f (k + i) bs ≡ ending_on k (ending f i bs)
unfolding ending
ending_on_lem k zero i bs = refl
ending_on_lem k (suc f) i [] = refl
ending_on_lem k (suc f) i (b ∷ bs) = go (eqb b end) (ending_on_lem k f (i + 1) bs)
  where
    go :
        (t : Bool) →
        ending f (k + (i + 1)) bs ≡ ending_on k (ending f (i + 1) bs) →
        cond t (At (k + i)) (ending f (k + i + 1) bs) ≡ ending_on k (cond t (At i) (ending f (i + 1) bs))
    go true later = refl
    go false later =
        let z : k + i + 1 ≡ k + (i + 1) = omega arith in
        ap (λ (j : ℕ). ending f j bs) z ∙ later

module _ (pre s : List ℕ) (at : ℕ) where
  abbrev whole : List ℕ
  whole = pre ++ s

  pub past_on : leb (length whole) (length pre + at) ≡ leb (length s) at
  past_on = go (leb (length s) at) refl
    where
      go : (t : Bool) → leb (length s) at ≡ t → leb (length whole) (length pre + at) ≡ t
      go true e =
          let l = length-append pre s in
          let h = leb-true (length s) at e in
          le-leb (length whole) (length pre + at) (omega arith)
      go false e =
          let l = length-append pre s in
          let h = leb-false (length s) at e in
          lt-leb (length whole) (length pre + at) (omega arith)

  line_end_on : line_end_lem whole (length pre + at) ≡ ending_on (length pre) (line_end_lem s at)
  line_end_on = rw (drop-append-add pre s at) (ending_on_lem (length pre) line_most at (drop at s))

  between_on : (e : ℕ) → take (length pre + e - (length pre + at)) (drop (length pre + at) whole) ≡ take (e - at) (drop at s)
  between_on e =
      let z : length pre + e - (length pre + at) ≡ e - at = omega arith in
      rw (z, drop-append-add pre s at)

  step_line_on : (e : ℕ) (r : Parsed) → step_line_lem r (length pre + e + 1) ≡ step_on (length pre) (step_line_lem r (e + 1))
  step_line_on e (Good x) = ap (Line x) (omega arith)
  step_line_on e Not = refl

  header_line_on : (e : ℕ) (r : ParsedHeader) → header_line r (length pre + e + 1) ≡ header_on (length pre) (header_line r (e + 1))
  header_line_on e (GoodHeader c n) = go (in_range c)
    where
      go :
          (t : Bool) →
          cond t (Header c n (length pre + e + 1)) NoHeader ≡ header_on (length pre) (cond t (Header c n (e + 1)) NoHeader)
      go true = ap (Header c n) (omega arith)
      go false = refl
  header_line_on e NotHeader = refl

  step_to_on : (w : Ending) → step_to whole (length pre + at) (ending_on (length pre) w) ≡ step_on (length pre) (step_to s at w)
  step_to_on (At e) = rw (between_on e) (step_line_on e (parse_step_lem (take (e - at) (drop at s))))
  step_to_on Long = refl
  step_to_on Short = refl

  header_to_on : (w : Ending) → header_to whole (length pre + at) (ending_on (length pre) w) ≡ header_on (length pre) (header_to s at w)
  header_to_on (At e) = rw (between_on e) (header_line_on e (parse_header_lem (take (e - at) (drop at s))))
  header_to_on Long = refl
  header_to_on Short = refl

  pub read_on : read_step whole (length pre + at) ≡ step_on (length pre) (read_step s at)
  read_on = rw (past_on, line_end_on) (go (leb (length s) at))
    where
      go :
          (t : Bool) →
          cond t Nothing (step_to whole (length pre + at) (ending_on (length pre) (line_end_lem s at)))
          ≡ step_on (length pre) (cond t Nothing (step_to s at (line_end_lem s at)))
      go true = refl
      go false = step_to_on (line_end_lem s at)

  pub header_on_lem : read_header whole (length pre + at) ≡ header_on (length pre) (read_header s at)
  header_on_lem = rw (past_on, line_end_on) (go (leb (length s) at))
    where
      go :
          (t : Bool) →
          cond t CutHeader (header_to whole (length pre + at) (ending_on (length pre) (line_end_lem s at)))
          ≡ header_on (length pre) (cond t CutHeader (header_to s at (line_end_lem s at)))
      go true = refl
      go false = header_to_on (line_end_lem s at)
