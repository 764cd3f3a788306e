-- Detail: a line whose step part has numbers of one digit each. What is said of it holds where it is read so; any other is read in full.
use Rattle.std.specs.Prelude.{ℕ, ◌+◌, ◌<◌, ◌≤◌, Bool, true, List, [], ◌∷◌, ◌++◌, ◌≡◌, length, get_or, take, drop, Option, Some, None}
use Rattle.parts.specs.declared.answer.Step.{Step}
use Rattle.numbers.specs.Bytes.{tab}
use Rattle.digits.specs.Text.{tabbed}
use Rattle.lines.specs.Bytes.{letter_of}
use Rattle.writing.specs.Writing.{numbers_of}

-- the step, and the place of the tab behind its part; or some other line
abbrev pub Quick : Type 0
Quick = Option (Step × ℕ)

pattern abbrev pub Begins : Step → ℕ → Quick
Begins x from = Some (x, from)

pattern abbrev pub Other : Quick
Other = None

-- each number behind a tab
abbrev pub tabs : List ℕ → List ℕ
tabs [] = []
tabs (n ∷ ns) = tabbed n ++ tabs ns

-- a step line without its end
abbrev pub step_text : Step → List ℕ
step_text x = letter_of x ∷ tabs (numbers_of x)

-- numbers of one digit
abbrev pub OneDigit : List ℕ → Type 0
OneDigit [] = Unit {0}
OneDigit (n ∷ ns) = (n < 10) × OneDigit ns

-- the step stands at a place, its numbers of one digit each, and a tab behind it
pub record StandsAt (s : List ℕ) (at : ℕ) (x : Step) (from : ℕ) : Type 0 where
  pub short : OneDigit (numbers_of x)
  pub text : take (length (step_text x)) (drop at s) ≡ step_text x
  pub next : from ≡ at + length (step_text x)
  pub inside : from < length s
  pub tabbed : get_or s from 0 ≡ tab

abbrev pub QuickSays : List ℕ → ℕ → Quick → Type 0
QuickSays s at q = elim q [ Begins x from ↦ StandsAt s at x from | Other ↦ Unit {0} ]

-- where it is answered so, the first n bytes are the same
abbrev pub SameBytes : List ℕ → List ℕ → ℕ → Bool → Type 0
SameBytes s others n b = b ≡ true → (take n s ≡ take n others) × (n ≤ length s)
