-- Numbers as they are put into lent bytes from a place on.
use Rattle.std.specs.Prelude.{ℕ, ◌+◌, ◌/◌, ◌%◌, ◌≤◌, List, [], ◌∷◌, ◌++◌, ◌≡◌, length, take, drop}
use Rattle.numbers.specs.Bytes.{tab}
use Rattle.numbers.specs.Number.{decimal}

-- a tab and a number
abbrev pub tabbed : ℕ → List ℕ
tabbed n = tab ∷ decimal n

-- the two digits of a number below 100, and the four of one below 10,000
abbrev pub two : ℕ → List ℕ
two n = (48 + n / 10) ∷ (48 + n % 10) ∷ []

abbrev pub four : ℕ → List ℕ
four n = two (n / 100) ++ two (n % 100)

-- xs stands in out from a place on
abbrev pub pasted : List ℕ → ℕ → List ℕ → List ℕ
pasted out at xs = take at out ++ (xs ++ drop (at + length xs) out)

-- m is o with xs in it from a place on, up to the next place
pub record Puts (o m : List ℕ) (at next : ℕ) (xs : List ℕ) : Type 0 where
  pub holds : m ≡ pasted o at xs
  pub goes : next ≡ at + length xs
  pub fits : at + length xs ≤ length o
