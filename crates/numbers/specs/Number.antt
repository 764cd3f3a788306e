-- "Numbers are decimal, 0 to 65,535, no sign, no leading zero."
use Rattle.std.specs.Prelude.{ℕ, zero, suc, ◌+◌, ◌-◌, ◌*◌, ◌/◌, ◌%◌, Bool, true, false, cond, ◌&&◌, not, List, [], ◌∷◌, ◌++◌, eqb, leb, ltb, drop}
use Rattle.numbers.specs.Bytes.{tab}
use Rattle.numbers.specs.Field.{Field, Bad, Last, Then}

-- the digits of n, of which there are at most f
unfoldable pub digits : ℕ → ℕ → List ℕ
digits zero n = []
digits (suc f) n = cond (ltb n 10) ((48 + n) ∷ []) (digits f (n / 10) ++ ((48 + n % 10) ∷ []))

-- a number below 10,000,000,000 as it is written
abbrev pub decimal : ℕ → List ℕ
decimal n = digits 10 n

-- the greatest number that is read
abbrev pub number_most : ℕ
number_most = 65535

-- whether byte b may follow the digits read so far (some of them or none), whose value is v
abbrev pub follows : Bool → ℕ → ℕ → Bool
follows some v b = leb 48 b && leb b 57 && not (some && eqb v 0) && leb (10 * v + (b - 48)) number_most

-- reads on from byte i: a number up to the end, a number up to a tab and the place after it, or neither
unfoldable pub scan : Bool → ℕ → ℕ → List ℕ → Field
scan some v i [] = cond some (Last v) Bad
scan some v i (b ∷ bs) =
    cond (eqb b tab) (cond some (Then v (i + 1)) Bad)
    (cond (follows some v b) (let more = scan true (10 * v + (b - 48)) (i + 1) bs in more) Bad)

-- the field of s that starts at i
abbrev pub field : List ℕ → ℕ → Field
field s i = scan false 0 i (drop i s)
