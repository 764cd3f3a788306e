-- How many digits a number has.
use Prim.Native.Nat.{ℕ, zero, suc, ◌+◌, ◌/◌, ◌%◌, ◌≤◌, ◌<◌}
use mathlib.Core.Bool.{Bool, true, false, cond}
use mathlib.Core.List.{[], ◌∷◌, ◌++◌}
use mathlib.Core.Path.{◌≡◌}
use native.Mathlib.Omega.{arith}
use lib.Dec.{ltb}
use lib.ListN.{length, length-append}
use Rattle.numbers.specs.Number.{digits, decimal}
use Rattle.numbers.proofs.Scanning

-- at most as many as asked for
pub digits_most : (f n : ℕ) → length (digits f n) ≤ f
unfolding digits
digits_most zero n = omega arith
digits_most (suc f) n = go (ltb n 10) (digits_most f (n / 10))
  where
    go :
        (b : Bool) →
        length (digits f (n / 10)) ≤ f →
        length (cond b ((48 + n) ∷ []) (digits f (n / 10) ++ ((48 + n % 10) ∷ []))) ≤ suc f
    go true h = omega arith
    go false h = simp length-append (omega arith)

pub digits_least : (f n : ℕ) → 1 ≤ length (digits (suc f) n)
unfolding digits
digits_least f n = go (ltb n 10)
  where
    go : (b : Bool) → 1 ≤ length (cond b ((48 + n) ∷ []) (digits f (n / 10) ++ ((48 + n % 10) ∷ [])))
    go true = omega arith
    go false = simp length-append (omega arith)

module _ (n : ℕ) where
  pub decimal_least : 1 ≤ length (decimal n)
  decimal_least = digits_least 9 n

  pub decimal_most : length (decimal n) ≤ 10
  decimal_most = digits_most 10 n

  pub decimal_one : n < 10 → length (decimal n) ≡ 1
  decimal_one h = let most = Scanning.digits_most 10 0 n h in let least = decimal_least in omega arith

  pub decimal_two : n < 100 → length (decimal n) ≤ 2
  decimal_two h = Scanning.digits_most 10 1 n h

  pub decimal_five : n ≤ 65535 → length (decimal n) ≤ 5
  decimal_five h = Scanning.digits_most 10 4 n (omega arith)

  pub decimal_seven : n ≤ 1000000 → length (decimal n) ≤ 7
  decimal_seven h = Scanning.digits_most 10 6 n (omega arith)
