-- A test of each element of a list, or of each number of a range, as `all` makes it from the front, is the test of each place; and one
-- place where it fails is enough.
use Prim.Native.Nat.{ℕ, zero, suc, ◌≤◌, ◌<◌}
use mathlib.Core.Bool.{Bool, true, false, ◌&&◌}
use mathlib.Core.List.{List, [], ◌∷◌}
use mathlib.Core.Path.{◌≡◌, refl, sym, ◌∙◌, ap}
use native.Mathlib.Omega.{arith}
use lib.ListN.{length, get_or, take}
use Rattle.std.proofs.Math.Bool.{and_assoc, and-true}
use Rattle.std.specs.List.{list_all, range_with_len}
use Rattle.std.proofs.lemmas.List.{get_or-take, length-take-le}
use Rattle.std.proofs.lemmas.List.FromFn.{get_or-range_with_len, length-range_with_len}
use Rattle.parts.specs.Fold.{up_to, every}
use Rattle.parts.proofs.Bools.{clash}
use Rattle.parts.proofs.Folds.{every_at, every_cong}

-- the first test apart
from_front : (p : ℕ → Bool) (n : ℕ) → every p (suc n) ≡ (p 0 && every (λ (k : ℕ). p (suc k)) n)
unfolding up_to
from_front p zero = sym (and-true (p 0))
from_front p (suc n) = ap (λ (b : Bool). b && p (suc n)) (from_front p n) ∙ and_assoc (p 0) (every (λ (k : ℕ). p (suc k)) n) (p (suc n))

module _ {X : Type 0} (test : X → Bool) (d : X) where
  abbrev at : List X → ℕ → Bool
  at xs i = test (get_or xs i d)

  pub all_every : (xs : List X) → list_all test xs ≡ every (λ (i : ℕ). test (get_or xs i d)) (length xs)
  unfolding up_to
  all_every [] = refl
  all_every (x ∷ xs) = ap (λ (b : Bool). test x && b) (all_every xs) ∙ sym (from_front (at (x ∷ xs)) (length xs))

  -- of the first n elements
  pub all_taken : (n : ℕ) (xs : List X) → n ≤ length xs → list_all test (take n xs) ≡ every (λ (i : ℕ). test (get_or xs i d)) n
  all_taken n xs few =
      all_every (take n xs) ∙
      ap (every (at (take n xs))) (length-take-le n xs few) ∙
      every_cong (at (take n xs)) (at xs) n (λ i h. ap test (get_or-take n xs i d h))

-- of the numbers below n
pub all_below : (test : ℕ → Bool) (n : ℕ) → list_all test (range_with_len 0 n) ≡ every test n
all_below test n =
    all_every test 0 (range_with_len 0 n) ∙
    ap (every (λ (i : ℕ). test (get_or (range_with_len 0 n) i 0))) (length-range_with_len 0 n) ∙
    every_cong (λ (i : ℕ). test (get_or (range_with_len 0 n) i 0)) test n
    (λ i h. let is : get_or (range_with_len 0 n) i 0 ≡ i = omega (arith, get_or-range_with_len 0 n i 0 h) in ap test is)

-- a test that fails somewhere does not hold everywhere
pub every_fails : (p : ℕ → Bool) (n k : ℕ) → k < n → p k ≡ false → every p n ≡ false
every_fails p n k h e = go (every p n) refl
  where
    go : (b : Bool) → every p n ≡ b → every p n ≡ false
    go true all = absurd (clash (every_at p n all k h) e)
    go false none = none
