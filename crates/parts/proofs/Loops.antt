-- One more turn of a loop that joins or counts tests: what the loop had so far, with the test that the turn made.
use Prim.Native.Nat.{ℕ, zero, suc, ◌+◌, ◌≤◌}
use mathlib.Core.Bool.{Bool, true, false, ◌&&◌, ◌||◌}
use mathlib.Core.Path.{◌≡◌, ap}
use native.Mathlib.Omega.{arith}
use Rattle.parts.specs.Fold.{up_to, every, some, count, one}
use Rattle.parts.proofs.Folds.{more}

module _ (p : ℕ → Bool) (n : ℕ) where
  pub every_more : (ok r : Bool) → ok ≡ every p n → r ≡ p n → (ok && r) ≡ every p (n + 1)
  every_more ok r so last = more (λ (k : ℕ) (b : Bool). b && p k) n true ok (ok && r) so (ap (λ (b : Bool). ok && b) last)

  pub some_more : (any r : Bool) → any ≡ some p n → r ≡ p n → (any || r) ≡ some p (n + 1)
  some_more any r so last = more (λ (k : ℕ) (b : Bool). b || p k) n false any (any || r) so (ap (λ (b : Bool). any || b) last)

  pub count_more : (m r : ℕ) → m ≡ count p n → r ≡ one (p n) → m + r ≡ count p (n + 1)
  count_more m r so last = more (λ (k i : ℕ). i + one (p k)) n 0 m (m + r) so (ap (λ (i : ℕ). m + i) last)

pub one_most : (b : Bool) → one b ≤ 1
one_most true = omega arith
one_most false = omega arith

pub count_most : (p : ℕ → Bool) (n : ℕ) → count p n ≤ n
unfolding up_to
count_most p zero = omega arith
count_most p (suc n) = let a = count_most p n in let b = one_most (p n) in omega arith
