-- Going along the numbers below a bound: what each turn of a fold keeps holds after all of them, and turns that agree come to the
-- same.
use Prim.Native.Nat.{ℕ, zero, suc, ◌<◌}
use mathlib.Core.Bool.{Bool, true, false}
use mathlib.Core.Logic.{◌⊎◌, inl, inr, ◌≢◌}
use mathlib.Core.Path.{◌≡◌, refl, sym, ◌∙◌, ap, subst}
use native.Mathlib.Omega.{arith}
use lib.Dec.{eqb}
use borrow.Author.Tests.{eqb-true, eqb-false}
use Rattle.parts.specs.Fold.{up_to}

-- two numbers are the same or not
pub same_or_not : (i j : ℕ) → (i ≡ j) ⊎ (i ≢ j)
same_or_not i j = go (eqb i j) refl
  where
    go : (b : Bool) → eqb i j ≡ b → (i ≡ j) ⊎ (i ≢ j)
    go true e = inl (eqb-true i j e)
    go false e = inr (eqb-false i j e)

-- a claim of all numbers below suc n is one of all below n and of n
pub to_last : (P : ℕ → Type 0) (n : ℕ) → ((k : ℕ) → k < n → P k) → P n → (k : ℕ) → k < suc n → P k
to_last P n before last k h = go (same_or_not k n)
  where
    go : (k ≡ n) ⊎ (k ≢ n) → P k
    go (inl e) = subst P (sym e) last
    go (inr d) = before k (omega arith)

module _ {A : Type 0} where
  -- P k b: the fold stands at b after k turns
  pub along :
      (P : ℕ → A → Type 0) (f : ℕ → A → A) (a : A) →
      P 0 a →
      (n : ℕ) →
      ((k : ℕ) → k < n → (b : A) → P k b → P (suc k) (f k b)) →
      P n (up_to f n a)
  unfolding up_to
  along P f a start zero turn = start
  along P f a start (suc n) turn = turn n (omega arith) (up_to f n a) (along P f a start n (λ k h. turn k (omega arith)))

  pub up_to_cong : (f g : ℕ → A → A) (n : ℕ) (a : A) → ((k : ℕ) → k < n → (b : A) → f k b ≡ g k b) → up_to f n a ≡ up_to g n a
  unfolding up_to
  up_to_cong f g zero a same = refl
  up_to_cong f g (suc n) a same = ap (f n) (up_to_cong f g n a (λ k h. same k (omega arith))) ∙ same n (omega arith) (up_to g n a)
