-- Laws of the fold: the three that a counting loop needs, and what every, some and count say of the single numbers.
use Prim.Native.Nat.{ℕ, zero, suc, ◌+◌, ◌≤◌, ◌<◌}
use mathlib.Core.Bool.{Bool, true, false, ◌&&◌, ◌||◌}
use mathlib.Core.Logic.{◌⊎◌, inl, inr, ⊎_elim}
use mathlib.Core.Path.{◌≡◌, refl, sym, ◌∙◌, ap, ap₂}
use native.Mathlib.Nat.{le_antisymm, not-suc-le-zero}
use native.Mathlib.Numerals.{add-one}
use native.Mathlib.Omega.{arith}
use lib.Dec.{eqb}
use borrow.Author.Tests.{eqb-true, eqb-false}
use Rattle.parts.specs.Fold.{up_to, every, some, count, one}
use Rattle.parts.proofs.Bools.{and_left, and_right, and_both, or_cases, or_left, or_right, clash}

-- before the first turn, after one more, and at the end
module _ {A : Type 0} where
  pub none : (f : ℕ → A → A) (a : A) → a ≡ up_to f 0 a
  unfolding up_to
  none f a = refl

  pub more : (f : ℕ → A → A) (n : ℕ) (a b c : A) → b ≡ up_to f n a → c ≡ f n b → c ≡ up_to f (n + 1) a
  unfolding up_to
  more f n a b c so last = rw add-one (last ∙ ap (f n) so)

  pub finished : (f : ℕ → A → A) (i n : ℕ) (a b : A) → b ≡ up_to f i a → i ≤ n → n ≤ i → b ≡ up_to f n a
  finished f i n a b so low high = so ∙ ap (λ (m : ℕ). up_to f m a) (le_antisymm low high)

-- a number below suc n is n, or below n
last_or_below : (k n : ℕ) → k < suc n → (k ≡ n) ⊎ (k < n)
last_or_below k n h = go (eqb k n) refl
  where
    go : (b : Bool) → eqb k n ≡ b → (k ≡ n) ⊎ (k < n)
    go true e = inl (eqb-true k n e)
    go false e = let d = eqb-false k n e in inr (omega arith)

module _ (p : ℕ → Bool) where
  pub every_at : (n : ℕ) → every p n ≡ true → (k : ℕ) → k < n → p k ≡ true
  unfolding up_to
  every_at zero e k h = absurd (not-suc-le-zero h)
  every_at (suc n) e k h =
      ⊎_elim (λ q. ap p q ∙ and_right (every p n) (p n) e) (λ q. every_at n (and_left (every p n) (p n) e) k q) (last_or_below k n h)

  pub at_every : (n : ℕ) → ((k : ℕ) → k < n → p k ≡ true) → every p n ≡ true
  unfolding up_to
  at_every zero all = refl
  at_every (suc n) all = and_both (at_every n (λ k h. all k (omega arith))) (all n (omega arith))

  pub some_at : (n : ℕ) → some p n ≡ true → (k : ℕ) × (k < n) × (p k ≡ true)
  unfolding up_to
  some_at zero e = absurd (clash e refl)
  some_at (suc n) e = go (some_at n) (or_cases (some p n) (p n) e)
    where
      go : (some p n ≡ true → (k : ℕ) × (k < n) × (p k ≡ true)) → (some p n ≡ true) ⊎ (p n ≡ true) → (k : ℕ) × (k < suc n) × (p k ≡ true)
      go before (inl q) = let w = before q in (w.0, omega (arith, w.1), w.2)
      go before (inr q) = (n, omega arith, q)

  pub at_some : (n k : ℕ) → k < n → p k ≡ true → some p n ≡ true
  unfolding up_to
  at_some zero k h e = absurd (not-suc-le-zero h)
  at_some (suc n) k h e =
      ⊎_elim (λ q. or_right (some p n) (ap p (sym q) ∙ e)) (λ q. or_left (p n) (at_some n k q e)) (last_or_below k n h)

  pub none_some : (n : ℕ) → ((k : ℕ) → k < n → p k ≡ false) → some p n ≡ false
  unfolding up_to
  none_some zero all = refl
  none_some (suc n) all = ap₂ ◌||◌ (none_some n (λ k h. all k (omega arith))) (all n (omega arith))

  pub some_none : (n : ℕ) → some p n ≡ false → (k : ℕ) → k < n → p k ≡ false
  some_none n e k h = go (p k) refl
    where
      go : (b : Bool) → p k ≡ b → p k ≡ false
      go true q = absurd (clash (at_some n k h q) e)
      go false q = q

-- two tests that agree below n
pub every_cong : (p q : ℕ → Bool) (n : ℕ) → ((k : ℕ) → k < n → p k ≡ q k) → every p n ≡ every q n
unfolding up_to
every_cong p q zero same = refl
every_cong p q (suc n) same = ap₂ ◌&&◌ (every_cong p q n (λ k h. same k (omega arith))) (same n (omega arith))

pub count_cong : (p q : ℕ → Bool) (n : ℕ) → ((k : ℕ) → k < n → p k ≡ q k) → count p n ≡ count q n
unfolding up_to
count_cong p q zero same = refl
count_cong p q (suc n) same = ap₂ (λ (m : ℕ) (b : Bool). m + one b) (count_cong p q n (λ k h. same k (omega arith))) (same n (omega arith))

-- two tests that differ at most at j: one counts more than the other by what they say there
pub count_change :
    (p q : ℕ → Bool) (n j : ℕ) → j < n → ((k : ℕ) → (k ≡ j → ⊥) → p k ≡ q k) → count p n + one (q j) ≡ count q n + one (p j)
unfolding up_to
count_change p q zero j h same = absurd (not-suc-le-zero h)
count_change p q (suc n) j h same = go (last_or_below j n h) (count_change p q n j)
  where
    go :
        (j ≡ n) ⊎ (j < n) →
        (j < n → ((k : ℕ) → (k ≡ j → ⊥) → p k ≡ q k) → count p n + one (q j) ≡ count q n + one (p j)) →
        count p n + one (p n) + one (q j) ≡ count q n + one (q n) + one (p j)
    go (inl e) before =
        let a = count_cong p q n (λ k l. same k (λ e'. omega arith)) in
        let b : one (q j) ≡ one (q n) = ap (λ (m : ℕ). one (q m)) e in
        let c : one (p j) ≡ one (p n) = ap (λ (m : ℕ). one (p m)) e in
        omega arith
    go (inr l) before =
        let e = before l same in
        let a : one (p n) ≡ one (q n) = ap one (same n (λ e'. omega arith)) in
        omega arith

-- one that holds is counted, and two are counted twice
pub count_some : (p : ℕ → Bool) (n k : ℕ) → k < n → p k ≡ true → 1 ≤ count p n
unfolding up_to
count_some p zero k h e = absurd (not-suc-le-zero h)
count_some p (suc n) k h e = go (last_or_below k n h) (count_some p n k)
  where
    go : (k ≡ n) ⊎ (k < n) → (k < n → p k ≡ true → 1 ≤ count p n) → 1 ≤ count p n + one (p n)
    go (inl q) before =
        let a : one (p n) ≡ 1 = ap one (ap p (sym q) ∙ e) in
        omega arith
    go (inr l) before = let a = before l e in omega arith

pub count_two : (p : ℕ → Bool) (n i j : ℕ) → i < n → j < n → (i ≡ j → ⊥) → p i ≡ true → p j ≡ true → 2 ≤ count p n
unfolding up_to
count_two p zero i j h l d e f = absurd (not-suc-le-zero h)
count_two p (suc n) i j h l d e f = go (last_or_below i n h) (last_or_below j n l) (count_two p n i j)
  where
    last : (k : ℕ) → k ≡ n → p k ≡ true → one (p n) ≡ 1
    last k q e' = ap one (ap p (sym q) ∙ e')

    go :
        (i ≡ n) ⊎ (i < n) →
        (j ≡ n) ⊎ (j < n) →
        (i < n → j < n → (i ≡ j → ⊥) → p i ≡ true → p j ≡ true → 2 ≤ count p n) →
        2 ≤ count p n + one (p n)
    go (inl a) (inl b) before = absurd (d (a ∙ sym b))
    go (inl a) (inr b) before = omega (arith, last i a e, count_some p n j b f)
    go (inr a) (inl b) before = omega (arith, last j b f, count_some p n i a e)
    go (inr a) (inr b) before = omega (arith, before a b d e f)

pub count_none : (p : ℕ → Bool) (n : ℕ) → count p n ≡ 0 → (k : ℕ) → k < n → p k ≡ false
count_none p n e k h = go (p k) refl
  where
    go : (b : Bool) → p k ≡ b → p k ≡ false
    go true q = absurd (let l = count_some p n k h q in omega arith)
    go false q = q

pub none_count : (p : ℕ → Bool) (n : ℕ) → ((k : ℕ) → k < n → p k ≡ false) → count p n ≡ 0
unfolding up_to
none_count p zero all = refl
none_count p (suc n) all =
    let a = none_count p n (λ k h. all k (omega arith)) in
    let b : one (p n) ≡ 0 = ap one (all n (omega arith)) in
    omega arith

-- at most one flag: two that hold are the same
pub count_unique : (p : ℕ → Bool) (n i j : ℕ) → count p n ≤ 1 → i < n → j < n → p i ≡ true → p j ≡ true → i ≡ j
count_unique p n i j few h l e f = go (eqb i j) refl
  where
    go : (b : Bool) → eqb i j ≡ b → i ≡ j
    go true q = eqb-true i j q
    go false q = absurd (let a = count_two p n i j h l (eqb-false i j q) e f in omega arith)
