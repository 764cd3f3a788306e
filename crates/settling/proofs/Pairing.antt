-- Going through the pairs. What the two loops do is what is done for each of the list of pairs, in which i, j stands once if i < j < n: of the
-- n columns the j-th has j pairs.
use Prim.Native.Nat.{ℕ, zero, suc, ◌+◌, ◌*◌, ◌-◌}
use mathlib.Core.Bool.{Bool, true, false, ◌&&◌}
use mathlib.Core.List.{List, [], ◌∷◌, ◌++◌}
use mathlib.Core.Path.{◌≡◌, refl, sym, ◌∙◌, ap}
use native.Mathlib.Nat.{mul_comm, mul-suc}
use native.Mathlib.Omega.{arith}
use lib.Dec.{eqb, ltb}
use lib.ListN.{length, length-append}
use borrow.Author.Tests.{eqb-true, eqb-false, ltb-true, ltb-false, lt-ltb, le-ltb}
use Rattle.parts.specs.Fold.{up_to, one, count}
use Rattle.parts.proofs.Along.{along}
use Rattle.settling.specs.Pairs.{column, over_pairs, listed, pairs, through, times}
use Rattle.settling.specs.Claims.{PairsCounted, EachPairOnce}

-- Two folds side by side

module _ {A B : Type 0} (R : A → B → Type 0) where
  beside :
      (f : ℕ → A → A) (g : ℕ → B → B) (n : ℕ) (a : A) (b : B) →
      R a b →
      ((k : ℕ) (a : A) (b : B) → R a b → R (f k a) (g k b)) →
      R (up_to f n a) (up_to g n b)
  unfolding up_to
  beside f g zero a b r turn = r
  beside f g (suc n) a b r turn = turn n (up_to f n a) (up_to g n b) (beside f g n a b r turn)

  beside_pairs :
      (f : ℕ → ℕ → A → A) (g : ℕ → ℕ → B → B) (n : ℕ) (a : A) (b : B) →
      R a b →
      ((i j : ℕ) (a : A) (b : B) → R a b → R (f i j a) (g i j b)) →
      R (over_pairs f n a) (over_pairs g n b)
  beside_pairs f g n a b r turn =
      beside (column f) (column g) n a b r (λ j a b s. beside (λ (i : ℕ). f i j) (λ (i : ℕ). g i j) j a b s (λ i a b q. turn i j a b q))

-- what the loops do, by the list

module _ {A : Type 0} (f : ℕ → ℕ → A → A) where
  through_last : (ps : List (ℕ × ℕ)) (i j : ℕ) (a : A) → through f (ps ++ ((i, j) ∷ [])) a ≡ f i j (through f ps a)
  unfolding through
  through_last [] i j a = refl
  through_last (p ∷ ps) i j a = through_last ps i j (f p.0 p.1 a)

  pub over_pairs_lem : (n : ℕ) (a : A) → over_pairs f n a ≡ through f (pairs n) a
  unfolding through
  over_pairs_lem n a =
      beside_pairs (λ (b : A) (ps : List (ℕ × ℕ)). b ≡ through f ps a) f listed n a [] refl
      (λ i j b ps so. ap (f i j) so ∙ sym (through_last ps i j a))

-- Each pair once

module _ (i j : ℕ) where
  times_last : (ps : List (ℕ × ℕ)) (k m : ℕ) → times i j (ps ++ ((k, m) ∷ [])) ≡ times i j ps + one (eqb i k && eqb j m)
  unfolding times
  times_last [] k m = omega arith
  times_last (p ∷ ps) k m = let e = times_last ps k m in omega arith

swap : (a b : Bool) → (a && b) ≡ (b && a)
swap true true = refl
swap true false = refl
swap false true = refl
swap false false = refl

-- a test that holds at j alone is counted once
count_at : (p : ℕ → Bool) (j n : ℕ) → count (λ (m : ℕ). eqb j m && p m) n ≡ one (ltb j n && p j)
unfolding up_to
count_at p j zero = ap (λ (b : Bool). one (b && p j)) (sym (le-ltb j 0 (omega arith)))
count_at p j (suc n) = go (eqb j n) refl (count_at p j n)
  where
    go :
        (b : Bool) → eqb j n ≡ b →
        count (λ (m : ℕ). eqb j m && p m) n ≡ one (ltb j n && p j) →
        count (λ (m : ℕ). eqb j m && p m) n + one (b && p n) ≡ one (ltb j (suc n) && p j)
    go true e before =
        let q = eqb-true j n e in
        let none : one (ltb j n && p j) ≡ 0 = ap (λ (b : Bool). one (b && p j)) (le-ltb j n (omega arith)) in
        let here : one (ltb j (suc n) && p j) ≡ one (p j) = ap (λ (b : Bool). one (b && p j)) (lt-ltb j (suc n) (omega arith)) in
        let same : one (p j) ≡ one (p n) = ap (λ (m : ℕ). one (p m)) q in
        omega arith
    go false e before =
        let d = eqb-false j n e in
        let same : one (ltb j (suc n) && p j) ≡ one (ltb j n && p j) = ap (λ (b : Bool). one (b && p j)) (step (ltb j n) refl d) in
        omega arith
      where
        step : (b : Bool) → ltb j n ≡ b → (j ≡ n → ⊥) → ltb j (suc n) ≡ b
        step true l d = let h = ltb-true j n l in lt-ltb j (suc n) (omega arith)
        step false l d = let h = ltb-false j n l in le-ltb j (suc n) (omega arith)

module _ (i j : ℕ) where
  -- how often the pair stands in one column
  times_column : (k : ℕ) (ps : List (ℕ × ℕ)) → times i j (column listed k ps) ≡ times i j ps + one (ltb i k && eqb j k)
  unfolding up_to
  times_column k ps =
      along (λ (m : ℕ) (qs : List (ℕ × ℕ)). times i j qs ≡ times i j ps + count (λ (m : ℕ). eqb i m && eqb j k) m)
      (λ (m : ℕ). listed m k) ps start k (λ m h qs so. turn m qs so) ∙
      ap (λ (c : ℕ). times i j ps + c) (count_at (λ (m : ℕ). eqb j k) i k)
    where
      start : times i j ps ≡ times i j ps + count (λ (m : ℕ). eqb i m && eqb j k) 0
      start = omega arith

      turn :
          (m : ℕ) (qs : List (ℕ × ℕ)) →
          times i j qs ≡ times i j ps + count (λ (m : ℕ). eqb i m && eqb j k) m →
          times i j (listed m k qs) ≡ times i j ps + count (λ (m : ℕ). eqb i m && eqb j k) (suc m)
      turn m qs so = let last = times_last i j qs m k in omega arith

  times_pairs : (n : ℕ) → times i j (pairs n) ≡ count (λ (k : ℕ). eqb j k && ltb i k) n
  unfolding up_to times
  times_pairs n =
      along (λ (m : ℕ) (qs : List (ℕ × ℕ)). times i j qs ≡ count (λ (k : ℕ). eqb j k && ltb i k) m) (column listed) [] refl n
      (λ m h qs so. turn m qs so)
    where
      turn :
          (m : ℕ) (qs : List (ℕ × ℕ)) →
          times i j qs ≡ count (λ (k : ℕ). eqb j k && ltb i k) m →
          times i j (column listed m qs) ≡ count (λ (k : ℕ). eqb j k && ltb i k) (suc m)
      turn m qs so =
          let r = times_column m qs in
          let test : one (ltb i m && eqb j m) ≡ one (eqb j m && ltb i m) = ap one (swap (ltb i m) (eqb j m)) in
          omega arith

pub each_pair_once : EachPairOnce
each_pair_once n i j = times_pairs i j n ∙ count_at (λ (k : ℕ). ltb i k) j n ∙ ap one (swap (ltb j n) (ltb i j))

-- How many pairs there are

-- 0 + 1 + .. + (n − 1)
unfoldable triangle : ℕ → ℕ
triangle zero = 0
triangle (suc n) = triangle n + n

-- twice that
double_suc : (n : ℕ) → 2 * triangle (suc n) ≡ n * n + n
unfolding triangle
double_suc zero = refl
double_suc (suc n) =
    let e = double_suc n in
    let p = mul-suc (suc n) n in
    let q = mul_comm (suc n) n in
    let r = mul-suc n n in
    omega arith

double : (n : ℕ) → 2 * triangle n ≡ n * (n - 1)
unfolding triangle
double zero = refl
double (suc n) =
    let less : suc n * (suc n - 1) ≡ suc n * n = ap (λ (m : ℕ). suc n * m) (let z : suc n - 1 ≡ n = omega arith in z) in
    double_suc n ∙ (let q = mul_comm (suc n) n in let r = mul-suc n n in omega arith)

-- a column has a pair for each number before it
column_long : (k : ℕ) (ps : List (ℕ × ℕ)) → length (column listed k ps) ≡ length ps + k
unfolding up_to
column_long k ps =
    along (λ (m : ℕ) (qs : List (ℕ × ℕ)). length qs ≡ length ps + m) (λ (m : ℕ). listed m k) ps (omega arith) k
    (λ m h qs so. let l = length-append qs ((m, k) ∷ []) in omega arith)

pairs_long : (n : ℕ) → length (pairs n) ≡ triangle n
unfolding up_to triangle
pairs_long n =
    along (λ (m : ℕ) (qs : List (ℕ × ℕ)). length qs ≡ triangle m) (column listed) [] refl n
    (λ m h qs so. let l = column_long m qs in omega arith)

pub pairs_counted : PairsCounted
unfolding triangle up_to
pairs_counted = (
  λ n. let t = pairs_long n in let d = double n in omega arith,
  refl,
  refl,
)
