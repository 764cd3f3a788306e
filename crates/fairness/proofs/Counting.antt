-- Counts of two tests: one that implies another counts no more; where they differ at one number only, they differ by at most one.
use Prim.Native.Nat.{ℕ, zero, suc, ◌+◌, ◌≤◌, ◌<◌}
use mathlib.Core.Bool.{Bool, true, false, ◌&&◌, ◌||◌, not}
use mathlib.Core.List.Memᴰ
use mathlib.Core.List.{List, [], ◌∷◌, Memᴰ}
use mathlib.Core.Logic.{◌⊎◌, inl, inr, ◌≢◌}
use mathlib.Core.Path.{◌≡◌, refl, sym, ◌∙◌, ap, ap₂}
use native.Mathlib.Omega.{arith}
use lib.Dec.{eqb}
use borrow.Author.Tests.{eqb-true, eq-eqb, ne_eqb}
use Rattle.ticket.specs.declared.kinds.Grant.{Grant}
use Rattle.ticket.specs.Kinds.{grant}
use Rattle.parts.specs.Fold.{up_to, count, one}
use Rattle.parts.specs.Parts.{core_no, unit_no}
use Rattle.parts.proofs.Bools.{and_left, and_right, and_both, or_cases, or_left, or_right, clash}
use Rattle.parts.proofs.Folds.{count_change}
use Rattle.parts.proofs.Along.{same_or_not}
use Rattle.laws.specs.Granting.{Rising}
use Rattle.fairness.specs.Stretch.{gives, grants_of}

one_le : (a b : Bool) → (a ≡ true → b ≡ true) → one a ≤ one b
one_le true b f = let e : one b ≡ 1 = ap one (f refl) in omega arith
one_le false b f = omega arith

pub one_most : (a : Bool) → one a ≤ 1
one_most true = omega arith
one_most false = omega arith

pub count_le : (q p : ℕ → Bool) (n : ℕ) → ((j : ℕ) → j < n → q j ≡ true → p j ≡ true) → count q n ≤ count p n
unfolding up_to
count_le q p zero f = omega arith
count_le q p (suc n) f =
    let a = count_le q p n (λ j h. f j (omega arith)) in
    let b = one_le (q n) (p n) (f n (omega arith)) in
    omega arith

module _ (p : ℕ → Bool) (n i : ℕ) (h : i < n) where
  -- the same test but at i
  abbrev but : ℕ → Bool
  but j = p j && not (eqb j i)

  but_at : but i ≡ false
  but_at = ap (λ (b : Bool). p i && not b) (eq-eqb i i refl) ∙ go (p i)
    where
      go : (b : Bool) → (b && false) ≡ false
      go true = refl
      go false = refl

  but_other : (j : ℕ) → (j ≡ i → ⊥) → p j ≡ but j
  but_other j d = go (p j) ∙ ap (λ (b : Bool). p j && not b) (sym (ne_eqb j i d))
    where
      go : (b : Bool) → b ≡ (b && true)
      go true = refl
      go false = refl

  but_count : count p n ≡ count but n + one (p i)
  but_count =
      let e = count_change p but n i h but_other in
      let z : one (but i) ≡ 0 = ap one but_at in
      omega arith

  but_not : (j : ℕ) → but j ≡ true → (p j ≡ true) × (j ≢ i)
  but_not j e = (and_left (p j) _ e, λ q. clash (and_right (p j) _ e) (ap not (eq-eqb j i q)))

  but_is : (j : ℕ) → p j ≡ true → j ≢ i → but j ≡ true
  but_is j e d = and_both e (ap not (ne_eqb j i d))

-- one number fewer, or one number more
pub count_drop :
    (q p : ℕ → Bool) (n i : ℕ) →
    i < n →
    ((j : ℕ) → j < n → q j ≡ true → p j ≡ true) →
    p i ≡ true →
    q i ≡ false →
    count q n + 1 ≤ count p n
count_drop q p n i h f yes-there not-here =
    let a = count_le q (but p n i h) n (λ j l e. but_is p n i h j (f j l e) (λ same. clash e (ap q same ∙ not-here))) in
    let b = but_count p n i h in
    let z : one (p i) ≡ 1 = ap one yes-there in
    omega arith

pub count_rise :
    (q p : ℕ → Bool) (n i : ℕ) → i < n → ((j : ℕ) → j < n → j ≢ i → q j ≡ true → p j ≡ true) → count q n ≤ count p n + 1
count_rise q p n i h f =
    let a = count_le (but q n i h) p n (λ j l e. f j l (but_not q n i h j e).1 (but_not q n i h j e).0) in
    let b = but_count q n i h in
    let z = one_most (q i) in
    omega arith

-- Grants in a list

pub gives_at : (u k : ℕ) (l : List Grant) → gives u k l ≡ true → Memᴰ (grant (unit_no u) (core_no k)) l
unfolding gives
gives_at u k [] e = absurd (clash e refl)
gives_at u k (g ∷ more) e = go (gives_at u k more) (or_cases (eqb g.unit.0 u && eqb g.core.0 k) _ e)
  where
    go :
        (gives u k more ≡ true → Memᴰ (grant (unit_no u) (core_no k)) more) →
        ((eqb g.unit.0 u && eqb g.core.0 k) ≡ true) ⊎ (gives u k more ≡ true) →
        Memᴰ (grant (unit_no u) (core_no k)) (g ∷ more)
    go later (inl h) =
        let a = eqb-true g.unit.0 u (and_left (eqb g.unit.0 u) _ h) in
        let b = eqb-true g.core.0 k (and_right (eqb g.unit.0 u) _ h) in
        Memᴰ.head (ap₂ (λ (x y : ℕ). grant (unit_no x) (core_no y)) (sym a) (sym b))
    go later (inr h) = Memᴰ.tail (later h)

pub at_gives : (u k : ℕ) (l : List Grant) → Memᴰ (grant (unit_no u) (core_no k)) l → gives u k l ≡ true
unfolding gives
at_gives u k [] m = absurd (Memᴰ.not-nil m)
at_gives u k (g ∷ more) m = go (at_gives u k more) (Memᴰ.cases_cons m)
  where
    go :
        (Memᴰ (grant (unit_no u) (core_no k)) more → gives u k more ≡ true) →
        (grant (unit_no u) (core_no k) ≡ g) ⊎ Memᴰ (grant (unit_no u) (core_no k)) more →
        ((eqb g.unit.0 u && eqb g.core.0 k) || gives u k more) ≡ true
    go later (inl h) =
        or_left (gives u k more)
        (and_both (eq-eqb g.unit.0 u (ap (λ (x : Grant). x.unit.0) (sym h)))
        (eq-eqb g.core.0 k (ap (λ (x : Grant). x.core.0) (sym h))))
    go later (inr h) = or_right (eqb g.unit.0 u && eqb g.core.0 k) (later h)

-- a unit is granted, to some core, or not
pub grants_some : (u : ℕ) (l : List Grant) → (grants_of u l ≡ 0) ⊎ ((k : ℕ) × Memᴰ (grant (unit_no u) (core_no k)) l)
unfolding grants_of
grants_some u [] = inl refl
grants_some u (g ∷ more) = go (same_or_not g.unit.0 u) (grants_some u more)
  where
    go :
        (g.unit.0 ≡ u) ⊎ (g.unit.0 ≢ u) →
        (grants_of u more ≡ 0) ⊎ ((k : ℕ) × Memᴰ (grant (unit_no u) (core_no k)) more) →
        (one (eqb g.unit.0 u) + grants_of u more ≡ 0) ⊎ ((k : ℕ) × Memᴰ (grant (unit_no u) (core_no k)) (g ∷ more))
    go (inl e) later = inr (g.core.0, Memᴰ.head (ap (λ (x : ℕ). grant (unit_no x) g.core) (sym e)))
    go (inr d) (inl z) =
        let a : one (eqb g.unit.0 u) ≡ 0 = ap one (ne_eqb g.unit.0 u d) in
        inl (omega arith)
    go (inr d) (inr w) = inr (w.0, Memᴰ.tail w.1)

-- at most once, as the units rise
grants_none : (u : ℕ) (l : List Grant) → ((g : Grant) → Memᴰ g l → u < g.unit.0) → grants_of u l ≡ 0
unfolding grants_of
grants_none u [] f = refl
grants_none u (g ∷ more) f =
    let a : one (eqb g.unit.0 u) ≡ 0 = ap one (ne_eqb g.unit.0 u (λ e. omega (arith, f g (Memᴰ.head refl)))) in
    let b = grants_none u more (λ h m. f h (Memᴰ.tail m)) in
    omega arith

pub grants_most : (u : ℕ) (l : List Grant) → Rising l → grants_of u l ≤ 1
unfolding grants_of Rising
grants_most u [] r = omega arith
grants_most u (g ∷ more) r = go (same_or_not g.unit.0 u) (grants_most u more r.1)
  where
    go : (g.unit.0 ≡ u) ⊎ (g.unit.0 ≢ u) → grants_of u more ≤ 1 → one (eqb g.unit.0 u) + grants_of u more ≤ 1
    go (inl e) later =
        let a = one_most (eqb g.unit.0 u) in
        let b = grants_none u more (λ h m. rw e at (r.0 h m)) in
        omega arith
    go (inr d) later =
        let a : one (eqb g.unit.0 u) ≡ 0 = ap one (ne_eqb g.unit.0 u d) in
        omega arith
