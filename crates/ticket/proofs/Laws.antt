-- The comparison is the order of issue. Tickets i and j of one counter lie j − i apart on the circle, whatever the start and
-- however often it wrapped, so less than half a circle apart the earlier one reads older and the later one younger.
-- On tickets that lie within the half circle behind a counter, older is further behind it: a strict total order, and no two are opposite.
use Rattle.std.proofs.Common.{◌≡◌, ℕ, zero, suc, ◌+◌, ◌-◌, ◌<◌, ◌≤◌, Bool, true, false, cond, eqb, ltb, ◌≢◌, ◌⊎◌, sym, refl, ap, ◌∙◌, subst, inl, inr, arith, ltb-false, ltb-true, le-ltb, lt-ltb, eq-eqb, ne_eqb, eqb-true}
use borrow.Author.Tests.{eqb-false}
use Rattle.ticket.specs.Order.{circle, half, behind, compare, after, Window}
use Rattle.ticket.specs.Issue.{nth, unit_after}
use Rattle.ticket.specs.Laws.{StrictTotal}
use Rattle.ticket.specs.Claims.{Condition, ExactlyOne, turned, Swapped, ByIssue}
use Rattle.ticket.specs.declared.issue.IssuingUnit.{IssuingUnit}
use Rattle.ticket.specs.declared.order.Comparison.{Comparison}
use Rattle.ticket.specs.declared.order.Comparison.TheVariants.{Older, Younger, Same, Opposite}
use Rattle.ticket.proofs.Circle.{behind_below, behind_only, behind_by, behind_self, behind_back, behind_cancel}

-- The four conditions

-- the comparison from the distance
pub compared : (a b : ℕ) (x : Comparison) → Condition x (behind a b) → compare a b ≡ x
unfolding compare
compared a b Older h = rw (ne_eqb (behind a b) 0 (λ e. omega arith), ne_eqb (behind a b) half (λ e. omega arith), lt-ltb half (behind a b) h)
compared a b Younger h =
    rw (ne_eqb (behind a b) 0 (λ e. omega arith), ne_eqb (behind a b) half (λ e. omega arith), le-ltb half (behind a b) (omega arith))
compared a b Same h = rw (eq-eqb (behind a b) 0 h)
compared a b Opposite h = rw (ne_eqb (behind a b) 0 (λ e. omega arith), eq-eqb (behind a b) half h)

-- and the distance from the comparison
condition : (a b : ℕ) → Condition (compare a b) (behind a b)
unfolding compare
condition a b = go (eqb d 0) refl (eqb d half) refl (ltb half d) refl
  where
    d : ℕ
    d = behind a b

    go :
        (x : Bool) → eqb d 0 ≡ x →
        (y : Bool) → eqb d half ≡ y →
        (z : Bool) → ltb half d ≡ z →
        Condition (cond x Same (cond y Opposite (cond z Older Younger))) d
    go true e y f z g = eqb-true d 0 e
    go false e true f z g = eqb-true d half f
    go false e false f true g = ltb-true half d g
    go false e false f false g =
        let some : d ≢ 0 = eqb-false d 0 e in
        let other : d ≢ half = eqb-false d half f in
        let most : d ≤ half = ltb-false half d g in
        (omega arith, omega arith)

pub told : (a b : ℕ) (x : Comparison) → compare a b ≡ x → Condition x (behind a b)
told a b x e = subst (λ (y : Comparison). Condition y (behind a b)) e (condition a b)

pub exactly_one : ExactlyOne
exactly_one a b = (condition a b, compared a b)

-- what the tests of `compare` have shown of the difference d is the condition of the answer
module _ (a b d : ℕ) (distance : d ≡ behind a b) where
  pub of_older : half < d → Older ≡ compare a b
  of_older h = sym (compared a b Older (omega arith))

  pub of_opposite : d ≡ half → Opposite ≡ compare a b
  of_opposite e = sym (compared a b Opposite (sym distance ∙ e))

  pub of_same : d ≡ 0 → Same ≡ compare a b
  of_same e = sym (compared a b Same (sym distance ∙ e))

  pub of_younger : d ≢ 0 → d ≢ half → d ≤ half → Younger ≡ compare a b
  of_younger some other h = sym (compared a b Younger (omega arith, omega arith))

-- equal tickets
pub same : (t : ℕ) → compare t t ≡ Same
same t = compared t t Same (behind_self t)

-- the other way round the circle is the rest of it
pub swapped : Swapped
swapped a b = go (compare a b) (condition a b)
  where
    go : (x : Comparison) → Condition x (behind a b) → compare b a ≡ turned x
    go Older h =
        let rest = behind_back a b (omega arith) in
        compared b a Younger (omega (arith, behind_below a b), omega arith)
    go Younger h = compared b a Older (omega (arith, behind_back a b (omega arith)))
    go Same h = compared b a Same (omega (arith, behind_by a b a, behind_self a))
    go Opposite h = compared b a Opposite (omega (arith, behind_back a b (omega arith)))

-- how far t lies behind n, by how it compares with n
pub seen : (n t : ℕ) (x : Comparison) → compare t n ≡ x → Condition (turned x) (behind n t)
seen n t x e = told n t (turned x) (swapped t n ∙ ap turned e)

-- tickets of sixteen bits that compare same are the same
pub same_only : (t u : ℕ) → t < circle → u < circle → compare t u ≡ Same → t ≡ u
same_only t u small small' e = behind_cancel t t u small small' (behind_self t ∙ sym (told t u Same e))

-- Issue order

pub nth_after : (c i : ℕ) → after (nth c i) ≡ nth c (suc i)
unfolding nth after
nth_after c i = omega arith

-- the ticket that a unit hands out i-th, from 0, is the one with issue number i
pub nth_issued : (u : IssuingUnit) → u.counter.0 < circle → (i : ℕ) → (unit_after u i).counter.0 ≡ nth u.counter.0 i
unfolding nth unit_after after
nth_issued u small zero = omega arith
nth_issued u small (suc i) = ap after (nth_issued u small i) ∙ nth_after u.counter.0 i

-- how far issue i lies behind issue j, and the other way round the circle
pub apart : (c i j : ℕ) → i ≤ j → j < i + circle → behind (nth c j) (nth c i) ≡ j - i
unfolding nth
apart c i j order close = sym (behind_only (nth c j) (nth c i) (j - i) (omega arith) (omega arith))

pub round : (c i j : ℕ) → i < j → j < i + circle → behind (nth c i) (nth c j) ≡ circle - (j - i)
round c i j order close =
    let d = apart c i j (omega arith) close in
    behind_back (nth c j) (nth c i) (omega arith) ∙ ap (λ (k : ℕ). circle - k) d

-- less than half a circle apart: the earlier reads older, and the later younger
pub earlier_older : (c i j : ℕ) → i < j → j < i + half → compare (nth c i) (nth c j) ≡ Older
earlier_older c i j order close = compared (nth c i) (nth c j) Older (omega (arith, round c i j (omega arith) (omega arith)))

pub later_younger : (c i j : ℕ) → i < j → j < i + half → compare (nth c j) (nth c i) ≡ Younger
later_younger c i j order close = swapped (nth c i) (nth c j) ∙ ap turned (earlier_older c i j order close)

pub by_issue : ByIssue
by_issue c i j order close = (earlier_older c i j order close, later_younger c i j order close)

-- exactly half a circle apart: opposite both ways
pub opposite : (c i : ℕ) → (compare (nth c i) (nth c (i + half)) ≡ Opposite) × (compare (nth c (i + half)) (nth c i) ≡ Opposite)
opposite c i =
    let e : compare (nth c (i + half)) (nth c i) ≡ Opposite =
    compared (nth c (i + half)) (nth c i) Opposite (omega (arith, apart c i (i + half) (omega arith) (omega arith))) in
    (swapped (nth c (i + half)) (nth c i) ∙ ap turned e, e)

-- The window behind a counter

-- the issues of the last half circle lie in it
pub nth_window : (c i n : ℕ) → i < n → n ≤ i + half → Window (nth c n) (nth c i)
nth_window c i n order close =
    let d = apart c i n (omega arith) (omega arith) in
    record { least = omega arith; most = omega arith }

-- In it older is further behind the counter.
module _ (n : ℕ) where
  module _ (t u : ℕ) (wt : Window n t) (wu : Window n u) where
    pub of_further : behind n u < behind n t → compare t u ≡ Older
    of_further h = compared t u Older (omega (arith, behind_by n t u, wt.most, wu.least))

    pub further : compare t u ≡ Older → behind n u < behind n t
    further o =
        let far : half < behind t u = told t u Older o in
        omega (arith, behind_by n t u, wt.least, wu.most)

    -- no two tickets of the window are half a circle apart
    pub never_opposite : compare t u ≢ Opposite
    never_opposite o =
        let far : behind t u ≡ half = told t u Opposite o in
        omega (arith, behind_by n t u, wt.least, wt.most, wu.least, wu.most)

    pub total : t < circle → u < circle → t ≢ u → (compare t u ≡ Older) ⊎ (compare t u ≡ Younger)
    total small small' differ = go (compare t u) refl
      where
        go : (x : Comparison) → compare t u ≡ x → (compare t u ≡ Older) ⊎ (compare t u ≡ Younger)
        go Older e = inl e
        go Younger e = inr e
        go Same e = absurd (differ (same_only t u small small' e))
        go Opposite e = absurd (never_opposite e)

  pub transitive :
      (t u v : ℕ) → Window n t → Window n u → Window n v → compare t u ≡ Older → compare u v ≡ Older → compare t v ≡ Older
  transitive t u v wt wu wv o p = of_further t v wt wv (omega (arith, further t u wt wu o, further u v wu wv p))

-- on any set of tickets within the window the comparison is a strict total order
pub window_order : (n : ℕ) (S : ℕ → Type 0) → ((t : ℕ) → S t → (t < circle) × Window n t) → StrictTotal S
window_order n S within =
    record {
      irreflexive = λ t st. same t;
      asymmetric = λ t u st su o. swapped t u ∙ ap turned o;
      transitive = λ t u v st su sv o p. transitive n t u v (within t st).1 (within u su).1 (within v sv).1 o p;
      total = λ t u st su differ. total n t u (within t st).1 (within u su).1 (within t st).0 (within u su).0 differ;
    }

-- The window is needed: of three tickets that lie round the whole circle each reads older than the next.
pub cycle : (compare 0 30000 ≡ Older) × (compare 30000 60000 ≡ Older) × (compare 60000 0 ≡ Older)
unfolding compare behind
cycle = (refl, refl, refl)
