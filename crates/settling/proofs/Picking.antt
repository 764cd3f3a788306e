-- Picking the next in line. Whoever is picked is in line and older than every other in line; two cannot be so, so that the order of looking does
-- not matter. Where the tickets in line lie in one window and no two compare the same, one of them is older than all others: nobody is next only
-- where nobody is in line.
use Prim.Native.Nat.{ℕ, zero, suc, ◌≤◌, ◌<◌}
use mathlib.Core.Bool.{Bool, true, false, cond, ◌&&◌, ◌||◌, not}
use mathlib.Core.Logic.{◌⊎◌, inl, inr, ⊎_elim, ◌≢◌}
use mathlib.Core.Path.{◌≡◌, refl, sym, ◌∙◌, ap, ap₂, subst}
use native.Mathlib.Nat.{not-suc-le-zero, le_refl}
use native.Mathlib.Omega.{arith}
use lib.Dec.{eqb, ltb}
use borrow.Author.Tests.{eq-eqb, ne_eqb, ltb-true, ltb-false}
use Rattle.ticket.specs.Order.{compare, Window}
use Rattle.ticket.specs.Claims.{turned}
use Rattle.ticket.specs.declared.kinds.CoreNo.{CoreNo}
use Rattle.ticket.specs.declared.kinds.Ticket.{Ticket}
use Rattle.ticket.specs.declared.order.Comparison.{Comparison}
use Rattle.ticket.specs.declared.order.Comparison.TheVariants.{Older, Younger, Same, Opposite}
use Rattle.ticket.proofs.Laws.{swapped, transitive, never_opposite}
use Rattle.parts.specs.Fold.{every}
use Rattle.parts.specs.Parts.{cores, core_no, register_in}
use Rattle.parts.specs.declared.kinds.LockUnit.{LockUnit}
use Rattle.parts.proofs.Along.{same_or_not, to_last, along}
use Rattle.parts.proofs.Bools.{and_left, and_right, and_both, or_left, or_right, clash}
use Rattle.parts.proofs.Folds.{every_at, at_every}
use Rattle.settling.specs.Line.{in_line, is_older, older, oldest, chosen, next, Within}
use Rattle.settling.specs.Best.{Best, Nobody, Won}

-- the ticket of core j, and that it is in line
abbrev at : LockUnit → ℕ → ℕ
at x j = (register_in x j).ticket.0

abbrev Lined : LockUnit → ℕ → Type 0
Lined x j = in_line (register_in x j) ≡ true

-- core k is older than every other of the first n in line
abbrev Over : ℕ → LockUnit → ℕ → Type 0
Over n x k = (j : ℕ) → j < n → j ≢ k → Lined x j → compare (at x k) (at x j) ≡ Older

pub is_older_lem : (c : Comparison) → is_older c ≡ true → c ≡ Older
is_older_lem Older e = refl
is_older_lem Younger e = absurd (clash e refl)
is_older_lem Same e = absurd (clash e refl)
is_older_lem Opposite e = absurd (clash e refl)

-- what p says of the first m cores, by who was chosen
abbrev Picked : LockUnit → (ℕ → Bool) → ℕ → Best → Type 0
Picked x p m Nobody = (k : ℕ) → k < m → p k ≡ false
Picked x p m (Won k t) = (p k.0 ≡ true) × ((register_in x k.0).ticket ≡ t) × (k.0 < m)

module _ (n : ℕ) (x : LockUnit) where
  -- `oldest`, in words
  oldest_over : (k : ℕ) → oldest n x k ≡ true → Over n x k
  oldest_over k o j h d q =
      is_older_lem (compare (at x k) (at x j))
      (simp (ne_eqb j k d, q) at
      (every_at (λ (j : ℕ). eqb j k || not (in_line (register_in x j)) || older x k j) n (and_right (in_line (register_in x k)) _ o) j h))

  over_oldest : (k : ℕ) → Lined x k → Over n x k → oldest n x k ≡ true
  over_oldest k line over =
      and_both line
      (at_every (λ (j : ℕ). eqb j k || not (in_line (register_in x j)) || older x k j) n (λ j h. go j h (same_or_not j k) (in_line (register_in x j)) refl))
    where
      go : (j : ℕ) → j < n → (j ≡ k) ⊎ (j ≢ k) → (b : Bool) → in_line (register_in x j) ≡ b → (eqb j k || not b || older x k j) ≡ true
      go j h (inl e) b q = or_left (older x k j) (or_left (not b) (eq-eqb j k e))
      go j h (inr d) true q = or_right (eqb j k || false) (ap is_older (over j h d q))
      go j h (inr d) false q = or_left (older x k j) (or_right (eqb j k) refl)

  -- it is one alone
  pub one_oldest : (i j : ℕ) → i < n → j < n → oldest n x i ≡ true → oldest n x j ≡ true → i ≡ j
  one_oldest i j h l o p = go (same_or_not i j)
    where
      line : (k : ℕ) → oldest n x k ≡ true → Lined x k
      line k q = and_left (in_line (register_in x k)) _ q

      go : (i ≡ j) ⊎ (i ≢ j) → i ≡ j
      go (inl e) = e
      go (inr d) =
          let a = oldest_over i o j l (λ e. d (sym e)) (line j p) in
          let b = oldest_over j p i h d (line i o) in
          absurd (clash (ap is_older b) (ap is_older (swapped (at x i) (at x j) ∙ ap turned a)))

  picked : Picked x (oldest n x) n (next n x)
  picked = along (Picked x (oldest n x)) (chosen x (oldest n x)) Nobody (λ k h. absurd (not-suc-le-zero h)) n (λ m h b p. turn m b p (oldest n x m) refl)
    where
      turn :
          (m : ℕ) (b : Best) →
          Picked x (oldest n x) m b →
          (o : Bool) → oldest n x m ≡ o →
          Picked x (oldest n x) (suc m) (cond o (Won (core_no m) (register_in x m).ticket) b)
      turn m b p true e = (e, refl, omega arith)
      turn m Nobody p false e = to_last (λ k. oldest n x k ≡ false) m p e
      turn m (Won k t) p false e = (p.0, p.1, omega (arith, p.2))

  pub next_won :
      (k : CoreNo) (t : Ticket) → next n x ≡ Won k t →
      (in_line (register_in x k.0) ≡ true) × ((register_in x k.0).ticket ≡ t) × (k.0 < n)
  next_won k t e =
      let p = subst (Picked x (oldest n x) n) e picked in (and_left (in_line (register_in x k.0)) _ p.0, p.1, p.2)

  pub next_oldest :
      (k : CoreNo) (t : Ticket) → next n x ≡ Won k t →
      (j : ℕ) → j < n → j ≢ k.0 → Lined x j → compare t.0 (at x j) ≡ Older
  next_oldest k t e j h d q =
      let p = subst (Picked x (oldest n x) n) e picked in
      ap (λ (t : Ticket). compare t.0 (at x j)) (sym p.1) ∙ oldest_over k.0 p.0 j h d q

  none_oldest : ((k : ℕ) → k < n → oldest n x k ≡ false) → next n x ≡ Nobody
  none_oldest none = go (next n x) picked
    where
      go : (b : Best) → Picked x (oldest n x) n b → b ≡ Nobody
      go Nobody p = refl
      go (Won k t) p = absurd (clash p.0 (none k.0 p.2))

  pub next_is : (k : ℕ) → k < n → oldest n x k ≡ true → next n x ≡ Won (core_no k) (register_in x k).ticket
  next_is k h o = go (next n x) picked
    where
      go : (b : Best) → Picked x (oldest n x) n b → b ≡ Won (core_no k) (register_in x k).ticket
      go Nobody p = absurd (clash o (p k h))
      go (Won j t) p =
          let e = one_oldest j.0 k p.2 h p.0 o in
          ap₂ Won (ap core_no e) (sym p.1 ∙ ap (λ (i : ℕ). (register_in x i).ticket) e)

  -- and who is next, told by the registers
  pub next_over :
      (k : CoreNo) (t : Ticket) → k.0 < n → Lined x k.0 → (register_in x k.0).ticket ≡ t →
      ((j : ℕ) → j < n → j ≢ k.0 → Lined x j → compare t.0 (at x j) ≡ Older) →
      next n x ≡ Won k t
  next_over k t h line is over =
      next_is k.0 h (over_oldest k.0 line (λ j l d q. ap (λ (s : Ticket). compare s.0 (at x j)) is ∙ over j l d q)) ∙ ap (Won k) is

  pub next_within : n ≤ cores → Within (next n x)
  next_within few = go (next n x) picked
    where
      go : (b : Best) → Picked x (oldest n x) n b → Within b
      go Nobody p = tt
      go (Won k t) p = omega (arith, p.2)

  -- nobody in line, and one alone
  pub next_nobody : ((k : ℕ) → k < n → in_line (register_in x k) ≡ false) → next n x ≡ Nobody
  next_nobody none = none_oldest (λ k h. ap (λ (b : Bool). b && every (λ (j : ℕ). eqb j k || not (in_line (register_in x j)) || older x k j) n) (none k h))

  pub next_alone :
      (k : ℕ) → k < n → Lined x k → ((j : ℕ) → j < n → j ≢ k → in_line (register_in x j) ≡ false) → next n x ≡ Won (core_no k) (register_in x k).ticket
  next_alone k h line none = next_is k h (over_oldest k line (λ j l d q. absurd (clash q (none j l d))))

-- registers past n that are not in line do not matter
pub next_counted :
    (n m : ℕ) (x : LockUnit) → n ≤ m → ((j : ℕ) → n ≤ j → j < m → in_line (register_in x j) ≡ false) → next m x ≡ next n x
next_counted n m x few past = go (next n x) (picked n x)
  where
    fewer : (k : ℕ) → oldest m x k ≡ true → oldest n x k ≡ true
    fewer k o = over_oldest n x k (and_left (in_line (register_in x k)) _ o) (λ j h. oldest_over m x k o j (omega arith))

    none : (k : ℕ) → k < m → oldest n x k ≡ false → (b : Bool) → oldest m x k ≡ b → b ≡ false
    none k h e true o = absurd (clash (fewer k o) e)
    none k h e false o = refl

    go : (b : Best) → Picked x (oldest n x) n b → next m x ≡ b
    go Nobody p = none_oldest m x (λ k h. by k h (ltb k n) refl)
      where
        by : (k : ℕ) → k < m → (b : Bool) → ltb k n ≡ b → oldest m x k ≡ false
        by k h true l = none k h (p k (ltb-true k n l)) (oldest m x k) refl
        by k h false l =
            ap (λ (b : Bool). b && every (λ (j : ℕ). eqb j k || not (in_line (register_in x j)) || older x k j) m) (past k (ltb-false k n l) h)
    go (Won k t) p =
        next_is m x k.0 (omega (arith, p.2))
        (over_oldest m x k.0 (and_left (in_line (register_in x k.0)) _ p.0) (λ j h d q. over j h d q (ltb j n) refl)) ∙
        ap (Won k) p.1
      where
        over : (j : ℕ) → j < m → j ≢ k.0 → Lined x j → (b : Bool) → ltb j n ≡ b → compare (at x k.0) (at x j) ≡ Older
        over j h d q true l = oldest_over n x k.0 p.0 j (ltb-true j n l) d q
        over j h d q false l = absurd (clash q (past j (ltb-false j n l) h))

-- of two tickets in the window behind c one is older, unless they compare the same
pub ordered : (c a b : ℕ) → Window c a → Window c b → compare a b ≢ Same → (compare a b ≡ Older) ⊎ (compare a b ≡ Younger)
ordered c a b wa wb differ = go (compare a b) refl
  where
    go : (r : Comparison) → compare a b ≡ r → (compare a b ≡ Older) ⊎ (compare a b ≡ Younger)
    go Older e = inl e
    go Younger e = inr e
    go Same e = absurd (differ e)
    go Opposite e = absurd (never_opposite c a b wa wb e)

-- c is the counter; the tickets in line lie in the window behind it, and no two compare the same
module _
    (n : ℕ)
    (x : LockUnit)
    (c : ℕ)
    (recent : (j : ℕ) → j < n → Lined x j → Window c (at x j))
    (differ : (i j : ℕ) → i < n → j < n → i ≢ j → Lined x i → Lined x j → compare (at x i) (at x j) ≢ Same)
  where
    judged :
        (i j : ℕ) → i < n → j < n → i ≢ j → Lined x i → Lined x j →
        (compare (at x i) (at x j) ≡ Older) ⊎ (compare (at x i) (at x j) ≡ Younger)
    judged i j h l d p q = ordered c (at x i) (at x j) (recent i h p) (recent j l q) (differ i j h l d p q)

    -- nobody of the first m is in line, or one is older than all others of them
    abbrev Led : ℕ → Type 0
    Led m = ((k : ℕ) → k < m → in_line (register_in x k) ≡ false) ⊎ ((k : ℕ) × (k < m) × Lined x k × Over m x k)

    led : (m : ℕ) → m ≤ n → Led m
    led zero h = inl (λ k l. absurd (not-suc-le-zero l))
    led (suc m) h = go (led m (omega arith)) (in_line (register_in x m)) refl
      where
        go : Led m → (b : Bool) → in_line (register_in x m) ≡ b → Led (suc m)
        go (inl none) true e = inr (m, omega arith, e, λ j l d q. absurd (clash q (none j (omega arith))))
        go (inl none) false e = inl (to_last (λ k. in_line (register_in x k) ≡ false) m none e)
        go (inr w) false e =
            inr (
              w.0,
              omega (arith, w.1),
              w.2,
              to_last (λ (j : ℕ). j ≢ w.0 → Lined x j → compare (at x w.0) (at x j) ≡ Older) m w.3 (λ d q. absurd (clash q e)),
            )
        go (inr w) true e = ⊎_elim takes keeps (judged m w.0 (omega arith) (omega (arith, w.1)) (λ f. omega (arith, w.1)) e w.2)
          where
            takes : compare (at x m) (at x w.0) ≡ Older → Led (suc m)
            takes o = inr (m, omega arith, e, λ j l d q. beats j (omega arith) q (same_or_not j w.0))
              where
                beats : (j : ℕ) → j < m → Lined x j → (j ≡ w.0) ⊎ (j ≢ w.0) → compare (at x m) (at x j) ≡ Older
                beats j l q (inl f) = ap (λ (i : ℕ). compare (at x m) (at x i)) f ∙ o
                beats j l q (inr d) =
                    transitive c (at x m) (at x w.0) (at x j) (recent m (omega arith) e) (recent w.0 (omega (arith, w.1)) w.2)
                    (recent j (omega arith) q) o (w.3 j l d q)

            keeps : compare (at x m) (at x w.0) ≡ Younger → Led (suc m)
            keeps y =
                inr (
                  w.0,
                  omega (arith, w.1),
                  w.2,
                  to_last (λ (j : ℕ). j ≢ w.0 → Lined x j → compare (at x w.0) (at x j) ≡ Older) m w.3
                      (λ d q. swapped (at x m) (at x w.0) ∙ ap turned y),
                )

    pub nobody_next : next n x ≡ Nobody → (k : ℕ) → k < n → in_line (register_in x k) ≡ false
    nobody_next e = go (led n (le_refl n))
      where
        go : Led n → (k : ℕ) → k < n → in_line (register_in x k) ≡ false
        go (inl none) = none
        go (inr w) = absurd (clash (over_oldest n x w.0 w.2 w.3) (subst (Picked x (oldest n x) n) e (picked n x) w.0 w.1))
