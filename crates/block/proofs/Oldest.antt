-- What picking promises on a unit of a table that is sound, but perhaps for flags to be set. Every ticket shown is the own ticket of
-- a live core, of the one that shows it or of one that lends it; so the tickets lie in the window behind the counter, and no two
-- cores at a unit show the same one, as a core lends to one core only, and does not stand where its ticket is borrowed.
use Prim.Native.Nat.{ℕ, ◌≤◌, ◌<◌}
use mathlib.Core.Bool.{Bool, true, false}
use mathlib.Core.Logic.{◌⊎◌, inl, inr, ⊎_elim, ◌≢◌}
use mathlib.Core.Path.{◌≡◌, refl, sym, ◌∙◌, ap₂}
use native.Mathlib.Nat.{le_refl}
use native.Mathlib.Omega.{arith}
use lib.Dec.{eqb}
use borrow.Author.Tests.{eqb-true}
use Rattle.ticket.specs.Order.{circle, compare, Window}
use Rattle.ticket.specs.declared.kinds.CoreNo.{CoreNo}
use Rattle.ticket.specs.declared.kinds.Ticket.{Ticket}
use Rattle.ticket.specs.declared.order.Comparison.TheVariants.{Older, Same}
use Rattle.parts.specs.Fold.{some}
use Rattle.parts.specs.State.{is_live_lem, two_stage_lem, unserved}
use Rattle.parts.specs.Parts.{cores, units}
use Rattle.block.specs.Table.{core_of, unit_of, register_of}
use Rattle.settling.specs.Line.{in_line, next}
use Rattle.settling.specs.InFront.{InOrder}
use Rattle.block.specs.Sound as S
use Rattle.block.specs.Parts.{Sound}
use Rattle.parts.specs.declared.kinds.Core.{Core}
use Rattle.parts.specs.declared.kinds.State.{State}
use Rattle.parts.specs.declared.kinds.State.TheVariants.{Idle, Waiting, Holding, WaitingSecond, HoldingBoth, Away, Marked, Dropped}
use Rattle.block.specs.declared.table.Table.{Table}
use Rattle.settling.specs.Best.{Nobody, Won}
use Rattle.parts.proofs.Bools.{and_left, or_cases, clash}
use Rattle.parts.proofs.Folds.{some_at, count_unique}
use Rattle.parts.proofs.Along.{same_or_not}
use Rattle.block.proofs.Almost.{Almost}
use Rattle.block.proofs.Agreeing.{AtFirst, AtSecond, valid_at}
use Rattle.settling.proofs.Picking.{next_won, nobody_next, next_nobody, next_oldest}
use Rattle.block.proofs.Columns.{Lends, lent, differ_apart, sound_almost}
use Rattle.block.proofs.Kept.{names_two, recent_window, two_stage_lem_lem, first_flag, first_place}
use Rattle.block.proofs.Suited.{stands_live, unserved_live, two_undropped}

-- own tickets fit sixteen bits, as those of every table that a program holds
pub record Fitting (t : Table) : Type 0 where
  pub own : (k : ℕ) → k < cores → (core_of t k).own.0 < circle

unserved_single : (z : State) → unserved z ≡ true → two_stage_lem z ≡ false
unserved_single Idle e = refl
unserved_single Waiting e = refl
unserved_single Holding e = refl
unserved_single WaitingSecond e = absurd (clash e refl)
unserved_single HoldingBoth e = absurd (clash e refl)
unserved_single Away e = refl
unserved_single Marked e = refl
unserved_single Dropped e = refl

-- core k stands at u, its second unit, with a ticket that core j lends
pub record Borrows (t : Table) (u k j : ℕ) : Type 0 where
  pub two : two_stage_lem (core_of t k).state ≡ true
  pub second : (core_of t k).second.0 ≡ u
  pub lends : Lends (core_of t k) (core_of t j)

-- whose own ticket core k's register at u shows
pub record Owner (t : Table) (u k : ℕ) : Type 0 where
  pub core : ℕ
  pub small : core < cores
  pub live : is_live_lem (core_of t core).state ≡ true
  pub own : (core_of t core).own.0 ≡ (register_of t u k).ticket.0
  pub how : (core ≡ k) ⊎ Borrows t u k core

module _ (t : Table) (a : Almost t) (u : ℕ) (place : u < units) where
  stood :
      (k : ℕ) →
      k < cores →
      (register_of t u k).valid ≡ true →
      AtFirst (core_of t k) u (register_of t u k) ⊎ AtSecond (core_of t k) u (register_of t u k)
  stood k h = valid_at (core_of t k) u (register_of t u k) (a.agrees u place k h)

  module _ (k : ℕ) (h : k < cores) where
    abbrev c : Core
    c = core_of t k

    owner_first : AtFirst c u (register_of t u k) → Owner t u k
    owner_first f =
        record { core = k; small = h; live = stands_live c.state f.stands; own = sym f.shows.ticket; how = inl refl }

    owner_second : AtSecond c u (register_of t u k) → Owner t u k
    owner_second f = ⊎_elim mine lender (or_cases (eqb c.carried.0 c.own.0) _ (simp f.two at (a.core k h).carries))
      where
        mine : eqb c.carried.0 c.own.0 ≡ true → Owner t u k
        mine e =
            record {
              core = k;
              small = h;
              live = (two_stage_lem_lem c.state f.two).live;
              own = sym (f.shows.ticket ∙ eqb-true c.carried.0 c.own.0 e);
              how = inl refl;
            }

        lender : S.inherits t c ≡ true → Owner t u k
        lender e =
            let p : ℕ → Bool = λ (j : ℕ). S.lends c (core_of t j) in
            let j = some_at p cores (and_left (some p cores) _ e) in
            let l = lent c (core_of t j.0) j.2 in
            record {
              core = j.0;
              small = j.1;
              live =
                  unserved_live (core_of t j.0).state l.unserved
                  (two_undropped t.counts.profile c.state (core_of t j.0).state (a.core k h).suited f.two (a.core j.0 j.1).suited);
              own = l.own ∙ sym f.shows.ticket;
              how = inr (record { two = f.two; second = sym f.unit; lends = l });
            }

    -- every ticket shown is the own ticket of a live core
    pub owner : (register_of t u k).valid ≡ true → Owner t u k
    owner v = ⊎_elim owner_first owner_second (stood k h v)

  -- who lends does not stand where the ticket is borrowed: that is the borrower's second unit, and its own first is the borrower's first
  lender_elsewhere : (i k : ℕ) → i < cores → k < cores → Borrows t u i k → (register_of t u k).valid ≡ true → ⊥
  lender_elsewhere i k l h b v = ⊎_elim first second (stood k h v)
    where
      first : AtFirst (core_of t k) u (register_of t u k) → ⊥
      first f =
          let live = (two_stage_lem_lem (core_of t i).state b.two).busy in
          let names = names_two t (core_of t i) (simp (live, b.two) at (a.core i l).named) in
          omega (arith, f.unit, b.lends.first, b.second)

      second : AtSecond (core_of t k) u (register_of t u k) → ⊥
      second f = clash f.two (unserved_single (core_of t k).state b.lends.unserved)

  -- a core lends to one core only: to the holder of its first unit
  borrower_only : (i k j : ℕ) → i < cores → k < cores → Borrows t u i j → Borrows t u k j → i ≡ k
  borrower_only i k j l h b d =
      let c = core_of t k in
      let same : (core_of t i).first.0 ≡ c.first.0 = sym b.lends.first ∙ d.lends.first in
      let there = first_place t a k h (two_stage_lem_lem c.state d.two).busy in
      count_unique (λ (m : ℕ). (register_of t c.first.0 m).flag) cores i k (a.few c.first.0 there) l h
      (rw same at (first_flag t a i l b.two))
      (first_flag t a k h d.two)

  -- the tickets that two cores show do not compare the same
  pub shown_apart :
      (i k : ℕ) →
      i < cores →
      k < cores →
      i ≢ k →
      (register_of t u i).valid ≡ true →
      (register_of t u k).valid ≡ true →
      compare (register_of t u i).ticket.0 (register_of t u k).ticket.0 ≢ Same
  shown_apart i k l h d v w e = go (owner i l v) (owner k h w)
    where
      met : (o : Owner t u i) (p : Owner t u k) → (o.core ≡ p.core) → (o.core ≡ i) ⊎ Borrows t u i o.core → (p.core ≡ k) ⊎ Borrows t u k p.core → ⊥
      met o p q (inl x) (inl y) = d (sym x ∙ q ∙ y)
      met o p q (inl x) (inr y) = lender_elsewhere k i h l (rw (sym q ∙ x) at y) v
      met o p q (inr x) (inl y) = lender_elsewhere i k l h (rw (q ∙ y) at x) w
      met o p q (inr x) (inr y) = d (borrower_only i k p.core l h (rw q at x) y)

      go : Owner t u i → Owner t u k → ⊥
      go o p = ⊎_elim (λ q. met o p q o.how p.how) apart (same_or_not o.core p.core)
        where
          apart : o.core ≢ p.core → ⊥
          apart q =
              differ_apart t o.core p.core q ((a.core o.core o.small).differ p.core p.small) o.live p.live
              (ap₂ compare o.own p.own ∙ e)

  -- every ticket shown lies in the window behind the counter
  pub shown_recent : (k : ℕ) → k < cores → (register_of t u k).valid ≡ true → Window t.counter.0 (register_of t u k).ticket.0
  shown_recent k h v =
      let o = owner k h v in rw o.own at (recent_window t (core_of t o.core) o.live (a.core o.core o.small).recent)

-- so the tickets in line have one order
pub in_order : (t : Table) → Almost t → (u : ℕ) → u < units → (n : ℕ) → n ≤ cores → InOrder n (unit_of t u)
in_order t a u place n few =
    let valid : (j : ℕ) → in_line (register_of t u j) ≡ true → (register_of t u j).valid ≡ true = λ j l. and_left (register_of t u j).valid _ l in
    record {
      counter = t.counter.0;
      recent = λ j h l. shown_recent t a u place j (omega arith) (valid j l);
      apart = λ i j h h' d l l'. shown_apart t a u place i j (omega arith) (omega arith) d (valid i l) (valid j l');
    }

-- nobody is next exactly if nobody is in line
pub oldest_nobody :
    (t : Table) →
    Almost t →
    (u : ℕ) →
    u < units →
    (next cores (unit_of t u) ≡ Nobody → (k : ℕ) → k < cores → in_line (register_of t u k) ≡ false) ×
    (((k : ℕ) → k < cores → in_line (register_of t u k) ≡ false) → next cores (unit_of t u) ≡ Nobody)
oldest_nobody t a u place =
    let o = in_order t a u place cores (le_refl cores) in
    (nobody_next cores (unit_of t u) o.counter o.recent o.apart, next_nobody cores (unit_of t u))

-- core k is in line at u with the ticket n, which is older than all others in line
abbrev pub Oldest : Table → ℕ → CoreNo → Ticket → Type 0
Oldest t u k n =
    (k.0 < cores) ×
    (in_line (register_of t u k.0) ≡ true) ×
    ((register_of t u k.0).ticket ≡ n) ×
    ((j : ℕ) → j < cores → j ≢ k.0 → in_line (register_of t u j) ≡ true → compare n.0 (register_of t u j).ticket.0 ≡ Older)

-- whoever is next is so
pub oldest_won :
    (t : Table) →
    Almost t →
    Fitting t →
    (u : ℕ) →
    u < units →
    (k : CoreNo) (n : Ticket) →
    next cores (unit_of t u) ≡ Won k n →
    Oldest t u k n
oldest_won t a f u place k n e =
    let w = next_won cores (unit_of t u) k n e in (w.2, w.0, w.1, next_oldest cores (unit_of t u) k n e)

pub oldest_won_sound :
    (t : Table) →
    Sound t →
    Fitting t →
    (u : ℕ) →
    u < units →
    (k : CoreNo) (n : Ticket) →
    next cores (unit_of t u) ≡ Won k n →
    Oldest t u k n
oldest_won_sound t s = oldest_won t (sound_almost t s)
