-- A step changes one core and that core's registers: its column. What it must show of them for the table to be sound again, but for
-- flags that are yet to be set.
use Prim.Native.Nat.{ℕ, ◌+◌, ◌<◌, ◌≤◌}
use mathlib.Core.Bool.{Bool, true, false, cond, ◌&&◌, ◌||◌, not}
use mathlib.Core.Logic.{◌⊎◌, inl, inr, ◌≢◌}
use mathlib.Core.Path.{◌≡◌, refl, sym, ◌∙◌, ap}
use native.Mathlib.Omega.{arith}
use lib.Dec.{eqb}
use borrow.Author.Tests.{eqb-true, eq-eqb, ne_eqb, lt-ltb}
use Rattle.ticket.specs.Claims.{turned}
use Rattle.ticket.specs.Order.{behind, compare}
use Rattle.ticket.specs.declared.kinds.Ticket.{Ticket}
use Rattle.ticket.specs.declared.kinds.UnitNo.{UnitNo}
use Rattle.ticket.specs.declared.order.Comparison.TheVariants.{Same}
use Rattle.ticket.proofs.Laws.{compared, told, swapped}
use Rattle.parts.specs.Fold.{some, one}
use Rattle.parts.specs.State.{is_idle_lem, is_live_lem, two_stage_lem, unserved}
use Rattle.parts.specs.Profile.{suits}
use Rattle.parts.specs.Parts.{cores, units, core}
use Rattle.block.specs.Table.{core_of, unit_of, register_of, Shaped}
use Rattle.settling.specs.Line.{flags}
use Rattle.block.specs.Sound as S
use Rattle.block.specs.Parts.{CoreSound, Sound}
use Rattle.parts.specs.declared.kinds.Core.{Core}
use Rattle.parts.specs.declared.kinds.Register.{Register}
use Rattle.parts.specs.declared.kinds.State.{State}
use Rattle.parts.specs.declared.answer.Answer.TheVariants.{Done}
use Rattle.effects.specs.Effect.{makes}
use Rattle.effects.specs.declared.kinds.Move.{Move}
use Rattle.effects.specs.declared.kinds.Effect.{Effect}
use Rattle.block.specs.Steps.{affected}
use Rattle.block.specs.declared.table.Table.{Table}
use Rattle.parts.proofs.Bools.{and_left, and_right, and_both, or_left, or_right, clash}
use Rattle.parts.proofs.Folds.{some_at, at_some, count_change}
use Rattle.parts.proofs.Along.{same_or_not}
use Rattle.parts.proofs.Ranging.{cores_few}
use Rattle.block.proofs.Almost.{Almost}
use Rattle.block.proofs.Suited.{live_busy, live_undropped}
use Rattle.block.proofs.Moving.{Moved, affected_moved, shown, affected_shown, shown_flag}

-- two cores that are live have own tickets that do not compare the same
abbrev pub Apart : Core → Core → Type 0
Apart c d = is_live_lem c.state ≡ true → is_live_lem d.state ≡ true → compare c.own.0 d.own.0 ≢ Same

pub apart_sym : (c d : Core) → Apart c d → Apart d c
apart_sym c d a p q e = a q p (swapped d.own.0 c.own.0 ∙ ap turned e)

module _ (t : Table) (i j : ℕ) where
  pub differ_apart : i ≢ j → S.differ t i j ≡ true → Apart (core_of t i) (core_of t j)
  differ_apart d h p q e =
      let a = (core_of t i).own.0 in
      let b = (core_of t j).own.0 in
      clash h (none _ _ _ _ (ne_eqb i j d) p q (eq-eqb (behind a b) 0 (told a b Same e)))
    where
      none : (a b c d : Bool) → a ≡ false → b ≡ true → c ≡ true → d ≡ true → (a || not b || not c || not d) ≡ false
      none a b c d p q r s = rw (p, q, r, s)

  pub apart_differ : (i ≢ j → Apart (core_of t i) (core_of t j)) → S.differ t i j ≡ true
  apart_differ a = go (same_or_not i j)
    where
      last : (b c d : Bool) → (b ≡ true → c ≡ true → d ≡ false) → (not b || not c || not d) ≡ true
      last false c d f = refl
      last true false d f = refl
      last true true d f = ap not (f refl refl)

      go : (i ≡ j) ⊎ (i ≢ j) → S.differ t i j ≡ true
      go (inl e) = simp (eq-eqb i j e)
      go (inr d) =
          simp (ne_eqb i j d)
          (last (is_live_lem (core_of t i).state) (is_live_lem (core_of t j).state) _
          (λ p q. ne_eqb (behind (core_of t i).own.0 (core_of t j).own.0) 0 (λ z. a d p q (compared (core_of t i).own.0 (core_of t j).own.0 Same z))))

-- core d lends its ticket to c
pub record Lends (c d : Core) : Type 0 where
  pub unserved : unserved d.state ≡ true
  pub first : d.first.0 ≡ c.first.0
  pub own : d.own.0 ≡ c.carried.0

pub lent : (c d : Core) → S.lends c d ≡ true → Lends c d
lent c d h =
    let p = unserved d.state in
    let q = eqb d.first.0 c.first.0 in
    let l = and_left (p && q) _ h in
    record {
      unserved = and_left p q l;
      first = eqb-true d.first.0 c.first.0 (and_right p q l);
      own = eqb-true d.own.0 c.carried.0 (and_right (p && q) _ h);
    }

pub lending : (c d : Core) → Lends c d → S.lends c d ≡ true
lending c d l =
    and_both
    (and_both l.unserved (eq-eqb d.first.0 c.first.0 l.first))
    (eq-eqb d.own.0 c.carried.0 l.own)

-- what a core carries is there after a change too, if its lender still lends
pub carries_kept :
    (t t' : Table) (c : Core) →
    (two_stage_lem c.state ≡ true → (j : ℕ) → S.lends c (core_of t j) ≡ true → S.lends c (core_of t' j) ≡ true) →
    S.carries t c ≡ true →
    S.carries t' c ≡ true
carries_kept t t' c lenders = go (two_stage_lem c.state) (eqb c.carried.0 c.own.0) _ _ (λ two. still (lenders two))
  where
    still :
        ((j : ℕ) → S.lends c (core_of t j) ≡ true → S.lends c (core_of t' j) ≡ true) →
        some (λ (j : ℕ). S.lends c (core_of t j)) cores ≡ true →
        some (λ (j : ℕ). S.lends c (core_of t' j)) cores ≡ true
    still f h =
        let w = some_at (λ (j : ℕ). S.lends c (core_of t j)) cores h in
        at_some (λ (j : ℕ). S.lends c (core_of t' j)) cores w.0 w.1 (f w.0 w.2)

    go :
        (b x o y : Bool) {p q : Bool} →
        (b ≡ true → p ≡ true → q ≡ true) →
        cond b (x || (p && o)) y ≡ true →
        cond b (x || (q && o)) y ≡ true
    go true true o y f h = refl
    go true false o y {p} f h = and_both (f refl (and_left p o h)) (and_right p o h)
    go false x o y f h = h

-- a core that lends to nobody may change
pub lenders_others :
    (t t' : Table) (k : ℕ) (c : Core) →
    ((j : ℕ) → j ≢ k → core_of t' j ≡ core_of t j) →
    unserved (core_of t k).state ≡ false →
    S.carries t c ≡ true →
    S.carries t' c ≡ true
lenders_others t t' k c others served = carries_kept t t' c (λ two j l. lender j l (same_or_not j k))
  where
    lender : (j : ℕ) → S.lends c (core_of t j) ≡ true → (j ≡ k) ⊎ (j ≢ k) → S.lends c (core_of t' j) ≡ true
    lender j l (inl e) = absurd (clash (lent c (core_of t j) l).unserved (rw e served))
    lender j l (inr d) = rw (others j d) l

-- at most one flag in a unit of a sound table
pub sound_few : (t : Table) → Sound t → (u : ℕ) → u < units → flags cores (unit_of t u) ≤ 1
sound_few t s u h = go (S.any_valid (unit_of t u)) (eqb-true (flags cores (unit_of t u)) _ (s.unit u h).one_flag)
  where
    go : (b : Bool) → flags cores (unit_of t u) ≡ one b → flags cores (unit_of t u) ≤ 1
    go true e = omega arith
    go false e = omega arith

pub sound_almost : (t : Table) → Sound t → Almost t
sound_almost t s =
    record { counts = s.counts; core = s.core; agrees = λ u h. (s.unit u h).agrees; few = sound_few t s }

-- what the column of core k shows after the effect e is sound
pub record Column (t : Table) (k : ℕ) (e : Effect) : Type 0 where
  pub suited : S.suited t e.core ≡ true
  pub idle_blank : S.idle_blank e.core ≡ true
  pub dropped_blank : S.dropped_blank e.core ≡ true
  pub named : S.named t e.core ≡ true
  pub recent : S.recent (affected t k e) e.core ≡ true
  pub others_recent : (j : ℕ) → j < cores → S.recent (affected t k e) (core_of t j) ≡ true
  pub apart : (j : ℕ) → j < cores → j ≢ k → Apart e.core (core_of t j)
  pub carries : S.carries (affected t k e) e.core ≡ true
  pub lends : (j : ℕ) → j < cores → j ≢ k → two_stage_lem (core_of t j).state ≡ true → Lends (core_of t j) (core_of t k) → Lends (core_of t j) e.core
  pub agrees : (u : ℕ) → u < units → S.agrees e.core u (shown t k e.does u) ≡ true

module _ (t : Table) (shaped : Shaped t) (s : Sound t) (k : ℕ) (within : k < t.counts.cores) where
  pub small : k < cores
  small = omega (arith, cores_few t.counts s.counts)

  module _ (e : Effect) (col : Column t k e) where
    abbrev t' : Table
    t' = affected t k e

    m : Moved t t' k e.core
    m = affected_moved t shaped k small e

    -- k's flags go out or stay, so no unit has more of them
    column_few : (u : ℕ) → u < units → flags cores (unit_of t' u) ≤ 1
    column_few u h =
        go (register_of t u k).flag (register_of t' u k).flag (rw (affected_shown t shaped k small u h e) (shown_flag t k u e.does))
        (count_change (λ (j : ℕ). (register_of t' u j).flag) (λ (j : ℕ). (register_of t u j).flag) cores k small
        (λ j d. ap (λ (r : Register). r.flag) (m.registers u h j d)))
        (sound_few t s u h)
      where
        go :
            (b b' : Bool) →
            (b' ≡ false) ⊎ (b' ≡ b) →
            flags cores (unit_of t' u) + one b ≡ flags cores (unit_of t u) + one b' →
            flags cores (unit_of t u) ≤ 1 →
            flags cores (unit_of t' u) ≤ 1
        go b b' (inl e) eq le = let z : one b' ≡ 0 = ap one e in omega arith
        go b b' (inr e) eq le = let z : one b' ≡ one b = ap one e in omega arith

    column_carries : (j : ℕ) → j < cores → j ≢ k → S.carries t' (core_of t j) ≡ true
    column_carries j h d =
        carries_kept t t' (core_of t j) (λ two i l. lender i two l (same_or_not i k)) (s.core j h).carries
      where
        lender :
            (i : ℕ) →
            two_stage_lem (core_of t j).state ≡ true →
            S.lends (core_of t j) (core_of t i) ≡ true →
            (i ≡ k) ⊎ (i ≢ k) →
            S.lends (core_of t j) (core_of t' i) ≡ true
        lender i two l (inl e') =
            rw (e', m.becomes) (lending (core_of t j) e.core (col.lends j h d two (lent (core_of t j) (core_of t k) (rw e' at l))))
        lender i two l (inr d') = rw (m.others i d') l

    -- the core that changed, and another
    column_core : CoreSound t' k
    column_core =
        record {
          within = rw m.counts (or_left _ (lt-ltb k t.counts.cores within));
          suited = rw (m.becomes, m.counts) col.suited;
          idle_blank = rw m.becomes col.idle_blank;
          dropped_blank = rw m.becomes col.dropped_blank;
          named = rw (m.becomes, m.counts) col.named;
          recent = rw m.becomes col.recent;
          differ = λ j h.
              apart_differ t' k j (λ d.
              let d' : j ≢ k = λ e. d (sym e) in
              rw (m.becomes, m.others j d') (col.apart j h d'));
          carries = rw m.becomes col.carries;
        }

    other_core : (j : ℕ) → j < cores → j ≢ k → CoreSound t' j
    other_core j h d =
        let x = s.core j h in
        record {
          within = rw (m.counts, m.others j d) x.within;
          suited = rw (m.others j d, m.counts) x.suited;
          idle_blank = rw (m.others j d) x.idle_blank;
          dropped_blank = rw (m.others j d) x.dropped_blank;
          named = rw (m.others j d, m.counts) x.named;
          recent = rw (m.others j d) (col.others_recent j h);
          differ = λ i l. apart_differ t' j i (λ e. go i l e (same_or_not i k));
          carries = rw (m.others j d) (column_carries j h d);
        }
      where
        go : (i : ℕ) → i < cores → j ≢ i → (i ≡ k) ⊎ (i ≢ k) → Apart (core_of t' j) (core_of t' i)
        go i l d' (inl q) = rw (q, m.becomes, m.others j d) (apart_sym e.core (core_of t j) (col.apart j h d))
        go i l d' (inr q) = rw (m.others i q, m.others j d) (differ_apart t j i d' ((s.core j h).differ i l))

    pub column_changed : Almost t'
    column_changed =
        record {
          counts = rw m.counts s.counts;
          core = λ j h. core j h (same_or_not j k);
          agrees = λ u l j h. agrees u l j h (same_or_not j k);
          few = column_few;
        }
      where
        core : (j : ℕ) → j < cores → (j ≡ k) ⊎ (j ≢ k) → CoreSound t' j
        core j h (inl q) = rw q column_core
        core j h (inr d) = other_core j h d

        agrees : (u : ℕ) → u < units → (j : ℕ) → j < cores → (j ≡ k) ⊎ (j ≢ k) → S.agrees (core_of t' j) u (register_of t' u j) ≡ true
        agrees u l j h (inl q) = rw (q, m.becomes, affected_shown t shaped k small u l e) (col.agrees u l)
        agrees u l j h (inr d) = rw (m.others j d, m.registers u l j d) ((s.unit u l).agrees j h)

-- a core that keeps its own ticket and its first unit; it carries n, has v for its second unit, and its state is z
abbrev pub stays : Core → Ticket → UnitNo → State → Core
stays c n v z = core c.own n c.first v z

-- a live core does so, while the counter stands
abbrev pub staying : Table → ℕ → Ticket → UnitNo → State → Move → Effect
staying t k n v z d = makes (stays (core_of t k) n v z) d Done n t.counter

-- and its column
pub record Staying (t : Table) (k : ℕ) (n : Ticket) (v : UnitNo) (z : State) (d : Move) : Type 0 where
  pub was : is_live_lem (core_of t k).state ≡ true
  pub live : is_live_lem z ≡ true
  pub suited : suits t.counts.profile z ≡ true
  pub named : S.names t (stays (core_of t k) n v z) (two_stage_lem z) ≡ true
  pub carries : S.carries (affected t k (staying t k n v z d)) (stays (core_of t k) n v z) ≡ true
  pub lends : (j : ℕ) → j < cores → j ≢ k → two_stage_lem (core_of t j).state ≡ true → Lends (core_of t j) (core_of t k) → unserved z ≡ true
  pub agrees : (u : ℕ) → u < units → S.agrees (stays (core_of t k) n v z) u (shown t k d u) ≡ true

pub stayed :
    (t : Table) (shaped : Shaped t) (s : Sound t) (k : ℕ) (within : k < t.counts.cores) (n : Ticket) (v : UnitNo) (z : State) (d : Move) →
    Staying t k n v z d →
    Almost (affected t k (staying t k n v z d))
stayed t shaped s k within n v z d y =
    let small = small t shaped s k within in
    column_changed t shaped s k within (staying t k n v z d)
    (record {
      suited = y.suited;
      idle_blank = or_left _ (ap not (live_busy z y.live));
      dropped_blank = or_left _ (ap not (live_undropped z y.live));
      named = or_right (is_idle_lem z) y.named;
      recent = or_right (not (is_live_lem z)) (so (is_live_lem (core_of t k).state) _ y.was (s.core k small).recent);
      others_recent = λ j h. (s.core j h).recent;
      apart = λ j h d p. differ_apart t k j (λ e. d (sym e)) ((s.core k small).differ j h) y.was;
      carries = y.carries;
      lends = λ j h d two l. record { unserved = y.lends j h d two l; first = l.first; own = l.own };
      agrees = y.agrees;
    })
  where
    so : (b h : Bool) → b ≡ true → (not b || h) ≡ true → h ≡ true
    so true h e p = p
    so false h e p = absurd (clash e refl)
