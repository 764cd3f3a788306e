-- Each allowed step, before settling, leaves a table that is sound but for flags to be set. It changes one column: what the core
-- shows at its units agrees with its new state, and whoever carries its ticket still may.
use Prim.Native.Nat.{ℕ, ◌+◌, ◌<◌, ◌≤◌}
use mathlib.Core.Bool.{Bool, true, false, cond, ◌&&◌, ◌||◌, not}
use mathlib.Core.Logic.{◌⊎◌, inl, inr, ⊎_elim, ◌≢◌}
use mathlib.Core.Path.{◌≡◌, refl, sym, ◌∙◌, ap}
use native.Mathlib.Omega.{arith}
use lib.Dec.{eqb, ltb, leb}
use borrow.Author.Tests.{eqb-true, eq-eqb, ne_eqb, ltb-true, lt-ltb, leb-true, le-leb}
use Rattle.ticket.specs.Order.{half, behind, compare, after, Window}
use Rattle.ticket.specs.declared.kinds.CoreNo.{CoreNo}
use Rattle.ticket.specs.declared.kinds.Ticket.{Ticket}
use Rattle.ticket.specs.declared.kinds.UnitNo.{UnitNo}
use Rattle.ticket.specs.declared.order.Comparison.{Comparison}
use Rattle.ticket.specs.declared.order.Comparison.TheVariants.{Older, Younger, Same, Opposite}
use Rattle.parts.specs.Answer.{whose}
use Rattle.parts.specs.State.{is_idle_lem, is_live_lem, is_marked, is_dropped, stands, holds_first, two_stage_lem, unserved}
use Rattle.parts.specs.Profile.{suits}
use Rattle.parts.specs.Parts.{cores, units, unit_no, standing, core}
use Rattle.parts.specs.declared.answer.Step.{Step}
use Rattle.parts.specs.declared.answer.Step.TheVariants.{R, N, P, I, C, L}
use Rattle.parts.specs.declared.kinds.Core.{Core}
use Rattle.parts.specs.declared.kinds.Profile.{Profile}
use Rattle.parts.specs.declared.kinds.Profile.TheVariants.{T, D}
use Rattle.parts.specs.declared.kinds.Register.{Register}
use Rattle.parts.specs.declared.kinds.State.{State}
use Rattle.parts.specs.declared.kinds.State.TheVariants.{Idle, Waiting, Holding, WaitingSecond, HoldingBoth, Away, Marked, Dropped}
use Rattle.settling.specs.Line.{in_line, next}
use Rattle.settling.specs.Best.{Best, Nobody, Won}
use Rattle.refusals.specs.Judge.{far, old, stretched}
use Rattle.soundness.specs.Sound.{half_behind_lem, reads_older_lem}
use Rattle.refusals.specs.Verdict.{Allowed}
use Rattle.effects.specs.Effect.{request, release, counts_dropped, marked_away, interrupt, enter_again, go_on, heritable, heir}
use Rattle.effects.specs.declared.kinds.Move.TheVariants.{Stay, Enter, Carry, GiveUp}
use Rattle.effects.specs.declared.kinds.Effect.{Effect}
use Rattle.block.specs.Table.{core_of, unit_of, register_of, unit_count, Shaped}
use Rattle.block.specs.Sound as S
use Rattle.block.specs.Parts.{Sound}
use Rattle.block.specs.Steps.{verdict, awaited, effect_on, affected, moves}
use Rattle.block.specs.declared.table.Table.{Table}
use Rattle.ticket.proofs.Laws.{seen, told, never_opposite}
use Rattle.ticket.proofs.Circle.{behind_leads, behind_only, behind_self}
use Rattle.parts.proofs.Along.{same_or_not}
use Rattle.parts.proofs.Bools.{and_left, and_right, and_both, or_left, or_right, or_cases, clash}
use Rattle.parts.proofs.Folds.{at_some, some_none, count_unique}
use Rattle.settling.proofs.Picking.{next_won}
use Rattle.block.proofs.Allows.{ComingBack, may_request, may_nest, may_poll, may_come_back, may_interrupt, may_release}
use Rattle.block.proofs.Standing.{units_few, no_and, bare}
use Rattle.block.proofs.Stepping.{holding, carrying, inherited, come_cases, poll_moves}
use Rattle.block.proofs.Almost.{Almost}
use Rattle.block.proofs.Agreeing.{at_first, in_line_at}
use Rattle.block.proofs.Suited.{live_busy, stands_live, two_in_T, single_in_D, two_undropped, suits_idle, suits_waiting, suits_holding, suits_T, suits_D, none_second}
use Rattle.block.proofs.Moving.{Moved, entered, affected_shaped, affected_moved}
use Rattle.block.proofs.Columns.{lending, lenders_others, sound_few, sound_almost, small, column_changed, stays, staying, stayed}

-- the units that a core names
module _ (t : Table) (c : Core) where
  pub record Two : Type 0 where
    pub first : c.first.0 < t.counts.first
    pub low : t.counts.first ≤ c.second.0
    pub high : c.second.0 < unit_count t

  pub names_two : S.names t c true ≡ true → Two
  names_two e =
      let p = ltb c.first.0 t.counts.first in
      let q = p && leb t.counts.first c.second.0 in
      let l = and_left q _ e in
      record {
        first = ltb-true c.first.0 t.counts.first (and_left p _ l);
        low = leb-true t.counts.first c.second.0 (and_right p _ l);
        high = ltb-true c.second.0 (unit_count t) (and_right q _ e);
      }

  two_names : Two → S.names t c true ≡ true
  two_names w = and_both (and_both (lt-ltb _ _ w.first) (le-leb _ _ w.low)) (lt-ltb _ _ w.high)

  names_first : (b : Bool) → S.names t c b ≡ true → c.first.0 < unit_count t
  names_first true e = let w = names_two e in omega arith
  names_first false e = ltb-true c.first.0 (unit_count t) e

-- a unit of the table, and a live core's first unit
unit_small : (t : Table) → Sound t → (u : ℕ) → u < unit_count t → u < units
unit_small t s u h = omega (arith, units_few t.counts s.counts)

first_there : (t : Table) → Sound t → (k : ℕ) → k < cores → is_idle_lem (core_of t k).state ≡ false → (core_of t k).first.0 < unit_count t
first_there t s k h live = names_first t (core_of t k) (two_stage_lem (core_of t k).state) (simp live at (s.core k h).named)

-- the same, between a step's moves and its settling
pub first_place : (t : Table) → Almost t → (k : ℕ) → k < cores → is_idle_lem (core_of t k).state ≡ false → (core_of t k).first.0 < units
first_place t a k h live =
    let low = names_first t (core_of t k) (two_stage_lem (core_of t k).state) (simp live at (a.core k h).named) in
    omega (arith, units_few t.counts a.counts)

-- "1 to 32,768 behind the counter", as the comparison tells it and as the window has it
module _ (n x : ℕ) where
  half_window : half_behind_lem (compare x n) ≡ true → Window n x
  half_window = go (compare x n) refl
    where
      go : (y : Comparison) → compare x n ≡ y → half_behind_lem y ≡ true → Window n x
      go Older e h = let d = seen n x Older e in record { least = d.0; most = omega (arith, d.1) }
      go Younger e h = absurd (clash h refl)
      go Same e h = absurd (clash h refl)
      go Opposite e h = let d : behind n x ≡ half = seen n x Opposite e in record { least = omega arith; most = omega arith }

  window_half : Window n x → half_behind_lem (compare x n) ≡ true
  window_half w = go (compare x n) refl
    where
      go : (y : Comparison) → compare x n ≡ y → half_behind_lem y ≡ true
      go Older e = refl
      go Younger e = let d : half < behind n x = seen n x Younger e in absurd (omega (arith, w.most))
      go Same e = let d : behind n x ≡ 0 = seen n x Same e in absurd (omega (arith, w.least))
      go Opposite e = refl

  -- and nearer than 32,768, where the ticket is not far
  near : far (compare x n) ≡ false → behind n x < half
  near = go (compare x n) refl
    where
      go : (y : Comparison) → compare x n ≡ y → far y ≡ false → behind n x < half
      go Older e h = (seen n x Older e).1
      go Younger e h = absurd (clash refl h)
      go Same e h = let d : behind n x ≡ 0 = seen n x Same e in omega arith
      go Opposite e h = absurd (clash refl h)

-- a live core's own ticket lies in the window behind the counter
module _ (t : Table) (c : Core) where
  pub recent_window : is_live_lem c.state ≡ true → S.recent t c ≡ true → Window t.counter.0 c.own.0
  recent_window live h = half_window t.counter.0 c.own.0 (go (is_live_lem c.state) _ live h)
    where
      go : (b p : Bool) → b ≡ true → (not b || p) ≡ true → p ≡ true
      go true p e q = q
      go false p e q = absurd (clash e refl)

  window_recent : (is_live_lem c.state ≡ true → Window t.counter.0 c.own.0) → S.recent t c ≡ true
  window_recent w = go (is_live_lem c.state) w
    where
      go : (b : Bool) → (b ≡ true → Window t.counter.0 c.own.0) → (not b || half_behind_lem (compare c.own.0 t.counter.0)) ≡ true
      go false w = refl
      go true w = window_half t.counter.0 c.own.0 (w refl)

pub live_window :
    (t : Table) →
    Sound t →
    (j : ℕ) →
    j < cores →
    is_live_lem (core_of t j).state ≡ true →
    Window t.counter.0 (core_of t j).own.0
live_window t s j h live = recent_window t (core_of t j) live (s.core j h).recent

-- a core that is not idle is one of the table's
pub live_within : (t : Table) → Sound t → (j : ℕ) → j < cores → is_idle_lem (core_of t j).state ≡ false → j < t.counts.cores
live_within t s j h live =
    ⊎_elim (ltb-true j t.counts.cores) (λ e. absurd (clash e live)) (or_cases (ltb j t.counts.cores) _ (s.core j h).within)

-- where 15 is not due, no live ticket lies half a circle behind
pub live_close :
    (t : Table) →
    Sound t →
    stretched t.counter t.cores t.counts.cores ≡ false →
    (j : ℕ) →
    j < cores →
    is_live_lem (core_of t j).state ≡ true →
    behind t.counter.0 (core_of t j).own.0 < half
live_close t s close j h live =
    near t.counter.0 (core_of t j).own.0
    (go (is_live_lem (core_of t j).state) _ live
    (some_none (λ (i : ℕ). old t.counter (core_of t i)) t.counts.cores close j (live_within t s j h (live_busy (core_of t j).state live))))
  where
    go : (b p : Bool) → b ≡ true → (b && p) ≡ false → p ≡ false
    go true p e q = q
    go false p e q = absurd (clash e refl)

-- so the counter may move: the ticket lies one further behind it
next_window : (n x : ℕ) → behind n x < half → Window (after n) x
unfolding after
next_window n x h =
    let e : behind (after n) x ≡ behind n x + 1 = sym (behind_only (after n) x (behind n x + 1) (omega arith) (omega (arith, behind_leads n x))) in
    record { least = omega arith; most = omega arith }

-- a register entered at unit v agrees there, and the others as they did
entered_agrees :
    (t : Table) (k : ℕ) (c : Core) (v : ℕ) (r : Register) →
    S.agrees c v r ≡ true →
    ((u : ℕ) → u < units → u ≢ v → S.agrees c u (register_of t u k) ≡ true) →
    (u : ℕ) →
    u < units →
    S.agrees c u (entered t k v r u) ≡ true
entered_agrees t k c v r here there u h = go (same_or_not u v)
  where
    go : (u ≡ v) ⊎ (u ≢ v) → S.agrees c u (entered t k v r u) ≡ true
    go (inl e) = rw (eq-eqb u v e, e) here
    go (inr d) = rw (ne_eqb u v d) (there u h d)

-- a register with its flag set shows a held unit, where it stands
held_at :
    (b y : Bool) (r : Register) (n : Ticket) →
    (b ≡ true → r.flag ≡ true) →
    cond b (S.shows r n false) y ≡ true →
    cond b (S.shows r n true) y ≡ true
held_at true y r n f h = and_both (and_left (r.valid && eqb r.ticket.0 n.0) _ h) (or_left false (f refl))
held_at false y r n f h = h

cond_else : (b x y y' : Bool) → (y ≡ true → y' ≡ true) → cond b x y ≡ true → cond b x y' ≡ true
cond_else true x y y' f h = h
cond_else false x y y' f h = f h

pub record TwoStage (z : State) : Type 0 where
  pub live : is_live_lem z ≡ true
  pub busy : is_idle_lem z ≡ false
  pub marked : is_marked z ≡ false
  pub stands : stands z ≡ true
  pub first : holds_first z ≡ true

pub two_stage_lem_lem : (z : State) → two_stage_lem z ≡ true → TwoStage z
two_stage_lem_lem Idle e = absurd (clash e refl)
two_stage_lem_lem Waiting e = absurd (clash e refl)
two_stage_lem_lem Holding e = absurd (clash e refl)
two_stage_lem_lem WaitingSecond e = record { live = refl; busy = refl; marked = refl; stands = refl; first = refl }
two_stage_lem_lem HoldingBoth e = record { live = refl; busy = refl; marked = refl; stands = refl; first = refl }
two_stage_lem_lem Away e = absurd (clash e refl)
two_stage_lem_lem Marked e = absurd (clash e refl)
two_stage_lem_lem Dropped e = absurd (clash e refl)

-- a core with a second unit has the flag of its first
pub first_flag :
    (t : Table) →
    Almost t →
    (j : ℕ) →
    j < cores →
    two_stage_lem (core_of t j).state ≡ true →
    (register_of t (core_of t j).first.0 j).flag ≡ true
first_flag t a j h two =
    let c = core_of t j in
    let r = register_of t c.first.0 j in
    let z = two_stage_lem_lem c.state two in
    (at_first c r z.stands (a.agrees c.first.0 (first_place t a j h z.busy) j h)).shows.flag z.first

-- core d waits for unit u, its first, or is marked away from it, with the ticket n
pub record WaitsAt (d : Core) (u : ℕ) (n : Ticket) : Type 0 where
  pub unserved : unserved d.state ≡ true
  pub live : is_live_lem d.state ≡ true
  pub first : d.first.0 ≡ u
  pub own : d.own.0 ≡ n.0

-- so does whoever is in line at a first-class unit
pub in_line_waits :
    (t : Table) (d : Core) (u : ℕ) (r : Register) →
    u < t.counts.first →
    S.named t d ≡ true →
    S.agrees d u r ≡ true →
    in_line r ≡ true →
    WaitsAt d u r.ticket
in_line_waits t d u r low named agrees line =
    ⊎_elim
    (λ a.
    record {
      unserved = ⊎_elim (λ e. ap unserved e) (λ e. ap unserved e) a.0;
      live = stands_live d.state a.1.stands;
      first = sym a.1.unit;
      own = sym a.1.shows.ticket;
    })
    (λ a. let e = a.0 in let q = a.1.unit in absurd (omega (arith, names_two t d (simp e at named))))
    (in_line_at d u r agrees line)

-- the own ticket may be carried, and so may an older one that a register in line shows
module _ (t : Table) (s : Sound t) (k : ℕ) (small : k < cores) (e : (core_of t k).state ≡ WaitingSecond) where
  second_two : Two t (core_of t k)
  second_two = names_two t (core_of t k) (simp e at (s.core k small).named)

  own_ticket : S.carries t (stays (core_of t k) (core_of t k).own (core_of t k).second WaitingSecond) ≡ true
  own_ticket = or_left _ (eq-eqb (core_of t k).own.0 (core_of t k).own.0 refl)

  own_window : Window t.counter.0 (core_of t k).own.0
  own_window = live_window t s k small (ap is_live_lem e)

  new_ticket :
      (j : ℕ) (m : Ticket) →
      j < cores →
      WaitsAt (core_of t j) (core_of t k).first.0 m →
      compare m.0 (core_of t k).own.0 ≡ Older →
      S.carries t (stays (core_of t k) m (core_of t k).second WaitingSecond) ≡ true
  new_ticket j m h w o =
      let c' = stays (core_of t k) m (core_of t k).second WaitingSecond in
      or_right (eqb m.0 (core_of t k).own.0)
      (and_both
      (at_some (λ (i : ℕ). S.lends c' (core_of t i)) cores j h
      (lending c' (core_of t j) (record { unserved = w.unserved; first = w.first; own = w.own })))
      (ap reads_older_lem o))

  inherited_ticket : S.carries t (stays (core_of t k) (inherited t (core_of t k)) (core_of t k).second WaitingSecond) ≡ true
  inherited_ticket = go (next cores (unit_of t (core_of t k).first.0)) refl
    where
      pick :
          (x : Comparison) (j : ℕ) (m : Ticket) →
          j < cores →
          WaitsAt (core_of t j) (core_of t k).first.0 m →
          compare m.0 (core_of t k).own.0 ≡ x →
          S.carries t (stays (core_of t k) (cond (heritable x) m (core_of t k).own) (core_of t k).second WaitingSecond) ≡ true
      pick Older j m h w o = new_ticket j m h w o
      pick Younger j m h w o = own_ticket
      pick Same j m h w o = own_ticket
      pick Opposite j m h w o =
          let wm = rw w.own at (live_window t s j h w.live) in
          absurd (never_opposite t.counter.0 m.0 (core_of t k).own.0 wm own_window o)

      go :
          (b : Best) →
          next cores (unit_of t (core_of t k).first.0) ≡ b →
          S.carries t (stays (core_of t k) (heir (core_of t k).own b) (core_of t k).second WaitingSecond) ≡ true
      go Nobody q = own_ticket
      go (Won j m) q =
          let c = core_of t k in
          let w = next_won cores (unit_of t c.first.0) j m q in
          let place = unit_small t s c.first.0 (first_there t s k small (ap is_idle_lem e)) in
          let line =
          in_line_waits t (core_of t j.0) c.first.0 (register_of t c.first.0 j.0) second_two.first
          (s.core j.0 w.2).named
          ((s.unit c.first.0 place).agrees j.0 w.2)
          w.0
          in
          pick (compare m.0 c.own.0) j.0 m w.2 (rw w.1 at line) refl

-- Each step, before settling

module _ (t : Table) (shaped : Shaped t) (s : Sound t) (k : CoreNo) where
  abbrev c : Core
  c = core_of t k.0

  -- where somebody has a second unit, nobody is dropped, and so who lends is live
  lender_undropped : (j i : ℕ) → j < cores → i < cores → two_stage_lem (core_of t j).state ≡ true → is_dropped (core_of t i).state ≡ false
  lender_undropped j i h l two =
      two_undropped t.counts.profile (core_of t j).state (core_of t i).state (s.core j h).suited two (s.core i l).suited

  -- a core that stands nowhere takes a new ticket and joins: R, and C of a dropped core
  joins :
      (u : UnitNo) →
      k.0 < t.counts.cores →
      u.0 < unit_count t →
      stands c.state ≡ false →
      two_stage_lem c.state ≡ false →
      stretched t.counter t.cores t.counts.cores ≡ false →
      ((j : ℕ) → j < cores → two_stage_lem (core_of t j).state ≡ true → unserved c.state ≡ true → ⊥) →
      Almost (affected t k.0 (request u t.counter))
  joins u within unit out one close lends =
      let n = t.counter in
      let waiting = core n n u (unit_no 0) Waiting in
      let self = behind_self n.0 in
      let l = small t shaped s k.0 within in
      column_changed t shaped s k.0 within (request u n)
      (record {
        suited = suits_waiting t.counts.profile;
        idle_blank = refl;
        dropped_blank = refl;
        named = lt-ltb _ _ unit;
        recent = window_recent (affected t k.0 (request u n)) waiting (λ live. next_window n.0 n.0 (omega arith));
        others_recent = λ j h.
            window_recent (affected t k.0 (request u n)) (core_of t j)
            (λ live. next_window n.0 (core_of t j).own.0 (live_close t s close j h live));
        apart = λ j h d p live same.
            let far = (live_window t s j h live).least in
            let none = told n.0 (core_of t j).own.0 Same same in
            omega arith;
        carries = simp (eq-eqb n.0 n.0 refl);
        lends = λ j h d two x. absurd (lends j h two x.unserved);
        agrees =
            entered_agrees t k.0 waiting u.0 (standing n)
            (simp (eq-eqb u.0 u.0 refl, eq-eqb n.0 n.0 refl))
            (λ v h d.
            simp (ne_eqb v u.0 d)
            (ap S.is_blank (bare t s k.0 l v h (no_and (stands c.state) _ out) (no_and (two_stage_lem c.state) _ one))));
      })

  almost_request : (u : UnitNo) → verdict t (R k u) ≡ Allowed → Almost (moves t (R k u))
  almost_request u may =
      let r = may_request t k u may in
      joins u r.within r.unit (ap stands r.state) (ap two_stage_lem r.state) r.close
      (λ j h two x. clash x (ap unserved r.state))

  almost_nest : (u : UnitNo) → verdict t (N k u) ≡ Allowed → Almost (moves t (N k u))
  almost_nest u may =
      let r = may_nest t k u may in
      let c' = stays c c.own u WaitingSecond in
      let other : u.0 ≢ c.first.0 = omega (arith, r) in
      stayed t shaped s k.0 r.within c.own u WaitingSecond (Enter u c.own)
      (record {
        was = ap is_live_lem r.state;
        live = refl;
        suited = has_second t.counts.profile refl (omega (arith, r));
        named = two_names t c' (record { first = r.first; low = r.second; high = r.unit });
        carries = simp (eq-eqb c.own.0 c.own.0 refl);
        lends = λ j h d two l. absurd (clash l.unserved (ap unserved r.state));
        agrees =
            entered_agrees t k.0 c' u.0 (standing c.own)
            (simp (ne_eqb u.0 c.first.0 other, eq-eqb u.0 u.0 refl, eq-eqb c.own.0 c.own.0 refl))
            (λ v h d.
            simp (ne_eqb v u.0 d) (simp r.state at ((s.unit v h).agrees k.0 (small t shaped s k.0 r.within))));
      })
    where
      has_second : (p : Profile) → t.counts.profile ≡ p → 0 < t.counts.second → suits p WaitingSecond ≡ true
      has_second T e h = refl
      has_second D e h = absurd (let z = none_second t.counts s.counts e in omega arith)

  almost_come_back : verdict t (C k) ≡ Allowed → Almost (moves t (C k))
  almost_come_back may = come_cases t.counter c (λ (e : Effect). Almost (affected t k.0 e)) away marked gone r.state
    where
      r : ComingBack t k
      r = may_come_back t k may

      l : k.0 < cores
      l = small t shaped s k.0 r.within

      -- in T
      away : c.state ≡ Away → Almost (affected t k.0 (enter_again t.counter c))
      away e =
          (stayed t shaped s k.0 r.within c.own (unit_no 0) Waiting (Enter c.first c.own)
          (record {
            was = ap is_live_lem e;
            live = refl;
            suited = suits_waiting t.counts.profile;
            named = lt-ltb _ _ (first_there t s k.0 l (ap is_idle_lem e));
            carries = simp (eq-eqb c.own.0 c.own.0 refl);
            lends = λ j h d two l. refl;
            agrees =
                entered_agrees t k.0 (stays c c.own (unit_no 0) Waiting) c.first.0 (standing c.own)
                (simp (eq-eqb c.first.0 c.first.0 refl, eq-eqb c.own.0 c.own.0 refl))
                (λ u h d. simp (ne_eqb u c.first.0 d) (simp e at ((s.unit u h).agrees k.0 l)));
          }))

      -- in D, still registered, and dropped
      marked : c.state ≡ Marked → Almost (affected t k.0 (go_on t.counter c))
      marked e =
          (stayed t shaped s k.0 r.within c.own (unit_no 0) Waiting Stay
          (record {
            was = ap is_live_lem e;
            live = refl;
            suited = suits_waiting t.counts.profile;
            named = lt-ltb _ _ (first_there t s k.0 l (ap is_idle_lem e));
            carries = simp (eq-eqb c.own.0 c.own.0 refl);
            lends = λ j h d two l. refl;
            agrees = λ u h.
                let q = register_of t u k.0 in
                unmark (eqb u c.first.0) (S.flagless Marked q) (S.shows q c.own false) (S.is_blank q) (simp e at ((s.unit u h).agrees k.0 l));
          }))
        where
          unmark : (b f p q : Bool) → cond b (f && p) q ≡ true → cond b p q ≡ true
          unmark true f p q h = and_right f p h
          unmark false f p q h = h

      gone : c.state ≡ Dropped → Almost (affected t k.0 (request c.first t.counter))
      gone e =
          (joins c.first r.within (first_there t s k.0 l (ap is_idle_lem e)) (ap stands e) (ap two_stage_lem e) (r.close e)
          (λ j h two x. clash (ap is_dropped e) (lender_undropped j k.0 h l two)))

  -- in D a core is dropped: it gives up its registers, and its ticket ends
  pub almost_dropped : t.counts.profile ≡ D → k.0 < t.counts.cores → is_idle_lem c.state ≡ false → Almost (affected t k.0 (counts_dropped t.counter c))
  almost_dropped d within busy =
      let l = small t shaped s k.0 within in
      column_changed t shaped s k.0 within (counts_dropped t.counter c)
      (record {
        suited = suits_D t.counts.profile Dropped d refl;
        idle_blank = refl;
        dropped_blank = refl;
        named = lt-ltb _ _ (first_there t s k.0 l busy);
        recent = refl;
        others_recent = λ j h. (s.core j h).recent;
        apart = λ j h e p. absurd (clash p refl);
        carries = refl;
        lends = λ j h e two x. absurd (clash two (single_in_D t.counts.profile (core_of t j).state d (s.core j h).suited));
        agrees = λ u h. refl;
      })

  almost_interrupt : verdict t (I k) ≡ Allowed → Almost (moves t (I k))
  almost_interrupt may = go t.counts.profile refl (register_of t (awaited c) k.0).flag refl
    where
      r : (k.0 < t.counts.cores) × ((c.state ≡ Waiting) ⊎ (c.state ≡ WaitingSecond))
      r = may_interrupt t k may

      l : k.0 < cores
      l = small t shaped s k.0 r.0

      live : is_live_lem c.state ≡ true
      live = ⊎_elim (λ e. ap is_live_lem e) (λ e. ap is_live_lem e) r.1

      named : c.first.0 < unit_count t
      named = first_there t s k.0 l (live_busy c.state live)

      -- waiting for its first unit, and marked away from it
      mark : (b y : Bool) (q : Register) (n : Ticket) → (b ≡ true → q.flag ≡ false) → cond b (S.shows q n false) y ≡ true → cond b (S.flagless Marked q && S.shows q n false) y ≡ true
      mark true y q n f h = and_both (ap not (f refl)) h
      mark false y q n f h = h

      go : (p : Profile) → t.counts.profile ≡ p → (f : Bool) → (register_of t (awaited c) k.0).flag ≡ f → Almost (affected t k.0 (interrupt p t.counter c f))
      go T e f q =
          stayed t shaped s k.0 r.0 c.own (unit_no 0) Away GiveUp
          (record {
            was = live;
            live = refl;
            suited = suits_T t.counts.profile Away e refl;
            named = lt-ltb _ _ named;
            carries = simp (eq-eqb c.own.0 c.own.0 refl);
            lends = λ j h d two l. refl;
            agrees = λ u h. refl;
          })
      go D e true q = almost_dropped e r.0 (live_busy c.state live)
      go D e false q = ⊎_elim first second r.1
        where
          first : c.state ≡ Waiting → Almost (affected t k.0 (marked_away t.counter c))
          first z =
              stayed t shaped s k.0 r.0 c.own (unit_no 0) Marked Stay
              (record {
                was = live;
                live = refl;
                suited = suits_D t.counts.profile Marked e refl;
                named = lt-ltb _ _ named;
                carries = simp (eq-eqb c.own.0 c.own.0 refl);
                lends = λ j h d two l. refl;
                agrees = λ u h.
                    mark (eqb u c.first.0) (S.is_blank (register_of t u k.0)) (register_of t u k.0) c.own
                    (λ w. ap (λ (v : ℕ). (register_of t v k.0).flag) (eqb-true u c.first.0 w) ∙ clear)
                    (simp z at ((s.unit u h).agrees k.0 l));
              })
            where
              clear : (register_of t c.first.0 k.0).flag ≡ false
              clear = ap (λ (y : State). (register_of t (cond (two_stage_lem y) c.second.0 c.first.0) k.0).flag) (sym z) ∙ q

          second : c.state ≡ WaitingSecond → Almost (affected t k.0 (marked_away t.counter c))
          second z = absurd (clash (ap two_stage_lem z) (single_in_D t.counts.profile c.state e (s.core k.0 l).suited))

  almost_release : verdict t (L k) ≡ Allowed → Almost (moves t (L k))
  almost_release may =
      let r = may_release t k may in
      column_changed t shaped s k.0 r.0 (release t.counter c)
      (record {
        suited = suits_idle t.counts.profile;
        idle_blank = refl;
        dropped_blank = refl;
        named = refl;
        recent = refl;
        others_recent = λ j h. (s.core j h).recent;
        apart = λ j h d p. absurd (clash p refl);
        carries = refl;
        lends = λ j h d two l.
            absurd (clash l.unserved (⊎_elim (λ e. ap unserved e) (λ e. ap unserved e) r.1));
        agrees = λ u h. refl;
      })

  -- a core at the second stage lends to nobody, so what it may carry before its effect it may carry after
  carries_on :
      (e : Effect) → k.0 < cores → unserved c.state ≡ false → S.carries t e.core ≡ true → S.carries (affected t k.0 e) e.core ≡ true
  carries_on e h = lenders_others t (affected t k.0 e) k.0 e.core (affected_moved t shaped k.0 h e).others

  module _ (may : verdict t (P k) ≡ Allowed) where
    within : k.0 < t.counts.cores
    within = (may_poll t k may).0

    l : k.0 < cores
    l = small t shaped s k.0 within

    -- at the second stage the profile is T
    second_T : c.state ≡ WaitingSecond → t.counts.profile ≡ T
    second_T e = two_in_T t.counts.profile c.state (s.core k.0 l).suited (ap two_stage_lem e)

    -- P, flag set: waiting for the first unit, or for the second
    hold_first : c.state ≡ Waiting → (register_of t c.first.0 k.0).flag ≡ true → Almost (holding t k.0)
    hold_first e f =
        rw e
        (stayed t shaped s k.0 within c.carried c.second Holding Stay
        (record {
          was = ap is_live_lem e;
          live = refl;
          suited = suits_holding t.counts.profile;
          named = lt-ltb _ _ (first_there t s k.0 l (ap is_idle_lem e));
          carries = simp e at (s.core k.0 l).carries;
          lends = λ j h d two x.
              absurd
              (d (count_unique (λ (i : ℕ). (register_of t c.first.0 i).flag) cores j k.0
              (sound_few t s c.first.0 (unit_small t s _ (first_there t s k.0 l (ap is_idle_lem e)))) h l
              (rw x.first (first_flag t (sound_almost t s) j h two)) f));
          agrees = λ u h.
              held_at (eqb u c.first.0) _ (register_of t u k.0) c.own (λ q. rw (eqb-true u c.first.0 q) f)
              (simp e at ((s.unit u h).agrees k.0 l));
        }))

    hold_second : c.state ≡ WaitingSecond → (register_of t c.second.0 k.0).flag ≡ true → Almost (holding t k.0)
    hold_second e f =
        rw e
        (stayed t shaped s k.0 within c.carried c.second HoldingBoth Stay
        (record {
          was = ap is_live_lem e;
          live = refl;
          suited = suits_T t.counts.profile HoldingBoth (second_T e) refl;
          named = simp e at (s.core k.0 l).named;
          carries = carries_on (staying t k.0 c.carried c.second HoldingBoth Stay) l (ap unserved e) (simp e at (s.core k.0 l).carries);
          lends = λ j h d two x. absurd (clash x.unserved (ap unserved e));
          agrees = λ u h.
              cond_else (eqb u c.first.0) _ _ _
              (held_at (eqb u c.second.0) _ (register_of t u k.0) c.carried (λ q. rw (eqb-true u c.second.0 q) f))
              (simp e at ((s.unit u h).agrees k.0 l));
        }))

    -- P, flag clear at the second stage
    almost_carrying : c.state ≡ WaitingSecond → Almost (carrying t k.0 (inherited t c))
    almost_carrying e =
        let n = inherited t c in
        let c' = stays c n c.second WaitingSecond in
        let names = second_two t s k.0 l e in
        let other : c.second.0 ≢ c.first.0 = omega (arith, names) in
        rw e
        (stayed t shaped s k.0 within n c.second WaitingSecond (Carry n)
        (record {
          was = ap is_live_lem e;
          live = refl;
          suited = suits_T t.counts.profile WaitingSecond (second_T e) refl;
          named = two_names t c' (record { first = names.first; low = names.low; high = names.high });
          carries = carries_on (staying t k.0 n c.second WaitingSecond (Carry n)) l (ap unserved e) (inherited_ticket t s k.0 l e);
          lends = λ j h d two x. absurd (clash x.unserved (ap unserved e));
          agrees =
              entered_agrees t k.0 c' c.second.0 (standing n)
              (simp (ne_eqb c.second.0 c.first.0 other, eq-eqb c.second.0 c.second.0 refl, eq-eqb n.0 n.0 refl))
              (λ u h d.
              let away = ne_eqb u c.second.0 d in
              simp away (simp (e, away) at ((s.unit u h).agrees k.0 l)));
        }))

    almost_poll : Almost (moves t (P k))
    almost_poll = ⊎_elim at_first at_second (may_poll t k may).1
      where
        at_first : c.state ≡ Waiting → Almost (moves t (P k))
        at_first e =
            poll_moves t k Almost (λ f. hold_first e (simp e at f)) (λ f two. absurd (clash two (ap two_stage_lem e))) (sound_almost t s)

        at_second : c.state ≡ WaitingSecond → Almost (moves t (P k))
        at_second e = poll_moves t k Almost (λ f. hold_second e (simp e at f)) (λ f two. almost_carrying e) (sound_almost t s)

-- Every step

module _ (t : Table) (shaped : Shaped t) (s : Sound t) where
  pub moves_almost : (z : Step) → verdict t z ≡ Allowed → Almost (moves t z)
  moves_almost (R k u) = almost_request t shaped s k u
  moves_almost (N k u) = almost_nest t shaped s k u
  moves_almost (P k) = almost_poll t shaped s k
  moves_almost (I k) = almost_interrupt t shaped s k
  moves_almost (C k) = almost_come_back t shaped s k
  moves_almost (L k) = almost_release t shaped s k

  pub allowed_core : (z : Step) → verdict t z ≡ Allowed → (whose z).0 < t.counts.cores
  allowed_core (R k u) may = (may_request t k u may).within
  allowed_core (N k u) may = (may_nest t k u may).within
  allowed_core (P k) may = (may_poll t k may).0
  allowed_core (I k) may = (may_interrupt t k may).0
  allowed_core (C k) may = (may_come_back t k may).within
  allowed_core (L k) may = (may_release t k may).0

  -- it names a core of the table, and moves nothing but that core's column
  module _ (z : Step) (may : verdict t z ≡ Allowed) where
    pub moves_core : (whose z).0 < cores
    moves_core = small t shaped s (whose z).0 (allowed_core z may)

    pub moves_shaped : Shaped (moves t z)
    moves_shaped = affected_shaped t shaped (whose z).0 moves_core (effect_on t z)

    pub moves_moved : Moved t (moves t z) (whose z).0 (effect_on t z).core
    moves_moved = affected_moved t shaped (whose z).0 moves_core (effect_on t z)
