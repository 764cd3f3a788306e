-- A line is no longer than the longest, and what a program holds stays so. The tickets of an allowed step are the counter, the core's own or
-- carried one, or what a register shows, and a sound table's registers show its cores' tickets; its grants are of its units and cores.
use Prim.Native.Nat.{ℕ, zero, suc, ◌≤◌, ◌<◌}
use mathlib.Core.Bool.{Bool, true, false, cond}
use mathlib.Core.List.{Memᴰ}
use mathlib.Core.Logic.{◌⊎◌, inl, inr, ⊎_elim, ◌≢◌}
use mathlib.Core.Path.{◌≡◌, refl, sym, ◌∙◌, ap, subst}
use native.Mathlib.Omega.{arith}
use lib.ListN.{length, get_or, replicate}
use Rattle.ticket.specs.Kinds.{ticket}
use Rattle.ticket.specs.Order.{circle, compare, after}
use Rattle.ticket.specs.declared.kinds.Grant.{Grant}
use Rattle.ticket.specs.declared.kinds.Ticket.{Ticket}
use Rattle.parts.specs.Answer.{number_of, whose}
use Rattle.parts.specs.Parts.{cores, units, idle, dropped}
use Rattle.parts.specs.Range.{in_range}
use Rattle.parts.specs.State.{two_stage_lem}
use Rattle.parts.specs.declared.answer.Answer.{Answer}
use Rattle.parts.specs.declared.answer.Answer.TheVariants.{Done, OutOfRange}
use Rattle.parts.specs.declared.answer.Grants.{Grants}
use Rattle.parts.specs.declared.answer.Grants.TheVariants.{None, One, Two}
use Rattle.parts.specs.declared.answer.Step.{Step}
use Rattle.parts.specs.declared.answer.Step.TheVariants.{R, N, P, I, C, L}
use Rattle.parts.specs.declared.kinds.Core.{Core}
use Rattle.parts.specs.declared.kinds.Counts.{Counts}
use Rattle.parts.specs.declared.kinds.Profile.{Profile}
use Rattle.parts.specs.declared.kinds.Profile.TheVariants.{T, D}
use Rattle.parts.specs.declared.kinds.Register.{Register}
use Rattle.settling.specs.Line.{next}
use Rattle.settling.specs.Best.{Best, Nobody, Won}
use Rattle.refusals.specs.Verdict.{Verdict, Allowed, Refused}
use Rattle.effects.specs.Effect.{interrupt, heritable, heir}
use Rattle.effects.specs.declared.kinds.Effect.{Effect}
use Rattle.block.specs.Settle.{settle}
use Rattle.block.specs.Skipping.{skipped}
use Rattle.block.specs.Sound.{sound}
use Rattle.block.specs.Steps.{verdict, awaited, effect_on, moves, performed, refusal, on_sound, step}
use Rattle.block.specs.Table.{core_of, unit_of, register_of}
use Rattle.block.specs.declared.stepped.Stepped.{Stepped}
use Rattle.block.specs.declared.table.Table.{Table}
use Rattle.building.specs.Build.{fresh, least, build}
use Rattle.building.specs.declared.building.Built.{Built}
use Rattle.laws.specs.Granting.{listed}
use Rattle.expected.specs.Expected.{expected_most, expected_bytes}
use Rattle.room.specs.Claims.{Held, LineMost}
use Rattle.parts.proofs.Along.{same_or_not}
use Rattle.parts.proofs.Ranging.{first_few}
use Rattle.settling.proofs.Picking.{next_won}
use Rattle.block.proofs.Allows.{may_come_back}
use Rattle.block.proofs.Answering.{poll_in}
use Rattle.block.proofs.DroppedFirst.{skip_first, skipped_shaped, skipped_sound, skipped_present}
use Rattle.block.proofs.DropsKept.{skipped_same, skipped_core}
use Rattle.block.proofs.Parts.{parts}
use Rattle.block.proofs.Standing.{first_in}
use Rattle.block.proofs.Suited.{live_busy}
use Rattle.block.proofs.Stepping.{inherited, poll_cases, come_cases}
use Rattle.block.proofs.Agreeing.{agreeing}
use Rattle.block.proofs.Touched.{AllPresent}
use Rattle.laws.proofs.Claims.{on_sound_lem}
use Rattle.laws.proofs.Granting.{accepted, refused, granted_placed, two_classes}
use Rattle.laws.proofs.Keeping.{fresh_shaped}
use Rattle.block.proofs.Kept.{two_stage_lem_lem, moves_shaped, moves_moved}
use Rattle.laws.proofs.Settling.{settle_shaped, settle_same}
use Rattle.expected.proofs.Lengths.{Placed, expected_most_lem}

-- What an allowed step gives

-- its tickets have sixteen bits, and its answer one digit
record Small (e : Effect) : Type 0 where
  counter : e.counter.0 < circle
  ticket : e.ticket.0 < circle
  own : e.core.own.0 < circle
  carried : e.core.carried.0 < circle
  answer : number_of e.answer ≤ 9

after_small : (n : ℕ) → after n < circle
unfolding after
after_small n = omega arith

module _ (t : Table) (held : Held t) (ok : sound t ≡ true) where
  -- a register shows its core's own ticket or the carried one, or is blank
  register_small : (u k : ℕ) → u < units → k < cores → (register_of t u k).ticket.0 < circle
  register_small u k h l =
      let r = register_of t u k in
      agreeing (core_of t k) u r (((parts t ok).unit u h).agrees k l)
      (λ a. omega (arith, a.shows.ticket, held.own k))
      (λ a. omega (arith, a.shows.ticket, held.carried k))
      (λ b. omega (arith, ap (λ (z : Register). z.ticket.0) b))

  -- so what a poll inherits is small
  inherited_small : (k : ℕ) → k < cores → two_stage_lem (core_of t k).state ≡ true → (inherited t (core_of t k)).0 < circle
  inherited_small k l two = go (next cores (unit_of t u)) refl
    where
      u : ℕ
      u = (core_of t k).first.0

      n : Ticket
      n = (core_of t k).own

      pick : (b : Bool) (m : Ticket) → m.0 < circle → (cond b m n).0 < circle
      pick true m h = h
      pick false m h = held.own k

      go : (b : Best) → next cores (unit_of t u) ≡ b → (heir n b).0 < circle
      go Nobody e = held.own k
      go (Won j m) e =
          let w = next_won cores (unit_of t u) j m e in
          let place = first_in t (parts t ok) k l (live_busy (core_of t k).state (two_stage_lem_lem (core_of t k).state two).live) in
          pick (heritable (compare m.0 n.0)) m
          (omega (arith, ap (λ (z : Ticket). z.0) w.1, register_small u j.0 place w.2))

  effect_small : (x : Step) → verdict t x ≡ Allowed → Small (effect_on t x)
  effect_small (R k u) may =
      let n = held.counter in record { counter = after_small t.counter.0; ticket = n; own = n; carried = n; answer = omega arith }
  effect_small (N k u) may =
      let n = held.own k.0 in record { counter = held.counter; ticket = n; own = n; carried = n; answer = omega arith }
  effect_small (P k) may =
      let o = held.own k.0 in
      let n = held.carried k.0 in
      poll_cases t k Small
      (λ flag. record { counter = held.counter; ticket = n; own = o; carried = n; answer = omega arith })
      (λ flag two.
      let h = inherited_small k.0 (poll_in t k ok may).0 two in
      record { counter = held.counter; ticket = h; own = o; carried = h; answer = omega arith })
      (λ flag one. record { counter = held.counter; ticket = n; own = o; carried = n; answer = omega arith })
  effect_small (I k) may = let c = core_of t k.0 in go t.counts.profile (register_of t (awaited c) k.0).flag
    where
      go : (p : Profile) (flag : Bool) → Small (interrupt p t.counter (core_of t k.0) flag)
      go T flag = let n = held.own k.0 in record { counter = held.counter; ticket = n; own = n; carried = n; answer = omega arith }
      go D true = record { counter = held.counter; ticket = held.own k.0; own = omega arith; carried = omega arith; answer = omega arith }
      go D false = let n = held.own k.0 in record { counter = held.counter; ticket = n; own = n; carried = n; answer = omega arith }
  effect_small (C k) may =
      let n = held.own k.0 in
      let m = held.counter in
      come_cases t.counter (core_of t k.0) Small
      (λ away. record { counter = m; ticket = n; own = n; carried = n; answer = omega arith })
      (λ marked. record { counter = m; ticket = n; own = n; carried = n; answer = omega arith })
      (λ gone. record { counter = after_small t.counter.0; ticket = m; own = m; carried = m; answer = omega arith })
      (may_come_back t k may).state
  effect_small (L k) may =
      record { counter = held.counter; ticket = held.own k.0; own = omega arith; carried = omega arith; answer = omega arith }

-- a step of a sound table is performed or refused
by_verdict :
    (t : Table) (x : Step) (Q : Stepped → Type 0) →
    sound t ≡ true →
    (verdict t x ≡ Allowed → Q (performed t x)) →
    ((a : Answer) → Q (refusal t a)) →
    Q (step t x)
by_verdict t x Q ok done turned = subst Q (sym (on_sound_lem t x ok)) (go (verdict t x) refl)
  where
    go : (v : Verdict) → verdict t x ≡ v → Q (on_sound t x)
    go Allowed e = subst Q (sym (accepted t x e)) (done e)
    go (Refused a) e = subst Q (sym (refused t x a e)) (turned a)

-- What a program holds

module _ (t : Table) (x : Step) (held : Held t) (ok : sound t ≡ true) where
  -- between a step's moves and its settling
  held_moves : verdict t x ≡ Allowed → Held (moves t x)
  held_moves may =
      let e = effect_small t held ok x may in
      record {
        shaped = moves_shaped t held.shaped (parts t ok) x may;
        counter = e.counter;
        own = λ j. at_core (λ c. c.own.0 < circle) e.own held.own j (same_or_not j (whose x).0);
        carried = λ j. at_core (λ c. c.carried.0 < circle) e.carried held.carried j (same_or_not j (whose x).0);
      }
    where
      at_core :
          (Q : Core → Type 0) →
          Q (effect_on t x).core →
          ((j : ℕ) → Q (core_of t j)) →
          (j : ℕ) →
          (j ≡ (whose x).0) ⊎ (j ≢ (whose x).0) →
          Q (core_of (moves t x) j)
      at_core Q new old j (inl e) =
          subst (λ (i : ℕ). Q (core_of (moves t x) i)) (sym e)
          (subst Q (sym (moves_moved t held.shaped (parts t ok) x may).becomes) new)
      at_core Q new old j (inr d) = subst Q (sym ((moves_moved t held.shaped (parts t ok) x may).others j d)) (old j)

-- settling that drops nobody keeps the cores and the counter
held_settled : (t : Table) → AllPresent t → Held t → Held (settle t).table
held_settled t present held =
    let same = settle_same t present in
    record {
      shaped = settle_shaped t present held.shaped;
      counter = rw same.2 held.counter;
      own = rw same.0 held.own;
      carried = rw same.0 held.carried;
    }

-- dropping ends tickets
held_skipped : (t : Table) (x : Step) → Held t → sound t ≡ true → Held (skipped t x)
held_skipped t x held ok =
    record {
      shaped = skipped_shaped t x held.shaped ok;
      counter = rw (skipped_same t x).1 held.counter;
      own = λ k. at_core (λ c. c.own.0 < circle) k (held.own k) (omega arith);
      carried = λ k. at_core (λ c. c.carried.0 < circle) k (held.carried k) (omega arith);
    }
  where
    at_core : (Q : Core → Type 0) (k : ℕ) → Q (core_of t k) → Q (dropped (core_of t k)) → Q (core_of (skipped t x) k)
    at_core Q k old gone = ⊎_elim (λ e. subst Q (sym e) old) (λ e. subst Q (sym e.1) gone) (skipped_core t x held.shaped ok k)

pub held_step : (t : Table) (x : Step) → Held t → sound t ≡ true → Held (step t x).table
held_step t x held ok =
    let w = skipped t x in
    let fine = skipped_sound t x held.shaped ok in
    let there = held_skipped t x held ok in
    subst (λ (y : Stepped). Held y.table) (on_sound_lem w x fine ∙ sym (skip_first t x held.shaped ok) ∙ sym (on_sound_lem t x ok))
    (by_verdict w x (λ (y : Stepped). Held y.table) fine
    (λ may. held_settled (moves w x) (skipped_present t x held.shaped ok may) (held_moves w x there fine may))
    (λ a. there))

-- every place of an array of idle cores reads idle, and so does every place past it
all_idle : (n k : ℕ) → get_or (replicate n idle) k idle ≡ idle
all_idle zero k = refl
all_idle (suc n) zero = refl
all_idle (suc n) (suc k) = all_idle n k

held_fresh : (c : Counts) (n : Ticket) → n.0 < circle → Held (fresh c n)
held_fresh c n small =
    record {
      shaped = fresh_shaped c n;
      counter = small;
      own = λ k. rw (all_idle cores k) (omega arith);
      carried = λ k. rw (all_idle cores k) (omega arith);
    }

pub held_built : (c : Counts) (n : Ticket) → n.0 < circle → Held (build c n).table
held_built c n small = go (in_range c)
  where
    built : Bool → Built
    built b = cond b (record { table = fresh c n; answer = Done }) (record { table = fresh least (ticket 0); answer = OutOfRange })

    go : (b : Bool) → Held (built b).table
    go true = held_fresh c n small
    go false = held_fresh least (ticket 0) (omega arith)

-- The line

module _ (t : Table) (x : Step) (held : Held t) (ok : sound t ≡ true) (may : verdict t x ≡ Allowed) where
  -- a grant is of a unit and of a core
  grant_placed : (g : Grant) → Memᴰ g (listed (on_sound t x).grants) → (g.unit.0 < units) × (g.core.0 < cores)
  grant_placed = granted_placed t held.shaped ok x

  grants_placed : (l : Grants) → (on_sound t x).grants ≡ l → Placed l
  grants_placed None e = tt
  grants_placed (One g) e = grant_placed g (rw e (Memᴰ.head refl))
  grants_placed (Two g h) e =
      let c = two_classes t held.shaped ok x g h e in
      let p = grant_placed g (rw e (Memᴰ.head refl)) in
      let q = grant_placed h (rw e (Memᴰ.tail (Memᴰ.head refl))) in
      (omega (arith, c.first, first_few t.counts (parts t ok).counts), p.1, q.0, q.1)

  performed_placed : Placed (performed t x).grants
  performed_placed = rw (accepted t x may) at (grants_placed (on_sound t x).grants refl)

-- what a step gives: its ticket has sixteen bits, and its grants are of units and cores
pub step_placed : (t : Table) (x : Step) → Held t → sound t ≡ true → ((step t x).ticket.0 < circle) × Placed (step t x).grants
step_placed t x held ok =
    by_verdict t x (λ (y : Stepped). (y.ticket.0 < circle) × Placed y.grants) ok
    (λ may. ((effect_small t held ok x may).ticket, performed_placed t x held ok may))
    (λ a. (omega arith, tt))

pub line_most_lem : LineMost
line_most_lem t x i held ok few =
    by_verdict t x (λ (y : Stepped). length (expected_bytes i y.answer y.ticket y.grants) ≤ expected_most) ok
    (λ may.
    let e = effect_small t held ok x may in
    let y = performed t x in
    expected_most_lem i y.answer y.ticket y.grants few (omega (arith, e.ticket)) (performed_placed t x held ok may)
    (inr e.answer))
    (λ a. expected_most_lem i a (ticket 0) None few (omega arith) tt (inl refl))
