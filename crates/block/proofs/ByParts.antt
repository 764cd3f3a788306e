-- The step by its parts is the step. A refused step puts back what it read. An allowed one names a core and units of the table, so that
-- its places are their numbers; a unit that a core entered or left by itself is the one of the table that settled; and where the step
-- touches one unit both places are the same, so that it is put last.
use Prim.Native.Nat.{ℕ, ◌≤◌, ◌<◌}
use mathlib.Core.Bool.{Bool, true, false, cond, ◌&&◌}
use mathlib.Core.List.{List, ◌++◌}
use mathlib.Core.Logic.{⊎_elim, ◌≢◌}
use mathlib.Core.Path.{◌≡◌, refl, sym, ◌∙◌, ap, subst}
use native.Mathlib.Omega.{arith}
use lib.Dec.{eqb, ltb}
use lib.ListN.{get_or, set}
use lib.Seq.{get_or-set_other, set-get_or, set_comm}
use borrow.Author.Tests.{ltb-true, ltb-false, le-leb, eq-eqb, ne_eqb}
use Rattle.ticket.specs.Order.{compare, Window}
use Rattle.ticket.specs.declared.kinds.CoreNo.{CoreNo}
use Rattle.ticket.specs.declared.kinds.Ticket.{Ticket}
use Rattle.ticket.specs.declared.kinds.UnitNo.{UnitNo}
use Rattle.ticket.specs.declared.order.Comparison.TheVariants.{Same}
use Rattle.parts.specs.State.{stands, two_stage_lem, waits}
use Rattle.parts.specs.Parts.{cores, units, blank, standing, absent_unit, register_in, registered}
use Rattle.parts.specs.Answer.{whose, packed}
use Rattle.parts.specs.declared.kinds.Register.{Register}
use Rattle.parts.specs.declared.kinds.LockUnit.{LockUnit}
use Rattle.parts.specs.declared.kinds.Core.{Core}
use Rattle.parts.specs.declared.kinds.Counts.{Counts}
use Rattle.parts.specs.declared.kinds.Profile.{Profile}
use Rattle.parts.specs.declared.kinds.Profile.TheVariants.{T, D}
use Rattle.parts.specs.declared.answer.Answer.{Answer}
use Rattle.parts.specs.declared.answer.Answer.TheVariants.{Done, NotYet, NoCore}
use Rattle.parts.specs.declared.answer.Grants.{Grants}
use Rattle.parts.specs.declared.answer.Grants.TheVariants.{None}
use Rattle.parts.specs.declared.answer.Step.{Step}
use Rattle.parts.specs.declared.answer.Step.TheVariants.{R, N, P, I, C, L}
use Rattle.places.specs.Places.{in_units, core_place, unit_place, other_place}
use Rattle.refusals.specs.Judge.{unless, no_core, judge}
use Rattle.refusals.specs.Verdict.{Verdict, Allowed, Refused}
use Rattle.settling.specs.Line.{in_line, next, stored, won}
use Rattle.settling.specs.Settle.{enter, carry, changed}
use Rattle.settling.specs.declared.settle.Change.{Change}
use Rattle.settling.specs.Best.{Best, Nobody}
use Rattle.effects.specs.Effect.{makes, marked_away, interrupt, go_on, inherit, wait, step_effect}
use Rattle.effects.specs.declared.kinds.Move.{Move}
use Rattle.effects.specs.declared.kinds.Move.TheVariants.{Enter, GiveUp}
use Rattle.effects.specs.declared.kinds.Effect.{Effect}
use Rattle.plan.specs.Plan.{part_of, staying, refuse, with_changes, entered, leaves, given_up, carry_out, decided, effect_of, plan_step}
use Rattle.plan.specs.declared.planning.Part.{Part}
use Rattle.plan.specs.declared.planning.Plan.{Plan}
use Rattle.block.specs.Table.{core_of, unit_of, register_of, with_register, with_core, with_counter_lem, Shaped}
use Rattle.block.specs.Sound.{sound}
use Rattle.block.specs.Steps.{late, verdict, awaited, give_up, effect_on, affected, moves, settled, performed, refusal, answered, on_sound}
use Rattle.block.specs.PutBack.{changed_at, put_back}
use Rattle.block.specs.declared.table.Table.{Table}
use Rattle.block.specs.declared.stepped.Stepped.{Stepped}
use Rattle.parts.proofs.Bools.{and_left}
use Rattle.parts.proofs.Ranging.{cores_few}
use Rattle.places.proofs.Placing.{core_itself, unit_itself}
use Rattle.block.proofs.Parts.{parts}
use Rattle.settling.proofs.NextInLine.{stored_next}
use Rattle.block.proofs.Almost.{Almost}
use Rattle.block.proofs.Agreeing.{at_first}
use Rattle.block.proofs.Columns.{sound_almost}
use Rattle.block.proofs.Kept.{moves_almost}
use Rattle.block.proofs.Oldest.{shown_recent, shown_apart, oldest_nobody}
use Rattle.block.proofs.Touched.{QuietTable, AllPresent, settled_one, freed_two, Settled, settled_unit, settled_by}
use Rattle.block.proofs.Touching.{settled_none, settled_one_lem, settled_two_lem}
use Rattle.block.proofs.Settling.{there, changes, frees}
use Rattle.block.proofs.Standing.{no_and, bare, bare_one, sound_quiet}
use Rattle.block.proofs.Stepping.{quiet_elsewhere, one_cleared, two_cleared, first_unit, second_unit, clears_one, clears_two, one_quiet, two_quiet, waiting_stands, holding, carrying, inherited, poll_cases, come_cases, same_core, awaited_second}
use Rattle.block.proofs.Entering.{Past, enter_settles, leave_settles, carry_settles}
use Rattle.block.proofs.Allows.{ComingBack, may_request, may_nest, may_poll, may_interrupt, may_come_back, may_release}
use Rattle.block.proofs.Answering.{past_blank, cores_in, request_in, nest_in, poll_in, come_back_in, release_in}

-- What is put back

-- a unit that stays as it was read
module _ (n : ℕ) (k : CoreNo) where
  stayed : (x : LockUnit) → changed n k (staying (part_of k.0 x)) x ≡ x
  stayed x = ap (λ (l : List Register). record { registers = l; next = x.next }) (set-get_or x.registers k.0 blank)

  unit_stays : (us : List LockUnit) (u : ℕ) → changed_at n k u (staying (part_of k.0 (get_or us u absent_unit))) us ≡ us
  unit_stays us u = ap (set us u) (stayed (get_or us u absent_unit)) ∙ set-get_or us u absent_unit

  -- another changed before
  other_stays :
      (us : List LockUnit) (i j : ℕ) (y : LockUnit) → i ≢ j →
      changed_at n k i (staying (part_of k.0 (get_or us i absent_unit))) (set us j y) ≡ set us j y
  other_stays us i j y d =
      ap (λ (x : LockUnit). changed_at n k i (staying (part_of k.0 x)) (set us j y)) (sym (get_or-set_other us j i y absent_unit d)) ∙
      unit_stays (set us j y) i

module _ (t : Table) (k : CoreNo) where
  -- a step's end, by its units
  abbrev ended : List LockUnit → Effect → Grants → Stepped
  ended us e g =
      record {
        table = record { units = us; cores = set t.cores k.0 e.core; counts = t.counts; counter = e.counter };
        answer = e.answer;
        ticket = e.ticket;
        grants = g;
      }

  -- a refused step
  nothing : (i j : UnitNo) (a : Answer) (x y : Part) → put_back t k i j (refuse a t.counter (core_of t k.0) x y) ≡ refusal t a
  nothing i j a x y = ap (λ (z : Table). refusal z a) (same_core t k.0)

  -- the one unit, at both places, where the register of core k became r
  abbrev one_settled : UnitNo → Register → Settled
  one_settled u r = settled_unit (registered (unit_of t u.0) k.0 r)

  -- what is read of a unit, and how it settles by what became of it
  abbrev read : UnitNo → Part
  read u = part_of k.0 (unit_of t u.0)

  abbrev by_settling : Change → UnitNo → Settled
  by_settling a u = settled_by t.counts.cores k a (unit_of t u.0)

  one_put :
      (u : UnitNo) (r : Register) (b : Core) (d : Move) (n m : Ticket) (a : Change) →
      by_settling a u ≡ one_settled u r →
      put_back t k u u (with_changes (makes b d Done n m) a (staying (read u)) (packed (won u.0 a.winner)) true) ≡
      settled_one (with_core (with_register (with_counter_lem t m) u.0 k.0 r) k.0 b) u Done n
  one_put u r b d n m a es =
      ap (λ (l : List LockUnit). ended (changed_at t.counts.cores k u.0 a l) (makes b d Done n m) (packed (won u.0 a.winner)))
      (unit_stays t.counts.cores k t.units u.0) ∙
      changes (with_counter_lem t m) k.0 b u r Done n (by_settling a u) es

  -- two units, of which core k gave up its registers
  two_put :
      (u v : UnitNo) (b : Core) (d : Move) (n : Ticket) (a z : Change) →
      u.0 < v.0 →
      by_settling a u ≡ one_settled u blank →
      by_settling z v ≡ one_settled v blank →
      put_back t k u v (with_changes (makes b d Done n t.counter) a z (packed (won u.0 a.winner ++ won v.0 z.winner)) true) ≡
      freed_two t k.0 b u v n
  two_put u v b d n a z l es ez =
      ap
      (λ (us : List LockUnit). ended us (makes b d Done n t.counter) (packed (won u.0 a.winner ++ won v.0 z.winner)))
      (ap (λ (x : LockUnit). set (changed_at t.counts.cores k v.0 z t.units) u.0 (changed t.counts.cores k a x))
      (get_or-set_other t.units v.0 u.0 _ absent_unit (λ e. omega arith)) ∙
      sym (set_comm t.units u.0 v.0 (by_settling a u).unit (by_settling z v).unit (λ e. omega arith))) ∙
      frees t k.0 b u v n (by_settling a u) (by_settling z v) l es ez

-- the tickets in line at a unit of a table between its moves and its settling
module _ (t : Table) (a : Almost t) (u : ℕ) (h : u < units) (y : LockUnit) (is : unit_of t u ≡ y) where
  line_valid : (j : ℕ) → in_line (register_in y j) ≡ true → (register_of t u j).valid ≡ true
  line_valid j l = ap (λ (x : LockUnit). (register_in x j).valid) is ∙ and_left (register_in y j).valid _ l

  line_recent : (j : ℕ) → j < cores → in_line (register_in y j) ≡ true → Window t.counter.0 (register_in y j).ticket.0
  line_recent j m l =
      subst (λ (x : LockUnit). Window t.counter.0 (register_in x j).ticket.0) is (shown_recent t a u h j m (line_valid j l))

  line_apart :
      (i j : ℕ) → i < cores → j < cores → i ≢ j → in_line (register_in y i) ≡ true → in_line (register_in y j) ≡ true →
      compare (register_in y i).ticket.0 (register_in y j).ticket.0 ≢ Same
  line_apart i j m n d l q =
      subst (λ (x : LockUnit). compare (register_in x i).ticket.0 (register_in x j).ticket.0 ≢ Same) is
      (shown_apart t a u h i j m n d (line_valid i l) (line_valid j q))

-- A step of core k of a sound table that is allowed

module _ (t : Table) (shaped : Shaped t) (ok : sound t ≡ true) (k : CoreNo) (within : k.0 < t.counts.cores) where
  abbrev c : Core
  c = core_of t k.0

  abbrev n : ℕ
  n = t.counts.cores

  few : n ≤ cores
  few = cores_in t k ok

  small : k.0 < cores
  small = omega (arith, few)

  almost : Almost t
  almost = sound_almost t (parts t ok)

  -- nobody next, nobody in line
  none : (u : ℕ) → u < units → next cores (unit_of t u) ≡ Nobody → (j : ℕ) → j < cores → in_line (register_of t u j) ≡ false
  none u h = (oldest_nobody t almost u h).0

  past : (u : ℕ) → u < units → Past n (unit_of t u)
  past = past_blank t (parts t ok)

  -- Entering

  module _
      (u : UnitNo)
      (b : Core)
      (q m : Ticket)
      (h : u.0 < units)
      (bare_there : register_of t u.0 k.0 ≡ blank)
      (moved-almost : Almost (affected t k.0 (makes b (Enter u q) Done q m)))
      (present : AllPresent (affected t k.0 (makes b (Enter u q) Done q m)))
    where
      abbrev enters : Effect
      enters = makes b (Enter u q) Done q m

      entering : put_back t k u u (entered enters k u q (read t k u) (read t k u)) ≡ settled (affected t k.0 enters) Done q
      entering =
          let z = there t.units u.0 k.0 (standing q) in
          one_put t k u (standing q) b (Enter u q) q m (enter (unit_of t u.0).next k q)
          (enter_settles n (unit_of t u.0) k few (past u.0 h) (shaped.registers_long u.0 h) within ((parts t ok).unit u.0 h).one_flag
          ((parts t ok).unit u.0 h).next (none u.0 h) q m.0
          (line_recent (affected t k.0 enters) moved-almost u.0 h _ z)
          (line_apart (affected t k.0 enters) moved-almost u.0 h _ z)
          bare_there) ∙
          settled_one_lem (affected t k.0 enters) u Done q h (present u.0 h) (quiet_elsewhere t u.0 k.0 (standing q) (sound_quiet t (parts t ok)))

      enter_here :
          (two : Bool) →
          two ≡ false →
          let i = in_units u in
          let j = cond two (in_units c.second) (in_units u) in
          put_back t k i j (entered enters k u q (read t k i) (read t k j)) ≡ settled (affected t k.0 enters) Done q
      enter_here two one =
          ap
          (λ (a : Bool).
          let j = cond a (in_units c.second) (in_units u) in
          put_back t k (in_units u) j (entered enters k u q (read t k (in_units u)) (read t k j)))
          one ∙
          ap (λ (i : UnitNo). put_back t k i i (entered enters k u q (read t k i) (read t k i))) (unit_itself u h) ∙
          entering

  -- Giving up

  module _ (at : stands c.state ≡ true) where
    first_in_table : c.first.0 < units
    first_in_table = first_unit t k.0 small ok at

    first_valid : (register_of t c.first.0 k.0).valid ≡ true
    first_valid =
        (at_first c (register_of t c.first.0 k.0) at (((parts t ok).unit c.first.0 first_in_table).agrees k.0 small)).shows.valid

    left_first : by_settling t k (leaves (read t k c.first) k) c.first ≡ one_settled t k c.first blank
    left_first =
        leave_settles n (unit_of t c.first.0) k few (past c.first.0 first_in_table) (shaped.registers_long c.first.0 first_in_table) within
        ((parts t ok).unit c.first.0 first_in_table).one_flag ((parts t ok).unit c.first.0 first_in_table).next
        (none c.first.0 first_in_table) first_valid

    module _ (two : two_stage_lem c.state ≡ true) where
      second_in_table : (c.first.0 < c.second.0) × (c.second.0 < units)
      second_in_table = second_unit t k.0 small ok at two

      second_valid : (register_of t c.second.0 k.0).valid ≡ true
      second_valid =
          let r = register_of t c.second.0 k.0 in
          let other = ne_eqb c.second.0 c.first.0 (let l = second_in_table.0 in λ e. omega arith) in
          let same = eq-eqb c.second.0 c.second.0 refl in
          let agrees = ((parts t ok).unit c.second.0 second_in_table.1).agrees k.0 small in
          let shown = simp (at, other, two, same) at agrees in
          and_left r.valid (eqb r.ticket.0 c.carried.0) (and_left (r.valid && eqb r.ticket.0 c.carried.0) _ shown)

      left_second : by_settling t k (leaves (read t k c.second) k) c.second ≡ one_settled t k c.second blank
      left_second =
          leave_settles n (unit_of t c.second.0) k few (past c.second.0 second_in_table.1)
          (shaped.registers_long c.second.0 second_in_table.1) within
          ((parts t ok).unit c.second.0 second_in_table.1).one_flag ((parts t ok).unit c.second.0 second_in_table.1).next
          (none c.second.0 second_in_table.1) second_valid

    module _ (b : Core) (q : Ticket) (present : AllPresent (affected t k.0 (makes b GiveUp Done q t.counter))) where
      abbrev going : Effect
      going = makes b GiveUp Done q t.counter

      -- the same of the table where the registers are cleared one by one
      cleared : (z : Table) → give_up t k.0 ≡ z → AllPresent (with_counter_lem (with_core z k.0 b) t.counter)
      cleared z e = subst (λ (y : Table). AllPresent (with_counter_lem (with_core y k.0 b) t.counter)) e present

      leave_here :
          let i = in_units c.first in
          let j = cond (two_stage_lem c.state) (in_units c.second) (in_units c.first) in
          put_back t k i j (given_up going k c (read t k i) (read t k j)) ≡ settled (affected t k.0 going) Done q
      leave_here = go (two_stage_lem c.state) refl
        where
          one_left : UnitNo → Plan
          one_left i =
              let a = leaves (read t k i) k in with_changes going a (staying (read t k i)) (packed (won c.first.0 a.winner)) true

          two_left : UnitNo → UnitNo → Plan
          two_left i j =
              let a = leaves (read t k i) k in
              let z = leaves (read t k j) k in
              with_changes going a z (packed (won c.first.0 a.winner ++ won c.second.0 z.winner)) true

          go :
              (two : Bool) →
              two_stage_lem c.state ≡ two →
              let i = in_units c.first in
              let j = cond two (in_units c.second) (in_units c.first) in
              let a = leaves (read t k i) k in
              put_back t k i j
              (cond two (two_left i j) (with_changes going a (staying (read t k j)) (packed (won c.first.0 a.winner)) true)) ≡
              settled (affected t k.0 going) Done q
          go true two =
              let b2 = second_in_table two in
              ap (λ (i : UnitNo). put_back t k i (in_units c.second) (two_left i (in_units c.second))) (unit_itself c.first first_in_table) ∙
              ap (λ (j : UnitNo). put_back t k c.first j (two_left c.first j)) (unit_itself c.second b2.1) ∙
              two_put t k c.first c.second b GiveUp q (leaves (read t k c.first) k) (leaves (read t k c.second) k) b2.0 left_first (left_second two) ∙
              settled_two_lem (with_core (two_cleared t k.0) k.0 b) c.first c.second Done q b2.0 b2.1
              (cleared (two_cleared t k.0) (clears_two t k.0 small ok at two) c.first.0 first_in_table)
              (cleared (two_cleared t k.0) (clears_two t k.0 small ok at two) c.second.0 b2.1)
              (two_quiet t k.0 small ok at) ∙
              ap (λ (z : Table). settled (with_counter_lem (with_core z k.0 b) t.counter) Done q) (sym (clears_two t k.0 small ok at two))
          go false one =
              ap (λ (i : UnitNo). put_back t k i i (one_left i)) (unit_itself c.first first_in_table) ∙
              one_put t k c.first blank b GiveUp q t.counter (leaves (read t k c.first) k) left_first ∙
              settled_one_lem (with_core (one_cleared t k.0) k.0 b) c.first Done q first_in_table
              (cleared (one_cleared t k.0) (clears_one t k.0 small ok at one) c.first.0 first_in_table)
              (one_quiet t k.0 small ok at) ∙
              ap (λ (z : Table). settled (with_counter_lem (with_core z k.0 b) t.counter) Done q) (sym (clears_one t k.0 small ok at one))

  -- Polling: the first unit, and the one that the core waits for

  module _ (w : waits c.state ≡ true) where
    waits_at : stands c.state ≡ true
    waits_at = waiting_stands c.state w

    first_there : c.first.0 < units
    first_there = first_unit t k.0 small ok waits_at

    awaited_place : cond (two_stage_lem c.state) (in_units c.second) (in_units c.first) ≡ record { 0 = awaited c }
    awaited_place = go (two_stage_lem c.state) refl
      where
        go :
            (two : Bool) →
            two_stage_lem c.state ≡ two →
            cond two (in_units c.second) (in_units c.first) ≡ record { 0 = cond two c.second.0 c.first.0 }
        go true e = unit_itself c.second (second_unit t k.0 small ok waits_at e).1
        go false e = unit_itself c.first first_there

    -- the effect, carried out on those units
    abbrev polled : Effect → Stepped
    polled e =
        put_back t k c.first (record { 0 = awaited c })
        (carry_out e k c (read t k c.first) (part_of k.0 (unit_of t (awaited c))))

    quiet_all : QuietTable t
    quiet_all = sound_quiet t (parts t ok)

    -- the core shows another ticket at its second unit
    module _
        (two : two_stage_lem c.state ≡ true)
        (q : Ticket)
        (clear : (register_of t c.second.0 k.0).flag ≡ false)
        (moved-almost : Almost (carrying t k.0 q))
        (present : AllPresent (carrying t k.0 q))
      where
        abbrev carries : Effect
        carries = inherit t.counter c q

        second_there : (c.first.0 < c.second.0) × (c.second.0 < units)
        second_there = second_in_table waits_at two

        carry_is : record { unit = changed n k (carry (unit_of t c.second.0).next k q) (unit_of t c.second.0); winner = Nobody } ≡ one_settled t k c.second (standing q)
        carry_is =
            let h = second_there.1 in
            let z = there t.units c.second.0 k.0 (standing q) in
            let valid = second_valid waits_at two in
            carry_settles n (unit_of t c.second.0) k few (past c.second.0 h) (shaped.registers_long c.second.0 h) within
            ((parts t ok).unit c.second.0 h).one_flag ((parts t ok).unit c.second.0 h).next (none c.second.0 h) q t.counter.0
            (line_recent (carrying t k.0 q) moved-almost c.second.0 h _ z)
            (line_apart (carrying t k.0 q) moved-almost c.second.0 h _ z)
            valid clear (shown_recent t almost c.second.0 h k.0 small valid)

        carried_on :
            put_back t k c.first c.second
            (with_changes carries (staying (read t k c.first)) (carry (unit_of t c.second.0).next k q) None true) ≡
            settled (carrying t k.0 q) NotYet q
        carried_on =
            let l = second_there.0 in
            ap (λ (us : List LockUnit). ended t k us carries None) (other_stays n k t.units c.first.0 c.second.0 _ (λ d. omega arith)) ∙
            changes t k.0 carries.core c.second (standing q) NotYet q _ carry_is ∙
            settled_one_lem (carrying t k.0 q) c.second NotYet q second_there.1 (present c.second.0 second_there.1)
            (quiet_elsewhere t c.second.0 k.0 (standing q) quiet_all)

    polls :
        Almost (affected t k.0 (effect_on t (P k))) →
        AllPresent (affected t k.0 (effect_on t (P k))) →
        polled (effect_on t (P k)) ≡ settled (affected t k.0 (effect_on t (P k))) (effect_on t (P k)).answer (effect_on t (P k)).ticket
    polls =
        poll_cases t k (λ (e : Effect). Almost (affected t k.0 e) → AllPresent (affected t k.0 e) → polled e ≡ settled (affected t k.0 e) e.answer e.ticket)
        (λ flag a here. settled_none (holding t k.0) _ _ quiet_all)
        (λ flag two a here.
        let q = inherited t c in
        let e = inherit t.counter c q in
        let at_second : awaited c ≡ c.second.0 = ap (λ (b : Bool). cond b c.second.0 c.first.0) two in
        ap
        (λ (v : ℕ).
        put_back t k c.first (record { 0 = v })
        (with_changes e (staying (read t k c.first)) (carry (unit_of t v).next k q) None true))
        at_second ∙
        carried_on two q (awaited_second t k.0 two flag) a here)
        (λ flag one a here.
        settled_none (affected t k.0 (wait t.counter c)) _ _ (subst QuietTable (sym (same_core t k.0)) quiet_all))

    -- what is read at the places is what the step reads
    poll_here :
        Almost (moves t (P k)) →
        AllPresent (moves t (P k)) →
        let i = in_units c.first in
        let j = cond (two_stage_lem c.state) (in_units c.second) (in_units c.first) in
        put_back t k i j
        (carry_out (step_effect t.counts.profile (P k) t.counter c (read t k j).register.flag (stored (read t k i).next)) k c (read t k i) (read t k j)) ≡
        performed t (P k)
    poll_here a here =
        ap
        (λ (i : UnitNo).
        let j = cond (two_stage_lem c.state) (in_units c.second) (in_units c.first) in
        put_back t k i j
        (carry_out (step_effect t.counts.profile (P k) t.counter c (read t k j).register.flag (stored (read t k i).next)) k c (read t k i) (read t k j)))
        (unit_itself c.first first_there) ∙
        ap
        (λ (j : UnitNo).
        put_back t k c.first j
        (carry_out (step_effect t.counts.profile (P k) t.counter c (read t k j).register.flag (stored (read t k c.first).next)) k c (read t k c.first) (read t k j)))
        awaited_place ∙
        ap
        (λ (b : Best). polled (step_effect t.counts.profile (P k) t.counter c (register_of t (awaited c) k.0).flag b))
        (stored_next cores (unit_of t c.first.0) ((parts t ok).unit c.first.0 first_there).next (omega arith)) ∙
        polls a here

    -- Interrupting: in T the core leaves; in D it leaves if its flag is set, and else it only is marked
    interrupt_here :
        AllPresent (moves t (I k)) →
        let i = in_units c.first in
        let j = cond (two_stage_lem c.state) (in_units c.second) (in_units c.first) in
        put_back t k i j (carry_out (interrupt t.counts.profile t.counter c (read t k j).register.flag) k c (read t k i) (read t k j)) ≡
        performed t (I k)
    interrupt_here present =
        ap (λ (f : Bool). interrupted (interrupt t.counts.profile t.counter c f)) (ap (λ (u : UnitNo). (register_of t u.0 k.0).flag) awaited_place) ∙
        go t.counts.profile (register_of t (awaited c) k.0).flag present
      where
        interrupted : Effect → Stepped
        interrupted e =
            let i = in_units c.first in
            let j = cond (two_stage_lem c.state) (in_units c.second) (in_units c.first) in
            put_back t k i j (carry_out e k c (read t k i) (read t k j))

        go :
            (p : Profile) (f : Bool) →
            let e = interrupt p t.counter c f in
            AllPresent (affected t k.0 e) →
            interrupted e ≡ settled (affected t k.0 e) e.answer e.ticket
        go T f here = leave_here waits_at _ _ here
        go D true here = leave_here waits_at _ _ here
        go D false here = settled_none (affected t k.0 (marked_away t.counter c)) _ _ quiet_all

-- The step whole

-- the plan of a step of core k, put back, by the verdict
abbrev whole : Table → Step → CoreNo → Verdict → Stepped
whole t s k v =
    let c = core_of t k.0 in
    let i = unit_place s c in
    let j = other_place s c in
    let x = part_of k.0 (unit_of t i.0) in
    let y = part_of k.0 (unit_of t j.0) in
    put_back t k i j (decided v t.counter c x y (carry_out (effect_of s t.counts t.counter c x y) k c x y))

off : (b : Bool) (v : Verdict) → b ≡ true → unless b NoCore v ≡ Refused NoCore
off true v e = refl
off false v e = ap (λ (b : Bool). unless b NoCore v) e

far_off : (s : Step) (d : Counts) (l : Bool) (c : Core) → no_core d (whose s) ≡ true → judge s d l c ≡ Refused NoCore
far_off (R k u) d l c e = off _ _ e
far_off (N k u) d l c e = off _ _ e
far_off (P k) d l c e = off _ _ e
far_off (I k) d l c e = off _ _ e
far_off (C k) d l c e = off _ _ e
far_off (L k) d l c e = off _ _ e

-- a core that stands nowhere has its registers blank
nowhere :
    (t : Table) → sound t ≡ true → (k u : ℕ) → k < cores → u < units →
    stands (core_of t k).state ≡ false → two_stage_lem (core_of t k).state ≡ false → register_of t u k ≡ blank
nowhere t ok k u h l a b = bare t (parts t ok) k h u l (no_and _ _ a) (no_and _ _ b)

allowed :
    (t : Table) (shaped : Shaped t) (ok : sound t ≡ true) (s : Step) → verdict t s ≡ Allowed → AllPresent (moves t s) →
    whole t s (whose s) Allowed ≡ performed t s
allowed t shaped ok (R k u) may here =
    let r = may_request t k u may in
    let i = request_in t k ok u may in
    enter_here t shaped ok k r.within u _ t.counter _ i.1
    (nowhere t ok k.0 u.0 i.0 i.1 (ap stands r.state) (ap two_stage_lem r.state))
    (moves_almost t shaped (parts t ok) (R k u) may) here
    (two_stage_lem (core_of t k.0).state) (ap two_stage_lem r.state)
allowed t shaped ok (N k u) may here =
    let r = may_nest t k u may in
    let i = nest_in t k ok u may in
    enter_here t shaped ok k r.within u _ (core_of t k.0).own t.counter i.1
    (bare_one t (parts t ok) k.0 i.0 (ap two_stage_lem r.state) u.0 i.1 (λ e. omega arith))
    (moves_almost t shaped (parts t ok) (N k u) may) here
    (two_stage_lem (core_of t k.0).state) (ap two_stage_lem r.state)
allowed t shaped ok (P k) may here =
    poll_here t shaped ok k (may_poll t k may).0 (poll_in t k ok may).1 (moves_almost t shaped (parts t ok) (P k) may) here
allowed t shaped ok (I k) may here =
    let r = may_interrupt t k may in
    interrupt_here t shaped ok k r.0 (⊎_elim (λ e. ap waits e) (λ e. ap waits e) r.1) here
allowed t shaped ok (C k) may here =
    come_cases t.counter c Comes
    (λ e almost present.
    enter_here t shaped ok k r.within c.first _ c.own t.counter i.1 (bare_there (ap stands e) (ap two_stage_lem e)) almost present
    (two_stage_lem c.state) (ap two_stage_lem e))
    (λ e almost present. settled_none (affected t k.0 (go_on t.counter c)) _ _ (sound_quiet t (parts t ok)))
    (λ e almost present.
    enter_here t shaped ok k r.within c.first _ t.counter _ i.1 (bare_there (ap stands e) (ap two_stage_lem e)) almost present
    (two_stage_lem c.state) (ap two_stage_lem e))
    r.state (moves_almost t shaped (parts t ok) (C k) may) here
  where
    c : Core
    c = core_of t k.0

    r : ComingBack t k
    r = may_come_back t k may

    i : (k.0 < cores) × (c.first.0 < units)
    i = come_back_in t k ok may

    bare_there : stands c.state ≡ false → two_stage_lem c.state ≡ false → register_of t c.first.0 k.0 ≡ blank
    bare_there = nowhere t ok k.0 c.first.0 i.0 i.1

    Comes : Effect → Type 0
    Comes e =
        Almost (affected t k.0 e) →
        AllPresent (affected t k.0 e) →
        let i = in_units c.first in
        let j = cond (two_stage_lem c.state) (in_units c.second) (in_units c.first) in
        put_back t k i j (carry_out e k c (part_of k.0 (unit_of t i.0)) (part_of k.0 (unit_of t j.0))) ≡
        settled (affected t k.0 e) e.answer e.ticket
allowed t shaped ok (L k) may here = leave_here t shaped ok k (may_release t k may).0 (release_in t k ok may).1 _ _ here

pub by_parts :
    (t : Table) (s : Step) →
    Shaped t →
    sound t ≡ true →
    (verdict t s ≡ Allowed → AllPresent (moves t s)) →
    let k = core_place s in
    let c = core_of t k.0 in
    let i = unit_place s c in
    let j = other_place s c in
    put_back t k i j
    (plan_step s t.counts t.counter (late t) c (part_of k.0 (unit_of t i.0)) (part_of k.0 (unit_of t j.0))) ≡
    on_sound t s
unfolding plan_step on_sound
by_parts t s shaped ok present = go (ltb (whose s).0 cores) refl
  where
    put_back_lem : (k : CoreNo) (a : Answer) → whole t s k (Refused a) ≡ refusal t a
    put_back_lem k a =
        let i = unit_place s (core_of t k.0) in
        let j = other_place s (core_of t k.0) in
        nothing t k i j a (part_of k.0 (unit_of t i.0)) (part_of k.0 (unit_of t j.0))

    judged : (v : Verdict) → verdict t s ≡ v → whole t s (whose s) v ≡ answered t v (performed t s)
    judged Allowed e = allowed t shaped ok s e (present e)
    judged (Refused a) e = put_back_lem (whose s) a

    go :
        (b : Bool) →
        ltb (whose s).0 cores ≡ b →
        whole t s (core_place s) (judge s t.counts (late t) (core_of t (core_place s).0)) ≡ answered t (verdict t s) (performed t s)
    go true e =
        ap (λ (k : CoreNo). whole t s k (judge s t.counts (late t) (core_of t k.0))) (core_itself (whose s) (ltb-true (whose s).0 cores e)) ∙
        judged (verdict t s) refl
    go false e =
        let few = cores_few t.counts (parts t ok).counts in
        let off : no_core t.counts (whose s) ≡ true = le-leb t.counts.cores (whose s).0 (omega (arith, few, ltb-false (whose s).0 cores e)) in
        ap (whole t s (core_place s)) (far_off s t.counts (late t) (core_of t (core_place s).0) off) ∙
        put_back_lem (core_place s) NoCore ∙
        sym (ap (λ (v : Verdict). answered t v (performed t s)) (far_off s t.counts (late t) (core_of t (whose s).0) off))
